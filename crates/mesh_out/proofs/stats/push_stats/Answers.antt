-- The numbers and what is written between them, piece by piece.
use Rattle.std.proofs.Common.{codes}
use Rattle.std.proofs.lemmas.Result.{on_ok_weaker}
use Rattle.mesh_out.proofs.TextLemmas.{appended-more, on_ok_extended}
use Rattle.mesh_out.proofs.stats.push_stats.Goals as goal

pub returns : goal.returns
returns c =
    let start = c.args.out.now.items in
    let leaves = appended-more start _ _ _ _ c.in_ok-extend_from_slice.ensures.items
    c.in_ok-push_number.ensures in
    let triangles = appended-more start _ _ _ _
    (appended-more start _ _ _ _ leaves c.in_ok-extend_from_slice-2.ensures.items)
    c.in_ok-push_number-2.ensures in
    let keys = appended-more start _ _ _ _
    (appended-more start _ _ _ _ triangles c.in_ok-extend_from_slice-3.ensures.items)
    c.in_ok-push_number-3.ensures in
    on_ok_weaker c.extend_from_slice-4.result
    (λ told. appended-more start _ _ _ _ keys told)
    (on_ok_extended c.extend_from_slice-4.result _ c.push_number-3.new.out.items (codes "\n")
    c.extend_from_slice-4.ensures.items)
