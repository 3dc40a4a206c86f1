-- The leaf's samples are those of the list that was filled.
use Rattle.std.proofs.Common.{sym, ◌∙◌}
use Rattle.std.proofs.lemmas.Bool.Decides.{Decides-int_eq}
use Rattle.std.proofs.lemmas.Slice.Eq.{slice_eq-Decides}
use Rattle.bricks.proofs.brick.has_leaf.Goals as goal

pub returns : goal.returns
returns c =
    let here = c.as_slice.ensures ∙ c.fill_leaf.ensures in
    let same = slice_eq-Decides Decides-int_eq c.args.samples.now c.as_slice.result.now
    c.eq.result c.eq.ensures in (
      (λ on. same.0 on ∙ here),
      (λ is. same.1 (is ∙ sym here)),
    )
