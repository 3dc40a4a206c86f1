-- Each row is one more of a plane, each plane one more of the level.
use Rattle.std.proofs.Common.{◌≡◌, [], ◌∷◌, ◌++◌, filter, ap, ◌∙◌, arith}
use Rattle.lattice.specs.Lists.{joined}
use Rattle.lattice.specs.Node.{nodes_across}
use Rattle.octree.proofs.LeafLemmas.{row, plane, filtered-none, filtered-more}
use Rattle.patch_wire.specs.Written.{has_block}
use Rattle.patch_wire.proofs.text.push_level.Goals as goal

pub loop-k-init : goal.loop-k-init
loop-k-init c = filtered-none _ _ _

pub loop-j-init : goal.loop-j-init
loop-j-init c = c.loop-k.invariant ∙ filtered-none _ _ _

pub loop-j-preserved : goal.loop-j-preserved
loop-j-preserved c =
    let test = has_block c.args.replica.now in
    filtered-more test (row c.args.depth c.args.level c.loop-k.k) _ _ _ c.loop-j.j
    c.loop-j.invariant (c.in_ok-push_row.ensures
    ∙ ap (λ n. c.loop-j.list.items ++ filter test (joined n (λ i. record
    { level = c.args.level; k = c.loop-k.k; j = c.loop-j.j; i = i } ∷ [])))
    c.nodes_across-across.ensures)

pub loop-k-preserved : goal.loop-k-preserved
loop-k-preserved c =
    let test = has_block c.args.replica.now in
    let across : c.nodes_across-across.result ≡ nodes_across c.args.depth c.args.level =
    c.nodes_across-across.ensures in
    let ended : c.loop-j.j ≡ nodes_across c.args.depth c.args.level = omega (arith, across) in
    let before = c.args.list.now.items
    ++ filter test (joined c.loop-k.k (plane c.args.depth c.args.level)) in
    filtered-more test (plane c.args.depth c.args.level) c.args.list.now.items before
    c.loop-j.list.items c.loop-k.k (λ t. before)
    (c.loop-j.invariant ∙ ap (λ n. before ++ filter test
    (joined n (row c.args.depth c.args.level c.loop-k.k))) ended)

pub returns : goal.returns
returns c =
    let test = has_block c.args.replica.now in
    let across : c.nodes_across-across.result ≡ nodes_across c.args.depth c.args.level =
    c.nodes_across-across.ensures in
    let ended : c.loop-k.k ≡ nodes_across c.args.depth c.args.level = omega (arith, across) in
    c.loop-k.invariant ∙ ap (λ n. c.args.list.now.items ++ filter test
    (joined n (plane c.args.depth c.args.level))) ended
