-- Each row is one more of a plane, each plane one more of the level.
use Rattle.std.proofs.Common.{◌≡◌, ℕ, ◌++◌, filter, ap, ◌∙◌, arith}
use Rattle.lattice.specs.declared.node.Node.{Node}
use Rattle.lattice.specs.Lists.{joined}
use Rattle.lattice.specs.Node.{nodes_across}
use Rattle.terrain.specs.Levels.{is_leaf}
use Rattle.octree.specs.Layers.{LayerOf}
use Rattle.octree.specs.SplitBits.{row_bit, split_at}
use Rattle.octree.proofs.LeafLemmas.{row, plane, filtered-none, filtered-more, filtered-same, no_leaf-past}
use Rattle.octree.proofs.leaves.push_leaves.Goals as goal

pub loop-k-init : goal.loop-k-init
loop-k-init c = filtered-none _ _ _

pub loop-j-init : goal.loop-j-init
loop-j-init c = c.loop-k.invariant ∙ filtered-none _ _ _

-- the levels that were lent are those of the map
own : (c : goal.In_ok-push_nodes) (i : ℕ) → row_bit c.leaf_row.result i
    ≡ is_leaf c.args.levels.now.depth (split_at c.args.levels.now)
    (record { level = c.args.level; k = c.loop-k.k; j = c.loop-j.j; i = i })
own c i = c.leaf_row.ensures i ∙ ap (λ (l : LayerOf). is_leaf l.levels.depth (split_at l.levels)
    (record { level = l.level; k = c.loop-k.k; j = c.loop-j.j; i = i })) c.layer-own.ensures

pub loop-j-preserved : goal.loop-j-preserved
loop-j-preserved c =
    let levels = c.args.levels.now in
    let test = is_leaf levels.depth (split_at levels) in
    let across = nodes_across levels.depth c.args.level in
    let listed = c.in_ok-push_nodes.ensures across (λ i past.
    own c i ∙ no_leaf-past levels.depth (split_at levels) c.args.level c.loop-k.k c.loop-j.j i past)
    ∙ ap (λ l. c.loop-j.list.items ++ l)
    (filtered-same (λ (n : Node). row_bit c.leaf_row.result n.i) test
    (λ i. record { level = c.args.level; k = c.loop-k.k; j = c.loop-j.j; i = i }) across
    (λ i i_in. own c i)) in
    filtered-more test (row levels.depth c.args.level c.loop-k.k) _ _ _ c.loop-j.j
    c.loop-j.invariant listed

pub loop-k-preserved : goal.loop-k-preserved
loop-k-preserved c =
    let levels = c.args.levels.now in
    let test = is_leaf levels.depth (split_at levels) in
    let across : c.nodes_across-across.result ≡ nodes_across levels.depth c.args.level =
    c.nodes_across-across.ensures ∙ ap (λ d. nodes_across d c.args.level) c.depth.ensures.value in
    let ended : c.loop-j.j ≡ nodes_across levels.depth c.args.level = omega (arith, across) in
    filtered-more test (plane levels.depth c.args.level) c.args.list.now.items
    (c.args.list.now.items ++ filter test (joined c.loop-k.k (plane levels.depth c.args.level)))
    c.loop-j.list.items c.loop-k.k (λ t. c.args.list.now.items ++ filter test
    (joined c.loop-k.k (plane levels.depth c.args.level))) (
    c.loop-j.invariant ∙ ap (λ n. c.args.list.now.items ++ filter test
    (joined c.loop-k.k (plane levels.depth c.args.level)) ++ filter test
    (joined n (row levels.depth c.args.level c.loop-k.k))) ended)

pub returns : goal.returns
returns c =
    let levels = c.args.levels.now in
    let test = is_leaf levels.depth (split_at levels) in
    let across : c.nodes_across-across.result ≡ nodes_across levels.depth c.args.level =
    c.nodes_across-across.ensures ∙ ap (λ d. nodes_across d c.args.level) c.depth.ensures.value in
    let ended : c.loop-k.k ≡ nodes_across levels.depth c.args.level = omega (arith, across) in
    c.loop-k.invariant ∙ ap (λ n. c.args.list.now.items ++ filter test
    (joined n (plane levels.depth c.args.level))) ended
