-- The words of a level's rows are one after another; level 0 has none, nor has one that isn't in the world.
use Rattle.std.proofs.Common.{◌≡◌, ℕ, ◌+◌, ◌-◌, ◌*◌, List, length, take, drop, ap, sym, ◌∙◌, subst, arith}
use Rattle.std.proofs.lemmas.Bool.{false_from_ne_true}
use Rattle.lattice.specs.declared.node.Node.{Node}
use Rattle.lattice.specs.Node.{is_node, nodes_across}
use Rattle.lattice.proofs.TestLemmas.{node_test}
use Rattle.octree.specs.Layers.{IsLayer}
use Rattle.octree.specs.SplitBits.{SplitBits, rows_below}
use Rattle.octree.proofs.LayerLemmas.{IsLayer-none, IsLayer-part}
use Rattle.octree.proofs.RowLemmas.{layer-below}
use Rattle.octree.proofs.SplitAtLemmas.{split_at-low, split_at-off}
use Rattle.octree.proofs.levels.Levels.layer.Goals as goal
use Rattle.octree.proofs.levels.Levels.layer.Goals.{then-level-eq0-via-then-level-eq0, then-level-eq0-via-else-level-eq0+then-level-self}

pub invariant_of-result : goal.invariant_of-result
invariant_of-result c =
    let levels = c.args.self.now in
    let same : c.self.inside.depth ≡ levels.depth =
    ap (λ (l : SplitBits). l.depth) c.self.view_is in
    IsLayer-none levels c.args.level (λ k j i.
    let n : Node = record { level = c.args.level; k = k; j = j; i = i } in
    elim c.then-level-eq0.branch [
      | then-level-eq0-via-then-level-eq0 w ↦ split_at-low levels n w.if-level-eq0.true
      | then-level-eq0-via-else-level-eq0+then-level-self w ↦
          split_at-off levels n (false_from_ne_true (is_node levels.depth n) (λ on.
          let h = (node_test levels.depth n).0 on in
          omega (arith, h.level, w.if-level-self.true, same)))
    ])

pub slice_bounds-result-end-2 : goal.slice_bounds-result-end-2
slice_bounds-result-end-2 c =
    let depth = c.self.inside.depth in
    let square : c.nodes_across-across.result * c.nodes_across-across.result
    ≡ nodes_across depth c.args.level * nodes_across depth c.args.level =
    ap (λ n. n * n) c.nodes_across-across.ensures in
    omega (
      arith,
      square,
      layer-below depth c.args.level (omega arith) (omega arith),
      c.self.invariant.long,
      ap length c.deref-2.ensures.value,
      c.rows_below-first.ensures,
    )

pub invariant_of-result-2 : goal.invariant_of-result-2
invariant_of-result-2 c =
    let levels : SplitBits =
    record { depth = c.self.inside.depth; rows = c.self.inside.rows.items } in
    let level = c.args.level in
    let across = c.nodes_across-across.result in
    let first = c.rows_below-first.result in
    let count : first + across * across - first ≡ across * across = omega arith in
    let part : take (first + across * across - first) (drop first c.deref-2.result.now)
    ≡ take (nodes_across levels.depth level * nodes_across levels.depth level)
    (drop (rows_below levels.depth level) levels.rows) =
    ap (λ n. take n (drop first c.deref-2.result.now)) count
    ∙ (λ t. take (c.nodes_across-across.ensures t * c.nodes_across-across.ensures t)
    (drop (c.rows_below-first.ensures t) (c.deref-2.ensures.value t))) in
    subst (λ (l : SplitBits). IsLayer l level across
    (take (first + across * across - first) (drop first c.deref-2.result.now))) c.self.view_is
    (subst (λ (rows : List ℕ). IsLayer levels level across rows) (sym part)
    (subst (λ n. IsLayer levels level n
    (take (nodes_across levels.depth level * nodes_across levels.depth level)
    (drop (rows_below levels.depth level) levels.rows))) (sym c.nodes_across-across.ensures)
    (IsLayer-part levels c.self.invariant level (omega arith) (omega arith))))
