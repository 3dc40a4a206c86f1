-- The bit of the node in the word of its row is its own.
use Rattle.std.proofs.Common.{◌≡◌, ap, sym, ◌∙◌, subst, arith, get_or}
use Rattle.std.proofs.lemmas.List.{get_or_read}
use Rattle.lattice.specs.Node.{IsNode}
use Rattle.lattice.proofs.SizeLemmas.{across_most}
use Rattle.octree.specs.SplitBits.{SplitBits, row_bit, split_at}
use Rattle.octree.proofs.RowLemmas.{row-below}
use Rattle.octree.proofs.SplitAtLemmas.{row_of_node, split_at-read, split_at-low, split_at-off}
use Rattle.octree.proofs.levels.Levels.is_split.Goals as goal

pub returns-then-node-eq0 : goal.returns-then-node-eq0
returns-then-node-eq0 c = sym (split_at-low c.args.self.now c.args.node c.if-node-eq0.true)

pub index-requires : goal.index-requires
index-requires c =
    let depth = c.self.inside.depth in
    let n_in : IsNode depth c.args.node = c.is_in_world.ensures.fact.0
    c.if-is_in_world.true in
    omega (
      arith,
      row-below depth c.args.node.level c.args.node.k c.args.node.j
          (row_of_node depth c.args.node n_in (omega arith)),
      c.row_index.ensures,
      c.self.invariant.long,
    )

pub row_bit-requires : goal.row_bit-requires
row_bit-requires c =
    let depth = c.self.inside.depth in
    let n_in : IsNode depth c.args.node = c.is_in_world.ensures.fact.0
    c.if-is_in_world.true in
    omega (arith, n_in.i, across_most depth c.args.node.level c.self.invariant.depth)

pub returns-then-is_in_world : goal.returns-then-is_in_world
returns-then-is_in_world c =
    let levels : SplitBits =
    record { depth = c.self.inside.depth; rows = c.self.inside.rows.items } in
    let n_in : IsNode levels.depth c.args.node = c.is_in_world.ensures.fact.0
    c.if-is_in_world.true in
    let read = get_or_read levels.rows c.row_index.result c.index.result.now
    (omega (
      arith,
      row-below levels.depth c.args.node.level c.args.node.k c.args.node.j
          (row_of_node levels.depth c.args.node n_in (omega arith)),
      c.row_index.ensures,
      c.self.invariant.long,
    )) c.index.ensures 0 in
    subst (λ l. c.row_bit.result ≡ split_at l c.args.node) c.self.view_is (
    c.row_bit.ensures
    ∙ ap (λ w. row_bit w c.args.node.i) (read
    ∙ ap (λ r. get_or levels.rows r 0) c.row_index.ensures)
    ∙ sym (split_at-read levels c.args.node n_in (omega arith)))

pub returns-else-is_in_world : goal.returns-else-is_in_world
returns-else-is_in_world c =
    subst (λ levels. c.is_in_world.result ≡ split_at levels c.args.node) c.self.view_is (
    c.if-is_in_world.false ∙ sym (split_at-off _ c.args.node (sym c.is_in_world.ensures.test
    ∙ c.if-is_in_world.false)))
