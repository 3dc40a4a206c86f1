-- A node that is the root or has a split parent is a leaf where it isn't split itself.
use Rattle.std.proofs.Common.{◌≡◌, Bool, true, false, refl, ◌∙◌}
use Rattle.std.specs.Prelude.{◌&&◌, ◌||◌, ◌==◌, not}
use Rattle.lattice.specs.declared.node.Node.{Node}
use Rattle.lattice.specs.Node.{is_node, parent}
use Rattle.octree.specs.SplitBits.{split_at}
use Rattle.octree.proofs.RowBitLemmas.{clear_bits}
use Rattle.octree.proofs.leaves.leaf_row.Goals as goal

-- two conditions may change places
swapped : (a b c : Bool) → ((a && b) && not c) ≡ ((a && not c) && b)
swapped true true true = refl
swapped true true false = refl
swapped true false true = refl
swapped true false false = refl
swapped false b c = refl

pub returns : goal.returns
returns c i =
    let levels = c.args.own.now.levels in
    let level = c.args.own.now.level in
    let n : Node = record { level = level; k = c.args.k; j = c.args.j; i = i } in
    clear_bits c.held_row.result c.row.result i c.held_row.type_inv c.row.type_inv
    ∙ (λ t. c.held_row.ensures i t && not (c.row.ensures.each i t))
    ∙ swapped (is_node levels.depth n)
    (level == levels.depth || split_at levels (parent n)) (split_at levels n)
