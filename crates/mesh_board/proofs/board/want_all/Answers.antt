-- One more node is wanted, and in the set.
use Rattle.std.proofs.Common.{◌≡◌, ◌<◌, ℕ, List, length, get_or, ◌∙◌, arith}
use Rattle.std.proofs.lemmas.List.{get_or_default}
use Rattle.lattice.specs.declared.node.Node.{Node}
use Rattle.mesh_board.specs.LeafStates.{wanted}
use Rattle.mesh_board.proofs.WantLemmas.{listed-more, states-more}
use Rattle.mesh_board.proofs.board.want_all.Goals as goal

-- the node that is read is the one at its place
read : (nodes : List Node) (at : ℕ) (d : Node) → at < length nodes
    → get_or nodes at (get_or nodes at d) ≡ get_or nodes at d
read nodes at d within = get_or_default nodes at (get_or nodes at d) d within

pub loop-leaf-preserved : goal.loop-leaf-preserved
loop-leaf-preserved c =
    let within : c.loop-leaf.leaf-index < length c.args.nodes.now = omega arith in
    record {
      depth = c.want.ensures.depth ∙ c.loop-leaf.invariant.depth;
      touched_depth = c.insert.ensures.depth ∙ c.loop-leaf.invariant.touched_depth;
      states = states-more wanted c.args.leaves.now c.loop-leaf.leaves
          c.want.new.self c.args.nodes.now
          c.loop-leaf.leaf-index _ within (read c.args.nodes.now c.loop-leaf.leaf-index _ within)
          c.loop-leaf.invariant.states c.want.ensures.here c.want.ensures.others;
      touched = listed-more c.args.touched.now c.loop-leaf.touched
          c.insert.new.self c.args.nodes.now c.loop-leaf.leaf-index _ within
          (read c.args.nodes.now c.loop-leaf.leaf-index _ within) c.loop-leaf.invariant.touched
          c.insert.ensures.here c.insert.ensures.others;
    }
