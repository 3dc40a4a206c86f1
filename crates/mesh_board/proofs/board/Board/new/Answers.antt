-- The board of the empty journal: its one leaf is the root, which is fresh.
use Rattle.std.proofs.Common.{◌≡◌, ◌≢◌, [], sym, ap, ◌∙◌, subst, refl}
use Rattle.std.specs.Arc.{arc_value}
use Rattle.lattice.specs.declared.node.Node.{Node}
use Rattle.lattice.specs.declared.settings.Settings.{Settings}
use Rattle.lattice.specs.Node.{IsNode, root}
use Rattle.terrain.specs.Blocks.{Brick, brick}
use Rattle.event_laws.specs.Changes.{brick_after}
use Rattle.block_mesh.specs.Done.{DoneState}
use Rattle.node_tables.specs.NodeBits.{has}
use Rattle.mesh_board.specs.LeafStates.{IsFresh, fresh, no_leaf, state_at}
use Rattle.mesh_board.proofs.OpeningLemmas.{AreParts-opening, opening-settled}
use Rattle.mesh_board.proofs.board.Board.new.Goals as goal

-- the block is of the root
of_root : (done : DoneState) (settings : Settings)
    → done.brick ≡ brick_after settings [] (root settings.depth)
    → done.brick.node ≡ root settings.depth
unfolding brick
of_root done settings is = ap (λ (b : Brick). b.node) is

pub insert-requires : goal.insert-requires
insert-requires c =
    let settings = c.args.settings in
    let leaf = (c.levels_follow_the_viewpoints.ensures.root settings (root settings.depth)).1 refl
    in
    subst (IsNode c.in_ok-marked_leaves.marked_leaves.depth) (sym c.root-root.ensures)
    (subst (λ d. IsNode d (root settings.depth)) (sym c.in_ok-marked_leaves.ensures.depth)
    leaf.node)

pub root_block-requires : goal.root_block-requires
root_block-requires c = c.in_ok-world.ensures.stands.journal

pub keep-requires : goal.keep-requires
keep-requires c =
    let settings = c.in_ok-world.world.settings in
    let leaf = (c.levels_follow_the_viewpoints.ensures.root settings (root settings.depth)).1 refl
    in
    subst (IsNode c.in_ok-leaves.leaves.depth)
    (sym (of_root (arc_value c.in_ok-done.done) settings c.in_ok-done.ensures))
    (subst (λ d. IsNode d (root settings.depth))
    (ap (λ s. s.depth) c.in_ok-world.ensures.stands.settings ∙ sym c.in_ok-leaves.ensures.depth)
    leaf.node)

-- the root is fresh, and no other node is a leaf
fresh_is : (c : goal.After-keep)
    → state_at c.keep.new.self (root c.in_ok-world.world.settings.depth)
    ≡ fresh (arc_value c.in_ok-done.done)
fresh_is c =
    ap (state_at c.keep.new.self) (sym (of_root (arc_value c.in_ok-done.done)
    c.in_ok-world.world.settings c.in_ok-done.ensures)) ∙ c.keep.ensures.fresh.here

others : (c : goal.After-keep) (n : Node) → n ≢ root c.in_ok-world.world.settings.depth
    → state_at c.keep.new.self n ≡ no_leaf
others c n other =
    c.keep.ensures.fresh.others n (λ same. other (same ∙ of_root (arc_value c.in_ok-done.done)
    c.in_ok-world.world.settings c.in_ok-done.ensures)) ∙ c.in_ok-leaves.ensures.none n

pub invariant_of-result : goal.invariant_of-result
invariant_of-result c =
    let world = c.in_ok-world.world in
    let stands = c.in_ok-world.ensures.stands in
    let depth : c.args.settings.depth ≡ world.settings.depth =
    ap (λ s. s.depth) (sym stands.settings)
    in
    let at : c.root-root.result ≡ root world.settings.depth = c.root-root.ensures ∙ ap root depth in
    AreParts-opening world c.keep.new.self c.insert.new.self c.in_ok-touched.touched
    (arc_value c.in_ok-done.done)
    c.levels_follow_the_viewpoints.ensures.none c.levels_follow_the_viewpoints.ensures.root
    (fresh_is c) (others c) stands.journal
    (λ n. c.touched_nodes_add_up.ensures.none world.settings [] n) c.in_ok-done.ensures
    c.keep.ensures.done
    (c.keep.ensures.fresh.depth ∙ c.in_ok-leaves.ensures.depth ∙ depth)
    (c.insert.ensures.depth ∙ c.in_ok-marked_leaves.ensures.depth ∙ depth)
    (ap (has c.insert.new.self) (sym at) ∙ c.insert.ensures.here)
    (λ n other. c.insert.ensures.others n (λ same. other (same ∙ at))
    ∙ c.in_ok-marked_leaves.ensures.none n)
    (c.in_ok-touched.ensures.depth ∙ depth) c.in_ok-touched.ensures.none

pub returns-clause-root : goal.returns-clause-root
returns-clause-root c =
    let depth = ap (λ s. s.depth) c.in_ok-world.ensures.stands.settings in
    subst (λ d. IsFresh (state_at c.keep.new.self (root d))) depth
    (subst IsFresh (sym (fresh_is c)) tt)

pub returns-clause-ready : goal.returns-clause-ready
returns-clause-ready c =
    opening-settled c.in_ok-world.world c.keep.new.self c.insert.new.self c.in_ok-touched.touched
    (arc_value c.in_ok-done.done)
    c.levels_follow_the_viewpoints.ensures.none c.levels_follow_the_viewpoints.ensures.root
    (fresh_is c) (others c)
