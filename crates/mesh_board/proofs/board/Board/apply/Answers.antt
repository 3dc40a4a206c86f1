-- The board after an event: the touched leaves are wanted, and the lost ones are let go.
use Rattle.std.proofs.Common.{◌≡◌, ◌++◌, ◌∷◌, [], All, sym, take, ap, ◌∙◌, subst}
use Rattle.std.proofs.lemmas.List.{take-append-le}
use Rattle.std.specs.Prelude.{◌||◌}
use Rattle.lattice.specs.declared.node.Node.{Node}
use Rattle.lattice.specs.Node.{IsNode, is_among}
use Rattle.terrain.specs.History.{IsLawfulEvent}
use Rattle.terrain.specs.Levels.{IsOctree, levels, viewpoints}
use Rattle.node_tables.specs.NodeBits.{has}
use Rattle.terra_events.specs.World.{IsWorldOf}
use Rattle.mesh_board.specs.Board.{BoardState, marked_events, state_after}
use Rattle.mesh_board.specs.LeafStates.{state_at}
use Rattle.mesh_board.specs.Parts.{board_of}
use Rattle.mesh_board.proofs.BoardLemmas.{AreParts-after, lost-nodes, states-after, touched-leaf, touched-nodes}
use Rattle.mesh_board.proofs.board.Board.apply.Goals as goal

pub want_all-requires-clause-nodes : goal.want_all-requires-clause-nodes
want_all-requires-clause-nodes c =
    let all = touched-nodes c.self.inside.world.settings c.self.inside.world.events c.args.event in
    subst (λ d. All (IsNode d) c.deref.result.now) (sym c.self.invariant.touched_depth)
    (subst (All (IsNode c.self.inside.world.settings.depth))
    (sym (c.deref.ensures.value ∙ c.in_ok-touched.ensures.touched)) all)

pub forget_all-requires : goal.forget_all-requires
forget_all-requires c =
    let all = lost-nodes c.self.inside.world.settings c.self.inside.world.events c.args.event in
    subst (λ d. All (IsNode d) c.deref-2.result.now)
    (sym (c.want_all.ensures.depth ∙ c.self.invariant.leaves_depth))
    (subst (All (IsNode c.self.inside.world.settings.depth))
    (sym (c.deref-2.ensures.value ∙ c.in_ok-touched.ensures.lost)) all)

-- the level map after the event is an octree
octree : (c : goal.After-drop-touched-2) → IsOctree c.self.inside.world.settings.depth
    (levels c.self.inside.world.settings (c.self.inside.world.events ++ c.args.event ∷ []))
octree c =
    (c.maps_of_viewpoints_are_balanced.ensures c.self.inside.world.settings
    (viewpoints (c.self.inside.world.events ++ c.args.event ∷ []))).octree

-- the states then
states : (c : goal.After-drop-touched-2) (n : Node) → state_at c.forget_all.new.leaves n
    ≡ state_after (board_of c.self.inside) c.args.event n
states c =
    states-after c.self.inside c.args.event c.want_all.new.leaves c.forget_all.new.leaves
    c.deref.result.now c.deref-2.result.now c.self.invariant
    (c.deref.ensures.value ∙ c.in_ok-touched.ensures.touched)
    (c.deref-2.ensures.value ∙ c.in_ok-touched.ensures.lost)
    c.want_all.ensures.states c.forget_all.ensures.states

pub invariant_of-self-2 : goal.invariant_of-self-2
invariant_of-self-2 c =
    let settings = c.self.inside.world.settings in
    let events = c.self.inside.world.events in
    let lawful : IsLawfulEvent settings.depth c.args.event =
    subst (λ (b : BoardState). IsLawfulEvent b.world.settings.depth c.args.event)
    (sym c.self.view_is) c.requires in
    AreParts-after c.self.inside c.args.event c.self.invariant lawful
    c.touched_nodes_add_up.ensures.more
    c.untouched_leaves_keep_their_bricks.ensures.leaf
    c.untouched_leaves_keep_their_bricks.ensures.brick c.apply.new.self c.forget_all.new.leaves
    c.want_all.new.touched c.in_ok-touched.ensures.settings
    c.in_ok-touched.ensures.stands.journal
    (c.forget_all.ensures.depth ∙ c.want_all.ensures.depth) (states c)
    (λ n. touched-leaf settings events c.args.event n)
    c.want_all.ensures.touched_depth
    (λ n. c.want_all.ensures.touched n
    ∙ ap (λ ns. has c.self.inside.touched n || is_among ns n)
    (c.deref.ensures.value ∙ c.in_ok-touched.ensures.touched))
    (octree c)

pub returns-clause-stands : goal.returns-clause-stands
returns-clause-stands c =
    let P : BoardState → Type 0 = λ b.
    IsWorldOf c.apply.new.self b.world.settings (b.world.events ++ c.args.event ∷ []) in
    subst P c.self.view_is c.in_ok-touched.ensures.stands

pub returns-clause-marked_events : goal.returns-clause-marked_events
returns-clause-marked_events c =
    let old = c.self.inside in
    ap (take old.marked) c.in_ok-touched.ensures.stands.journal
    ∙ take-append-le old.marked old.world.events (c.args.event ∷ []) c.self.invariant.board.marked
    ∙ ap marked_events c.self.view_is

pub returns-clause-states : goal.returns-clause-states
returns-clause-states c n =
    states c n ∙ ap (λ b. state_after b c.args.event n) c.self.view_is
