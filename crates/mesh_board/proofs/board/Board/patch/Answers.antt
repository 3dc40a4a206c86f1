-- The patch has the sets' nodes, and the field and the level map of the world.
use Rattle.std.proofs.Common.{◌≡◌, Global, List, length, map, ◌-◌, take, drop, refl, sym, ap, ◌∙◌, subst}
use Rattle.std.specs.Arc.{arc_value}
use Rattle.std.specs.Prelude.{IfOk, Result, Vec}
use Rattle.std.specs.declared.alloc.AllocError.{AllocError}
use Rattle.std.specs.Vec.{vec_items}
use Rattle.std.proofs.Math.Seq.{take-length}
use Rattle.std.proofs.lemmas.List.{length-drop}
use Rattle.terrain.specs.declared.event.Event.{Event}
use Rattle.std.proofs.lemmas.Iterator.{items_from_collect}
use Rattle.std.proofs.lemmas.Iterator.Consumers.{YieldsList-from_first}
use Rattle.lattice.specs.declared.node.Node.{Node}
use Rattle.octree.specs.SplitBits.{split_at}
use Rattle.terrain.specs.Levels.{IsBalanced}
use Rattle.node_tables.specs.Members.{members, members_left}
use Rattle.snapshots.specs.declared.patch.Patch.{Patch}
use Rattle.event_laws.specs.Changes.{change}
use Rattle.snapshots.specs.Patch.{changes_of}
use Rattle.mesh_board.specs.Board.{BoardState, IsReady, events_since, is_gone, is_put, marked_events, present_brick}
use Rattle.mesh_board.specs.Leads.{Leads}
use Rattle.mesh_board.specs.Parts.{board_of}
use Rattle.mesh_board.proofs.BoardLemmas.{AreOf, AreOf-lent}
use Rattle.mesh_board.proofs.PatchLemmas.{IsMadeFrom, bricks-are, changes-are, fresh-put, leads}
use Rattle.mesh_board.proofs.board.Board.patch.Goals as goal

pub blocks_of-requires : goal.blocks_of-requires
blocks_of-requires c =
    fresh-put (board_of c.self.inside) c.list_touched.new.nodes c.self.invariant.board
    (subst IsReady (sym c.self.view_is) c.requires)
    (λ n. c.list_touched.ensures.each n ∙ ap (λ b. is_put b n) (sym c.self.view_is))

-- its events
events-is : (c : goal.After-drop-nodes-2) → c.in_ok-to_vec.field-0.items
    ≡ events_since (board_of c.self.inside)
events-is c =
    let h : c.in_ok-to_vec.field-0.items ≡ take (length c.events.result.now - c.self.inside.marked)
    (drop c.self.inside.marked c.events.result.now) =
    c.in_ok-to_vec.ensures.items_if_clones_equal (λ x y same. same) in
    let since : List Event = drop c.self.inside.marked c.events.result.now in
    h
    ∙ ap (λ n. take n since) (sym (length-drop c.self.inside.marked c.events.result.now))
    ∙ take-length since ∙ ap (drop c.self.inside.marked) c.events.ensures.value

pub returns-clause-events : goal.returns-clause-events
returns-clause-events c =
    events-is c ∙ ap events_since c.self.view_is

-- the patch
abbrev made : goal.After-drop-nodes-2 → Patch
made c = record {
  base = c.self.inside.marked;
  events = c.in_ok-to_vec.field-0;
  version = c.in_ok-try_clone.field-0;
  levels = c.in_ok-try_clone-2.field-0;
  put = c.in_ok-put.put;
  gone = c.in_ok-collect.field-0;
}

-- its gone nodes
gone-is : (c : goal.After-drop-nodes-2) → c.in_ok-collect.field-0.items
    ≡ members c.list_lost.new.nodes
gone-is c =
    let P : Result (Vec Node Global) AllocError → Type 0 = λ r.
    IfOk r (λ w. vec_items w ≡ members c.list_lost.new.nodes) in
    subst P c.in_ok-collect.was (items_from_collect c.collect.result c.collect.ensures.ran
    (YieldsList-from_first (λ x. x) members_left (members c.list_lost.new.nodes) c.iter.ensures))

-- how it is made
made-from : (c : goal.After-drop-nodes-2) → IsMadeFrom c.self.inside (made c)
made-from c =
    let world = c.self.inside.world in
    let are : AreOf world.settings world.events (arc_value c.in_ok-try_clone.field-0)
    (arc_value c.in_ok-try_clone-2.field-0) =
    AreOf-lent world c.version.result.now.value (arc_value c.in_ok-try_clone.field-0)
    c.levels.result.now.value (arc_value c.in_ok-try_clone-2.field-0) c.in_ok-try_clone.ensures
    c.version.ensures.depth c.version.ensures.samples c.in_ok-try_clone-2.ensures
    c.levels.ensures.depth c.levels.ensures.split in
    record {
      put = c.list_touched.new.nodes;
      gone = c.list_lost.new.nodes;
      base = refl;
      events = events-is c;
      are = are;
      balanced = subst (λ b. IsBalanced world.settings.depth (split_at b))
          (sym c.in_ok-try_clone-2.ensures) c.levels.ensures.balanced;
      put_depth = c.list_touched.ensures.depth
          ∙ ap (λ b. b.world.settings.depth) (sym c.self.view_is);
      put_each = λ n. c.list_touched.ensures.each n ∙ ap (λ b. is_put b n) (sym c.self.view_is);
      blocks = c.in_ok-put.ensures;
      gone_depth = c.list_lost.ensures.depth
          ∙ ap (λ b. b.world.settings.depth) (sym c.self.view_is);
      gone_each = λ n. c.list_lost.ensures.each n ∙ ap (λ b. is_gone b n) (sym c.self.view_is);
      gone_items = gone-is c;
    }

pub returns-clause-leads : goal.returns-clause-leads
returns-clause-leads c =
    let P : BoardState → Type 0 = λ b. Leads b (made c) in
    subst P c.self.view_is (leads c.self.inside c.self.invariant (made c) (made-from c))

pub returns-clause-changes : goal.returns-clause-changes
returns-clause-changes c =
    changes-are c.self.inside c.self.invariant (made c) (made-from c)
    ∙ ap (λ (b : BoardState). change b.world.settings (marked_events b) (events_since b))
    c.self.view_is

pub returns-clause-bricks : goal.returns-clause-bricks
returns-clause-bricks c =
    bricks-are c.self.inside c.self.invariant (made c) (made-from c)
    ∙ ap (λ b. map (present_brick b) (changes_of (made c)).put) c.self.view_is
