-- The patch of a ready board has what the events since the mark change (`changes-are`), and fits each frame of the
-- marked journal (`leads`). The board keeps the leaves at the mark and the nodes touched since as sets, so two set
-- operations give the nodes that a patch puts (`put_are`) and those that are gone (`gone_are`). Listed in the order of
-- nodes they are what `change` gives for the events since (`put-is`, `gone-is`). Each leaf that is put is fresh on a
-- ready board (`fresh-put`), so its block has its present brick (`bricks-of`, `bricks-are`). The marked journal and the
-- patch's events together are the journal.
use Rattle.std.proofs.Common.{◌≡◌, Bool, true, List, [], ◌∷◌, ◌++◌, map, take, drop, All, refl, sym, ap, ◌∙◌, subst, arith}
use Rattle.std.specs.Arc.{arc_value}
use Rattle.std.specs.Prelude.{◌&&◌, filter, not}
use Rattle.std.proofs.lemmas.Bool.{and_parts, false≢true}
use Rattle.std.proofs.lemmas.List.{length-take-le, take-append-drop}
use Rattle.std.proofs.lemmas.List.Elements.{filter_agree}
use Rattle.std.proofs.Math.Bool.{and_comm}
use Rattle.field_pages.specs.Pages.{HoldsField}
use Rattle.lattice.specs.declared.node.Node.{Node}
use Rattle.lattice.specs.declared.settings.Settings.{Settings}
use Rattle.lattice.specs.Node.{nodes}
use Rattle.octree.specs.SplitBits.{split_at}
use Rattle.terrain.specs.declared.event.Event.{Event}
use Rattle.terrain.specs.History.{IsLawfulEvent, sample}
use Rattle.terrain.specs.Levels.{IsBalanced, is_leaf, levels}
use Rattle.event_laws.specs.Changes.{brick_after, change, is_touched}
use Rattle.node_tables.specs.Members.{members}
use Rattle.node_tables.specs.NodeBits.{NodeBits, has}
use Rattle.block_mesh.specs.Done.{DoneState}
use Rattle.snapshots.specs.Frame.{FrameState}
use Rattle.snapshots.specs.Patch.{Fits, changes_of}
use Rattle.snapshots.specs.declared.patch.Patch.{Patch}
use Rattle.mesh_board.specs.Board.{BoardState, IsBoard, IsReady, events_since, is_gone, is_leaf_of, is_put, marked_events, present_brick, state_of}
use Rattle.mesh_board.specs.LeafStates.{IsFresh, IsSettled, LeafState, fresh, is_leaf_state, no_leaf, out, state_at, wanted}
use Rattle.mesh_board.specs.Leads.{Leads}
use Rattle.mesh_board.specs.Parts.{AreParts, board_of}
use Rattle.mesh_board.specs.declared.board.Board.TheInside.{Inside}
use Rattle.snapshots.proofs.ChangesLemmas.{nodes_of_blocks}
use Rattle.mesh_board.proofs.BoardLemmas.{AreOf}
use Rattle.mesh_board.proofs.ListLemmas.{filter-filter}

-- ---- the sets of nodes

-- the leaves among the touched nodes are those that a patch puts
pub put_are : (inside : Inside) (board : BoardState) (touched leaves put : NodeBits)
    → AreParts inside → board_of inside ≡ board → touched ≡ inside.touched
    → ((n : Node) → has leaves n ≡ is_leaf_state (state_at inside.leaves n))
    → ((n : Node) → has put n ≡ (has touched n && has leaves n)) → (n : Node)
    → has put n ≡ is_put board n
put_are inside board touched leaves put sound seen same each are n =
    are n ∙ (λ t. has (same t) n && each n t)
    ∙ (λ t. sound.touched n t && sound.board.leaf n t) ∙ ap (λ b. is_put b n) seen

-- the marked leaves that aren't leaves are those that it names as gone
pub gone_are : (inside : Inside) (board : BoardState) (marked leaves gone : NodeBits)
    → AreParts inside → board_of inside ≡ board → marked ≡ inside.marked_leaves
    → ((n : Node) → has leaves n ≡ is_leaf_state (state_at inside.leaves n))
    → ((n : Node) → has gone n ≡ (has marked n && not (has leaves n))) → (n : Node)
    → has gone n ≡ is_gone board n
gone_are inside board marked leaves gone sound seen same each are n =
    are n ∙ (λ t. has (same t) n && not (each n t))
    ∙ (λ t. sound.marked_leaves n t && not (sound.board.leaf n t)) ∙ ap (λ b. is_gone b n) seen

-- ---- the blocks of the leaves

-- a settled leaf is fresh
fresh-from : (state : LeafState) → IsSettled state → is_leaf_state state ≡ true → IsFresh state
fresh-from no_leaf settled leaf = absurd (false≢true leaf)
fresh-from wanted settled leaf = absurd settled
fresh-from out settled leaf = absurd settled
fresh-from (fresh done) settled leaf = tt

-- so are the leaves that a patch of a ready board puts
pub fresh-put : (board : BoardState) (put : NodeBits) → IsBoard board → IsReady board
    → ((n : Node) → has put n ≡ is_put board n) → (n : Node) → has put n ≡ true
    → IsFresh (state_of board n)
fresh-put board put is ready each n listed =
    fresh-from (state_of board n) (ready n)
    (is.leaf n ∙ (and_parts (is_touched board.world.settings (marked_events board)
    (events_since board) n) (is_leaf_of board n) (sym (each n) ∙ listed)).1)

-- blocks of fresh leaves have their present bricks
pub bricks-of : {A : Type 0} (value : A → DoneState) (board : BoardState) (xs : List A)
    (ns : List Node)
    → ((n : Node) (done : DoneState) → state_of board n ≡ fresh done
    → done.brick ≡ present_brick board n)
    → map (λ x. fresh (value x)) xs ≡ map (state_at board.leaves) ns
    → map (λ x. (value x).brick) xs ≡ map (present_brick board) ns
bricks-of value board [] [] present same = refl
bricks-of value board [] (n ∷ ns) present same = absurd (cc)
bricks-of value board (x ∷ xs) [] present same = absurd (cc)
bricks-of value board (x ∷ xs) (n ∷ ns) present same =
    let head : fresh (value x) ≡ state_at board.leaves n = cc in
    let tail : map (λ y. fresh (value y)) xs ≡ map (state_at board.leaves) ns = cc in
    let rest = bricks-of value board xs ns present tail in
    λ t. present n (value x) (sym head) t ∷ rest t

-- ---- what the patch changes, and that it fits

-- a patch is made from the parts of a board: its base is the mark, its events are those since, its field and its level
-- map are those of the world, its blocks are the fresh ones of one set of leaves, and the nodes of another are gone
pub record IsMadeFrom (old : Inside) (patch : Patch) : Type 0 where
  pub put : NodeBits
  pub gone : NodeBits
  pub base : patch.base ≡ old.marked
  pub events : patch.events.items ≡ drop old.marked old.world.events
  pub are : AreOf old.world.settings old.world.events patch.version.value patch.levels.value
  pub balanced : IsBalanced old.world.settings.depth (split_at patch.levels.value)
  pub put_depth : put.depth ≡ old.world.settings.depth
  pub put_each : (n : Node) → has put n ≡ is_put (board_of old) n
  pub blocks : map (λ done. fresh (arc_value done)) patch.put.items
      ≡ map (state_at old.leaves) (members put)
  pub gone_depth : gone.depth ≡ old.world.settings.depth
  pub gone_each : (n : Node) → has gone n ≡ is_gone (board_of old) n
  pub gone_items : patch.gone.items ≡ members gone

module _ (old : Inside) (sound : AreParts old) (patch : Patch) (made : IsMadeFrom old patch) where
  -- the settings of the board's world
  abbrev settings : Settings
  settings = old.world.settings

  -- the marked journal
  abbrev before : List Event
  before = take old.marked old.world.events

  -- the events since
  abbrev since : List Event
  since = drop old.marked old.world.events

  -- the journal is the marked one and the patch's events
  whole : old.world.events ≡ before ++ patch.events.items
  whole =
      sym (ap (λ es. before ++ es) made.events ∙ take-append-drop old.marked old.world.events)

  -- the members of a set by two tests, one after another
  members-by : (set : NodeBits) (p q : Node → Bool) → set.depth ≡ settings.depth
      → ((n : Node) → has set n ≡ (q n && p n))
      → members set ≡ filter p (filter q (nodes settings.depth))
  members-by set p q depth each =
      ap (λ d. filter (has set) (nodes d)) depth
      ∙ filter_agree (has set) (λ n. q n && p n) each (nodes settings.depth)
      ∙ sym (filter-filter p q (nodes settings.depth))

  -- what is put is what the patch's events changed
  put-is : members made.put ≡ (change settings before patch.events.items).put
  put-is =
      members-by made.put (is_touched settings before since)
      (is_leaf settings.depth (levels settings old.world.events)) made.put_depth
      (λ n. made.put_each n
      ∙ and_comm (is_touched settings before since n)
      (is_leaf settings.depth (levels settings old.world.events) n))
      ∙ (λ t. filter (is_touched settings before (sym made.events t))
      (filter (is_leaf settings.depth (levels settings (whole t))) (nodes settings.depth)))

  -- and so is what is gone
  gone-is : members made.gone ≡ (change settings before patch.events.items).gone
  gone-is =
      members-by made.gone
      (λ n. not (is_leaf settings.depth (levels settings old.world.events) n))
      (is_leaf settings.depth (levels settings before)) made.gone_depth made.gone_each
      ∙ (λ t. filter (λ n. not (is_leaf settings.depth (levels settings (whole t)) n))
      (filter (is_leaf settings.depth (levels settings before)) (nodes settings.depth)))

  -- the blocks have the present bricks of what is put
  put-bricks : map (λ done. done.value.brick) patch.put.items
      ≡ map (present_brick (board_of old)) (members made.put)
  put-bricks =
      bricks-of (λ done. arc_value done) (board_of old) patch.put.items (members made.put)
      sound.board.brick made.blocks

  -- so they are of its leaves
  put-nodes : map (λ done. done.value.brick.node) patch.put.items ≡ members made.put
  put-nodes =
      nodes_of_blocks (λ done. done.value) settings old.world.events patch.put.items
      (members made.put) put-bricks

  -- the patch's blocks have the present bricks of their leaves
  pub bricks-are : map (λ done. done.value.brick) patch.put.items
      ≡ map (present_brick (board_of old)) (changes_of patch).put
  bricks-are = put-bricks ∙ ap (map (present_brick (board_of old))) (sym put-nodes)

  -- what the patch changes is what the events since the mark change
  pub changes-are : changes_of patch ≡ change settings before since
  changes-are = λ t. record {
    put = (put-nodes ∙ put-is ∙ ap (λ es. (change settings before es).put) made.events) t;
    gone = (made.gone_items ∙ gone-is
        ∙ ap (λ es. (change settings before es).gone) made.events) t;
  }

  -- so the patch leads on
  pub leads : Leads (board_of old) patch
  leads frame stands =
      let frame' : FrameState = record frame { settings = settings; events = before } in
      let same : ◌≡◌ {A = FrameState} frame' frame =
      λ t. record frame { settings = sym stands.settings t; events = sym stands.journal t } in
      subst (Fits patch) same (record {
        base = omega (
          arith,
          made.base,
          length-take-le old.marked old.world.events,
          sound.board.marked,
        );
        lawful = subst (All (IsLawfulEvent settings.depth)) whole sound.lawful;
        field_depth = made.are.field_depth;
        field = subst (λ es. HoldsField patch.version.value (sample settings es)) whole
            made.are.field;
        levels_depth = made.are.map_depth;
        split = λ n. made.are.map n ∙ ap (λ es. levels settings es n) whole;
        balanced = made.balanced;
        put = put-bricks ∙ (λ t. map (brick_after settings (whole t)) (put-is t));
        gone = made.gone_items ∙ gone-is;
      })
