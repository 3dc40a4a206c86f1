-- What a board's parts keep through its calls (`AreParts`), and what an event makes of the states of its leaves.
-- First, a field and a level map of the board's journal give each leaf's present brick (`made-is`,
-- `matches-present`). Then the calls that change one leaf's state (`AreParts-changed`, `AreParts-kept`) and that
-- recall all leaves (`AreParts-recalled`). The rest is `apply`: touched leaves are wanted, and the lost ones are let
-- go, so the states are those of the definition (`states-after`); and since an untouched leaf was a leaf and keeps its
-- brick, a leaf that is fresh still has its present one (`AreParts-after`). Why untouched leaves keep their bricks is
-- told in docs/rules.md, "Events and touched leaves".
use Rattle.std.proofs.Common.{◌≡◌, Bool, true, false, List, [], ◌∷◌, ◌++◌, get_or, take, drop, All, Contains, refl, sym, ap, ◌∙◌, subst, inl, inr, ◌↔◌, arith, length-append}
use Rattle.std.specs.Prelude.{◌&&◌, ◌||◌, if◌then◌else◌, not}
use Rattle.std.proofs.lemmas.Bool.{cases_Bool, false≢true}
use Rattle.std.proofs.lemmas.List.{drop-append-le, get_or_default, take-append-drop, take-append-le}
use Rattle.std.proofs.lemmas.List.Elements.{All-contains, All-filter, All-push, filter_passes}
use Rattle.field_pages.specs.Pages.{HoldsField, Pages, sample_at}
use Rattle.lattice.proofs.FamilyLemmas.{cases_Node}
use Rattle.lattice.specs.declared.node.Node.{Node}
use Rattle.lattice.specs.declared.settings.Settings.{Settings}
use Rattle.lattice.specs.Node.{IsNode, nodes, is_among}
use Rattle.lattice.specs.Point.{IsInWorld}
use Rattle.octree.specs.SplitBits.{SplitBits, split_at}
use Rattle.terrain.specs.declared.event.Event.{Event}
use Rattle.terrain.specs.Blocks.{Brick, brick, touched}
use Rattle.terrain.specs.History.{IsLawfulEvent, sample}
use Rattle.terrain.specs.Levels.{IsLeaf, IsOctree, is_leaf, leaves, levels}
use Rattle.event_laws.specs.Changes.{brick_after, is_touched}
use Rattle.node_tables.specs.NodeBits.{NodeBits, has}
use Rattle.lattice.proofs.SlotLemmas.{node_listed}
use Rattle.level_laws.proofs.AmongLemmas.{Contains-from, among_from}
use Rattle.level_laws.proofs.LeafLemmas.{leaf_test}
use Rattle.snapshots.proofs.FrameLemmas.{among_leaves, is_among-filter}
use Rattle.event_laws.specs.Laws.{TouchedAddUp, UntouchedKeepBricks, UntouchedWereLeaves, WorldsGiveBricks}
use Rattle.block_mesh.specs.Done.{DoneState, IsDone}
use Rattle.terra_events.specs.World.{WorldState, lost_by}
use Rattle.mesh_board.specs.Board.{BoardState, IsPresentBrick, is_leaf_of, present_brick, state_after, state_then}
use Rattle.mesh_board.specs.LeafStates.{ChangesState, LeafState, LeafStates, fresh, is_leaf_state, no_leaf, out, recalled, state_at, wanted}
use Rattle.mesh_board.specs.Parts.{AreParts, board_of}
use Rattle.mesh_board.specs.declared.board.Board.TheInside.{Inside}
use Rattle.mesh_board.proofs.StateLemmas.{not_a_leaf, recalled-leaf, same_fresh}

-- ---- the present brick

-- a field and a level map of a history
pub record AreOf (settings : Settings) (events : List Event) (pages : Pages) (bits : SplitBits)
    : Type 0 where
  pub field_depth : pages.depth ≡ settings.depth
  pub field : HoldsField pages (sample settings events)
  pub map_depth : bits.depth ≡ settings.depth
  pub map : (n : Node) → split_at bits n ≡ levels settings events n

-- those that a world lends
pub AreOf-lent : (world : WorldState) (pages lent_pages : Pages) (bits lent_bits : SplitBits)
    → lent_pages ≡ pages → pages.depth ≡ world.settings.depth
    → HoldsField pages (sample world.settings world.events) → lent_bits ≡ bits
    → bits.depth ≡ world.settings.depth
    → ((n : Node) → split_at bits n ≡ levels world.settings world.events n)
    → AreOf world.settings world.events lent_pages lent_bits
AreOf-lent world pages lent_pages bits lent_bits lent field_depth field lent' map_depth map =
    record {
      field_depth = ap (λ (p : Pages). p.depth) lent ∙ field_depth;
      field = subst (λ p. HoldsField p (sample world.settings world.events)) (sym lent) field;
      map_depth = ap (λ (b : SplitBits). b.depth) lent' ∙ map_depth;
      map = λ n. ap (λ b. split_at b n) lent' ∙ map n;
    }

-- the map as a whole
pub map-is : (settings : Settings) (events : List Event) (pages : Pages) (bits : SplitBits)
    → AreOf settings events pages bits → split_at bits ≡ levels settings events
map-is settings events pages bits are = λ t n. are.map n t

-- its leaves are the history's
pub leaf-is : (settings : Settings) (events : List Event) (pages : Pages) (bits : SplitBits)
    (n : Node) → AreOf settings events pages bits → IsLeaf bits.depth (split_at bits) n
    → IsLeaf settings.depth (levels settings events) n
leaf-is settings events pages bits n are leaf =
    subst (λ m. IsLeaf settings.depth m n) (map-is settings events pages bits are)
    (subst (λ d. IsLeaf d (split_at bits) n) are.map_depth leaf)

-- and the other way round
pub leaf-from : (settings : Settings) (events : List Event) (pages : Pages) (bits : SplitBits)
    (n : Node) → AreOf settings events pages bits
    → IsLeaf settings.depth (levels settings events) n → IsLeaf bits.depth (split_at bits) n
leaf-from settings events pages bits n are leaf =
    subst (λ d. IsLeaf d (split_at bits) n) (sym are.map_depth)
    (subst (λ m. IsLeaf settings.depth m n) (sym (map-is settings events pages bits are)) leaf)

-- the brick that is made from them is the history's
pub brick-is : (settings : Settings) (events : List Event) (pages : Pages) (bits : SplitBits)
    (n : Node) → WorldsGiveBricks → AreOf settings events pages bits → IsNode settings.depth n
    → brick bits.depth (sample_at pages) (split_at bits) n ≡ brick_after settings events n
brick-is settings events pages bits n give are node =
    (λ t. brick (are.map_depth t) (sample_at pages) (map-is settings events pages bits are t) n)
    ∙ give settings events (sample_at pages) n node
    (λ p inside. are.field p (subst (λ d. IsInWorld d p) (sym are.field_depth) inside))

-- the brick that was made of a leaf is its present one
pub made-is : (board : BoardState) (b : Brick) (leaf : Node) (pages : Pages) (bits : SplitBits)
    → WorldsGiveBricks → AreOf board.world.settings board.world.events pages bits
    → IsNode board.world.settings.depth leaf
    → b ≡ brick bits.depth (sample_at pages) (split_at bits) leaf
    → (b.node ≡ leaf) × (b ≡ present_brick board b.node)
unfolding brick
made-is board b leaf pages bits give are node made =
    let at : b.node ≡ leaf = ap (λ (x : Brick). x.node) made in (
      at,
      made ∙ brick-is board.world.settings board.world.events pages bits leaf give are node
          ∙ ap (present_brick board) (sym at),
    )

-- a brick is found to be the one of a leaf exactly where it is the present one
pub matches-present : (board : BoardState) (b : Brick) (pages : Pages) (bits : SplitBits)
    → WorldsGiveBricks → AreOf board.world.settings board.world.events pages bits
    → (IsLeaf bits.depth (split_at bits) b.node
    × (b ≡ brick bits.depth (sample_at pages) (split_at bits) b.node)) ↔ IsPresentBrick board b
matches-present board b pages bits give are =
    let settings = board.world.settings in
    let events = board.world.events in
    let m = levels settings events in (
      (λ found. let leaf = leaf-is settings events pages bits b.node are found.0 in
          record {
            leaf = (leaf_test settings.depth m b.node).1 leaf;
            same = found.1 ∙ brick-is settings events pages bits b.node give are leaf.node;
          }),
      (λ present. let leaf = (leaf_test settings.depth m b.node).0 present.leaf in (
        leaf-from settings events pages bits b.node are leaf,
        present.same ∙ sym (brick-is settings events pages bits b.node give are leaf.node),
      )),
    )

-- ---- the state of one leaf changes

-- a leaf's state becomes another leaf's state
pub AreParts-changed : (old : Inside) (leaves : LeafStates) (n : Node) (state : LeafState)
    → AreParts old → ChangesState old.leaves leaves n state
    → is_leaf_state state ≡ is_leaf_of (board_of old) n
    → ((done : DoneState) → state ≡ fresh done → done.brick ≡ present_brick (board_of old) n)
    → ((done : DoneState) → state ≡ fresh done → IsDone done)
    → AreParts (record old { leaves = leaves })
AreParts-changed old leaves n state sound changes leaf is_present is_done = record {
  board = record {
    leaf = λ m.
        elim (cases_Node m n) [
          | inl same ↦
              let P : Node → Type 0 = λ k. is_leaf_state (state_at leaves k)
              ≡ is_leaf_of (board_of old) k in
              subst P (sym same) (ap is_leaf_state changes.here ∙ leaf)
          | inr other ↦ ap is_leaf_state (changes.others m other) ∙ sound.board.leaf m
        ];
    brick = λ m done there.
        elim (cases_Node m n) [
          | inl same ↦
              let P : Node → Type 0 = λ k. done.brick ≡ present_brick (board_of old) k in
              subst P (sym same) (is_present done (sym changes.here
              ∙ ap (state_at leaves) (sym same) ∙ there))
          | inr other ↦ sound.board.brick m done (sym (changes.others m other) ∙ there)
        ];
    mesh = λ m done there.
        elim (cases_Node m n) [
          | inl same ↦
              is_done done (sym changes.here ∙ ap (state_at leaves) (sym same) ∙ there)
          | inr other ↦ sound.board.mesh m done (sym (changes.others m other) ∙ there)
        ];
    marked = sound.board.marked;
  };
  leaves_depth = changes.depth ∙ sound.leaves_depth;
  marked_depth = sound.marked_depth;
  touched_depth = sound.touched_depth;
  octree = sound.octree;
  lawful = sound.lawful;
  marked_leaves = sound.marked_leaves;
  touched = sound.touched;
}

-- a leaf becomes fresh with its present brick
pub AreParts-kept : (old : Inside) (leaves : LeafStates) (done : DoneState) → AreParts old
    → ChangesState old.leaves leaves done.brick.node (fresh done)
    → IsPresentBrick (board_of old) done.brick → IsDone done
    → AreParts (record old { leaves = leaves })
AreParts-kept old leaves done sound changes is is_done =
    AreParts-changed old leaves done.brick.node (fresh done) sound changes (sym is.leaf)
    (λ other there.
    let one = same_fresh done other there in
    ap (λ (d : DoneState). d.brick) (sym one) ∙ is.same)
    (λ other there. subst IsDone (same_fresh done other there) is_done)

-- ---- all that is out is called back

-- what is fresh after a recall was so before
recalled-fresh : (state : LeafState) (done : DoneState) → recalled state ≡ fresh done
    → state ≡ fresh done
recalled-fresh no_leaf done h = absurd (cc)
recalled-fresh wanted done h = absurd (cc)
recalled-fresh out done h = absurd (cc)
recalled-fresh (fresh other) done h = h

-- the parts of a board are those of it still once all that is out is called back
pub AreParts-recalled : (old : Inside) (leaves : LeafStates) → AreParts old
    → leaves.depth ≡ old.leaves.depth
    → ((n : Node) → state_at leaves n ≡ recalled (state_at old.leaves n))
    → AreParts (record old { leaves = leaves })
AreParts-recalled old leaves sound depth each = record {
  board = record {
    leaf = λ n. ap is_leaf_state (each n) ∙ recalled-leaf (state_at old.leaves n)
        ∙ sound.board.leaf n;
    brick = λ n done there.
        sound.board.brick n done (recalled-fresh _ done (sym (each n) ∙ there));
    mesh = λ n done there.
        sound.board.mesh n done (recalled-fresh _ done (sym (each n) ∙ there));
    marked = sound.board.marked;
  };
  leaves_depth = depth ∙ sound.leaves_depth;
  marked_depth = sound.marked_depth;
  touched_depth = sound.touched_depth;
  octree = sound.octree;
  lawful = sound.lawful;
  marked_leaves = sound.marked_leaves;
  touched = sound.touched;
}

-- ---- an event

-- a leaf's state after an event, where the touched ones were made wanted and the lost ones no leaves
after-lost : (is_touched leaf was : Bool) (state : LeafState) → (is_touched ≡ true → leaf ≡ true)
    → (was ≡ false → state ≡ no_leaf)
    → (if (was && not leaf) then no_leaf else (if is_touched then wanted else state))
    ≡ state_then is_touched leaf state
after-lost true true true state listed none = refl
after-lost true true false state listed none = refl
after-lost true false was state listed none = absurd (false≢true (listed refl))
after-lost false true true state listed none = refl
after-lost false true false state listed none = refl
after-lost false false true state listed none = refl
after-lost false false false state listed none = none refl

-- ---- the leaves that an event touches

-- the touched leaves are leaves
pub touched-leaf : (settings : Settings) (events : List Event) (event : Event) (n : Node)
    → is_among (touched settings events event) n ≡ true
    → is_leaf settings.depth (levels settings (events ++ event ∷ [])) n ≡ true
touched-leaf settings events event n listed =
    let IsOn : Node → Type 0 = λ m.
    is_leaf settings.depth (levels settings (events ++ event ∷ [])) m ≡ true in
    All-contains IsOn (touched settings events event) n
    (All-filter _ IsOn (leaves settings.depth (levels settings (events ++ event ∷ [])))
    (filter_passes (is_leaf settings.depth (levels settings (events ++ event ∷ [])))
    (nodes settings.depth))) (Contains-from (touched settings events event) n listed)

-- and nodes of the world
pub touched-nodes : (settings : Settings) (events : List Event) (event : Event)
    → All (IsNode settings.depth) (touched settings events event)
touched-nodes settings events event =
    let all : All (IsNode settings.depth) (nodes settings.depth) = λ k d k_in.
    (node_listed settings.depth (get_or (nodes settings.depth) k d)).1
    (k, k_in, get_or_default (nodes settings.depth) k (get_or (nodes settings.depth) k d) d k_in) in
    All-filter _ (IsNode settings.depth)
    (leaves settings.depth (levels settings (events ++ event ∷ [])))
    (All-filter (is_leaf settings.depth (levels settings (events ++ event ∷ [])))
    (IsNode settings.depth) (nodes settings.depth) all)

-- the lost leaves are nodes of the world
pub lost-nodes : (settings : Settings) (events : List Event) (event : Event)
    → All (IsNode settings.depth) (lost_by settings events event)
lost-nodes settings events event =
    let all : All (IsNode settings.depth) (nodes settings.depth) = λ k d k_in.
    (node_listed settings.depth (get_or (nodes settings.depth) k d)).1
    (k, k_in, get_or_default (nodes settings.depth) k (get_or (nodes settings.depth) k d) d k_in) in
    All-filter _ (IsNode settings.depth) (leaves settings.depth (levels settings events))
    (All-filter (is_leaf settings.depth (levels settings events))
    (IsNode settings.depth) (nodes settings.depth) all)

-- a node is among the lost leaves where it was a leaf and is none
among-lost : (settings : Settings) (events : List Event) (event : Event) (n : Node)
    → is_among (lost_by settings events event) n
    ≡ (is_leaf settings.depth (levels settings events) n
    && not (is_leaf settings.depth (levels settings (events ++ event ∷ [])) n))
among-lost settings events event n =
    let after : Node → Bool = is_leaf settings.depth (levels settings (events ++ event ∷ [])) in
    is_among-filter (λ m. not (after m)) (leaves settings.depth (levels settings events)) n
    ∙ ap (λ b. b && not (after n)) (among_leaves settings.depth (levels settings events) n)

-- the states that are made after an event are those that the event leads to
pub states-after : (old : Inside) (event : Event) (with_wanted leaves' : LeafStates)
    (touched_by lost : List Node) → AreParts old
    → touched_by ≡ touched old.world.settings old.world.events event
    → lost ≡ lost_by old.world.settings old.world.events event
    → ((n : Node) → state_at with_wanted n
    ≡ (if is_among touched_by n then wanted else state_at old.leaves n))
    → ((n : Node) → state_at leaves' n
    ≡ (if is_among lost n then no_leaf else state_at with_wanted n))
    → (n : Node) → state_at leaves' n ≡ state_after (board_of old) event n
states-after old event with_wanted leaves' touched_by lost sound touched-is lost-is wants forgets
    n =
    let settings = old.world.settings in
    let events = old.world.events in
    let wants' : state_at with_wanted n
    ≡ (if is_among (touched settings events event) n then wanted else state_at old.leaves n) =
    wants n ∙ ap (λ ns. if is_among ns n then wanted else state_at old.leaves n) touched-is in
    let gone : is_among lost n ≡ (is_leaf_of (board_of old) n
    && not (is_leaf settings.depth (levels settings (events ++ event ∷ [])) n)) =
    ap (λ ns. is_among ns n) lost-is ∙ among-lost settings events event n in
    forgets n
    ∙ (λ t. if gone t then no_leaf else wants' t)
    ∙ after-lost (is_among (touched settings events event) n)
    (is_leaf settings.depth (levels settings (events ++ event ∷ [])) n)
    (is_leaf_of (board_of old) n) (state_at old.leaves n) (touched-leaf settings events event n)
    (λ off. not_a_leaf _ (sound.board.leaf n ∙ off))

-- the parts after an event
module _ (old : Inside) (event : Event) (sound : AreParts old)
    (lawful : IsLawfulEvent old.world.settings.depth event) (adds : TouchedAddUp)
    (were : UntouchedWereLeaves) (kept : UntouchedKeepBricks)
  where
    abbrev settings : Settings
    settings = old.world.settings

    abbrev events : List Event
    events = old.world.events

    abbrev more : List Event
    more = events ++ event ∷ []

    abbrev is_leaf_then : Node → Bool
    is_leaf_then n = is_leaf settings.depth (levels settings more) n

    abbrev is_touched_then : Node → Bool
    is_touched_then n = is_among (touched settings events event) n

    -- a leaf that isn't touched
    untouched : (n : Node) → is_touched_then n ≡ false
        → Contains (touched settings events event) n → ⊥
    untouched n off listed =
        false≢true (sym off ∙ among_from (touched settings events event) n listed)

    -- a leaf then is a leaf's state then
    leaf-then : (n : Node) → (is_touched_then n ≡ true → is_leaf_then n ≡ true)
        → is_leaf_state (state_after (board_of old) event n) ≡ is_leaf_then n
    leaf-then n listed =
        elim (cases_Bool (is_touched_then n)) [
          | inl on ↦
              ap (λ b. is_leaf_state (state_then b (is_leaf_then n) (state_at old.leaves n))) on
              ∙ sym (listed on)
          | inr off ↦
              ap (λ b. is_leaf_state (state_then b (is_leaf_then n) (state_at old.leaves n))) off
              ∙ elim (cases_Bool (is_leaf_then n)) [
                | inl leaf ↦
                    let fact = (leaf_test settings.depth (levels settings more) n).0 leaf in
                    let was = were settings events event n fact (untouched n off) in
                    ap (λ b. is_leaf_state (state_then false b (state_at old.leaves n))) leaf
                    ∙ sound.board.leaf n
                    ∙ (leaf_test settings.depth (levels settings events) n).1 was ∙ sym leaf
                | inr gone ↦
                    ap (λ b. is_leaf_state (state_then false b (state_at old.leaves n))) gone
                    ∙ sym gone
              ]
        ]

    -- a fresh leaf then was fresh, and isn't touched
    was-fresh : (is_touched leaf : Bool) (state : LeafState) (done : DoneState)
        → state_then is_touched leaf state ≡ fresh done
        → (is_touched ≡ false) × (leaf ≡ true) × (state ≡ fresh done)
    was-fresh true leaf state done h = absurd (cc)
    was-fresh false true state done h = (refl, refl, h)
    was-fresh false false state done h = absurd (cc)

    -- the parts that follow, where the world is the old one with the event
    follow : (world : WorldState) (leaves : LeafStates) (touched_set : NodeBits)
        → leaves.depth ≡ old.leaves.depth
        → ((n : Node) → state_at leaves n ≡ state_after (board_of old) event n)
        → ((n : Node) → is_touched_then n ≡ true → is_leaf_then n ≡ true)
        → touched_set.depth ≡ old.touched.depth
        → ((n : Node) → has touched_set n ≡ (has old.touched n || is_touched_then n))
        → IsOctree settings.depth (levels settings more)
        → AreParts (record {
          world = record world { settings = settings; events = more };
          leaves = leaves;
          marked = old.marked;
          marked_leaves = old.marked_leaves;
          touched = touched_set;
        })
    follow world leaves touched_set depth states listed touched_depth touched_then octree =
        let m = old.marked in
        let marked_same : take m more ≡ take m events =
        take-append-le m events (event ∷ []) sound.board.marked in
        let since_more : drop m more ≡ drop m events ++ event ∷ [] =
        drop-append-le m events (event ∷ []) sound.board.marked in
        let all_lawful : All (IsLawfulEvent settings.depth) more =
        All-push (IsLawfulEvent settings.depth) events event sound.lawful lawful in
        record {
          board = record {
            leaf = λ n. ap is_leaf_state (states n) ∙ leaf-then n (listed n);
            brick = λ n done there.
                let was = was-fresh _ _ _ done (sym (states n) ∙ there) in
                sound.board.brick n done was.2
                ∙ kept settings events event n all_lawful
                ((leaf_test settings.depth (levels settings more) n).0 was.1)
                (untouched n was.0);
            mesh = λ n done there.
                let was = was-fresh _ _ _ done (sym (states n) ∙ there) in
                sound.board.mesh n done was.2;
            marked = omega (arith, length-append events (event ∷ []), sound.board.marked);
          };
          leaves_depth = depth ∙ sound.leaves_depth;
          marked_depth = sound.marked_depth;
          touched_depth = touched_depth ∙ sound.touched_depth;
          octree = octree;
          lawful = all_lawful;
          marked_leaves = λ n.
              sound.marked_leaves n
              ∙ ap (λ es. is_leaf settings.depth (levels settings es) n) (sym marked_same);
          touched = λ n.
              touched_then n
              ∙ (λ t. sound.touched n t
              || is_among (touched settings (sym (take-append-drop m events) t) event) n)
              ∙ sym (adds settings (take m events) (drop m events) event n)
              ∙ (λ t. is_touched settings (sym marked_same t) (sym since_more t) n);
        }

    -- the parts that follow, where the world stands for the journal with the event
    pub AreParts-after : (world : WorldState) (leaves : LeafStates) (touched_set : NodeBits)
        → world.settings ≡ settings → world.events ≡ more
        → leaves.depth ≡ old.leaves.depth
        → ((n : Node) → state_at leaves n ≡ state_after (board_of old) event n)
        → ((n : Node) → is_touched_then n ≡ true → is_leaf_then n ≡ true)
        → touched_set.depth ≡ old.touched.depth
        → ((n : Node) → has touched_set n ≡ (has old.touched n || is_touched_then n))
        → IsOctree settings.depth (levels settings more)
        → AreParts (record old { world = world; leaves = leaves; touched = touched_set })
    AreParts-after world leaves touched_set same journal depth states listed touched_depth
        touched_then octree =
        let whole : ◌≡◌ {A = WorldState} (record world { settings = settings; events = more })
        world =
        λ t. record world { settings = sym same t; events = sym journal t } in
        let P : WorldState → Type 0 = λ w.
        AreParts (record old { world = w; leaves = leaves; touched = touched_set }) in
        subst P whole (follow world leaves touched_set depth states listed touched_depth
        touched_then octree)
