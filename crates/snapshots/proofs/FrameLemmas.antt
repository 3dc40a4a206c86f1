-- A frame after a patch stands for the longer journal, and a sound frame has just its leaves' blocks. The slot of a
-- leaf after a patch has what `put_over` makes of the old one. A leaf that the events touched is among those that are
-- put, and has the block of its present brick; another leaf was a leaf and keeps its brick, as the laws of untouched
-- leaves say, so its old block is right still (`held-leaf`). A block with a leaf's brick has the leaf's mesh
-- (`IsBlockAfter-from`), so where no other slot has anything the frame stands for the history (`stands_from`). The
-- argument for untouched leaves is in docs/rules.md, "Events and touched leaves". The rest reads a sound frame: a block
-- in it is a leaf's (`block_at`), and sums over the slots are sums over the history's meshes (`sum_by-scratch`).
use Rattle.std.proofs.Common.{◌≡◌, ℕ, ◌≤◌, Bool, true, false, List, [], ◌∷◌, ◌++◌, map, length, All, Contains, Some, None, refl, sym, ap, ◌∙◌, subst, inl, inr}
use Rattle.std.specs.Prelude.{◌&&◌, IsTrue, Option, filter, sum_by}
use Rattle.std.specs.Option.{IsSomeAnd}
use Rattle.std.proofs.lemmas.Bool.{cases_Bool, false≢true}
use Rattle.std.proofs.lemmas.Option.{none-some, same_Some}
use Rattle.std.proofs.lemmas.List.Elements.{All-contains_itself, All-filter, All-weaker}
use Rattle.field_pages.specs.Pages.{HoldsField}
use Rattle.std.proofs.Math.Bool.{and-false}
use Rattle.lattice.specs.declared.node.Node.{Node}
use Rattle.lattice.specs.declared.settings.Settings.{Settings}
use Rattle.lattice.specs.Node.{IsNode, nodes, is_same_node, is_among}
use Rattle.lattice.specs.Settings.{IsSettings}
use Rattle.octree.specs.SplitBits.{SplitBits, split_at}
use Rattle.terrain.specs.declared.event.Event.{Event}
use Rattle.terrain.specs.Blocks.{Mesh, brick, mesh, scratch}
use Rattle.terrain.specs.History.{IsLawfulEvent, sample}
use Rattle.terrain.specs.Levels.{IsBalanced, IsLeaf, LevelMap, is_leaf, leaves, levels}
use Rattle.event_laws.specs.Changes.{brick_after, change, is_touched}
use Rattle.event_laws.specs.Laws.{BricksStay, LeavesStay}
use Rattle.level_laws.proofs.AmongLemmas.{Contains-from, among_from, same_node}
use Rattle.level_laws.proofs.LeafLemmas.{leaf_listed, leaf_test}
use Rattle.bricks.specs.Brick.{HasBrick}
use Rattle.block_mesh.specs.Mesh.{ShowsMesh}
use Rattle.terrain.specs.declared.event.TheConstants.{MAX_EVENTS}
use Rattle.node_tables.specs.NodeSlots.{NodeSlots, item_at}
use Rattle.snapshots.specs.Blocks.{put_over}
use Rattle.block_mesh.specs.Done.{DoneState, IsDone}
use Rattle.snapshots.specs.Frame.{FrameState, IsBlockAfter, IsSound, StandsFor, mesh_after}
use Rattle.snapshots.proofs.StatsLemmas.{sum_by-leaves}
use Rattle.snapshots.proofs.PutLemmas.{All-nodes, put_over-elsewhere, put_over-in}

-- ---- tests

-- two tests are the same where each passes if the other does
same_test : (a b : Bool) → (IsTrue a → IsTrue b) → (IsTrue b → IsTrue a) → a ≡ b
same_test true b there back = sym (there refl)
same_test false true there back = back refl
same_test false false there back = refl

-- a node is among those that pass a test where it is in the list and passes
pub is_among-filter : (test : Node → Bool) (xs : List Node) (n : Node)
    → is_among (filter test xs) n ≡ (is_among xs n && test n)
is_among-filter test [] n = refl
is_among-filter test (x ∷ xs) n =
    let rest = is_among-filter test xs n in
    elim (cases_Bool (is_same_node x n)) [
      | inl on ↦
          (let tests : test x ≡ test n = ap test (same_node x n on) in
          elim (cases_Bool (test n)) [
            | inl pass ↦ rw (tests, pass, on) refl
            | inr fail ↦
                rw (tests, fail, on) (rest ∙ ap (λ b. is_among xs n && b) fail
                ∙ and-false (is_among xs n))
          ])
      | inr off ↦
          elim (cases_Bool (test x)) [
            | inl pass ↦ rw (pass, off) rest
            | inr fail ↦ rw (fail, off) rest
          ]
    ]

-- a node is among the leaves where it is one
pub among_leaves : (depth : ℕ) (m : LevelMap) (n : Node)
    → is_among (leaves depth m) n ≡ is_leaf depth m n
among_leaves depth m n =
    same_test (is_among (leaves depth m) n) (is_leaf depth m n)
    (λ on. (leaf_test depth m n).1
    ((leaf_listed depth m n).1 (Contains-from (leaves depth m) n on)))
    (λ on. among_from (leaves depth m) n
    ((leaf_listed depth m n).0 ((leaf_test depth m n).0 on)))

-- ---- a block of a leaf

-- a brick's node is the leaf's
pub node_of-brick_after : (settings : Settings) (history : List Event) (n : Node)
    → (brick_after settings history n).node ≡ n
unfolding brick
node_of-brick_after settings history n = refl

-- a leaf of a balanced map has the brick that the history gives it
has_brick : (settings : Settings) (history : List Event) (n : Node)
    → IsBalanced settings.depth (levels settings history)
    → IsLeaf settings.depth (levels settings history) n
    → HasBrick (sample settings history) (levels settings history) (brick_after settings history n)
unfolding brick
has_brick settings history n balanced leaf = record {
  balanced = balanced;
  leaf = leaf;
  same = refl;
}

-- the mesh of the brick is that of the leaf
mesh_of : (settings : Settings) (history : List Event) (n : Node) (done : DoneState)
    → ShowsMesh done.mesh (mesh (brick_after settings history n).depth (sample settings history)
    (levels settings history) (brick_after settings history n).node)
    → ShowsMesh done.mesh
    (mesh settings.depth (sample settings history) (levels settings history) n)
unfolding brick
mesh_of settings history n done shows = shows

-- a block with the leaf's brick has the leaf's mesh
pub IsBlockAfter-from : (settings : Settings) (history : List Event) (n : Node) (done : DoneState)
    → IsDone done → IsBalanced settings.depth (levels settings history)
    → IsLeaf settings.depth (levels settings history) n
    → done.brick ≡ brick_after settings history n → IsBlockAfter settings history n done
IsBlockAfter-from settings history n done own balanced leaf is =
    let s = sample settings history in
    let m = levels settings history in
    let has : HasBrick s m done.brick =
    subst (λ b. HasBrick s m b) (sym is) (has_brick settings history n balanced leaf) in
    record {
      brick = is;
      mesh = mesh_of settings history n done
          (subst (λ b. ShowsMesh done.mesh (mesh b.depth s m b.node)) is (own.of.shows s m has));
    }

-- what is there and has a property
pub some_of : {A : Type 0} (o : Option A) (P : A → Type 0) → IsSomeAnd o P
    → (x : A) × (o ≡ Some x) × P x
some_of None P h = absurd h
some_of (Some x) P h = (x, refl, h)

-- and the other way round
IsSomeAnd-from : {A : Type 0} (o : Option A) (P : A → Type 0) (x : A) → o ≡ Some x → P x
    → IsSomeAnd o P
IsSomeAnd-from o P x is h = subst (λ p. IsSomeAnd p P) (sym is) h

-- ---- a frame after a patch

-- a table of the leaves after some events, with their bricks, is the one that a patch makes of a table of those before
module _ (stay : LeavesStay) (keep : BricksStay) (settings : Settings) (history events : List Event)
  where
    abbrev before : LevelMap
    before = levels settings history

    abbrev after : LevelMap
    after = levels settings (history ++ events)

    -- a node is put where it is a touched leaf then
    pub among_put : (n : Node) → is_among (change settings history events).put n
        ≡ (is_leaf settings.depth after n && is_touched settings history events n)
    among_put n =
        is_among-filter (is_touched settings history events) (leaves settings.depth after) n
        ∙ ap (λ b. b && is_touched settings history events n) (among_leaves settings.depth after n)

    module _ (old : NodeSlots DoneState) (dones : List DoneState)
        (lawful : All (IsLawfulEvent settings.depth) (history ++ events))
        (bricks : map (λ d. d.brick) dones
        ≡ map (brick_after settings (history ++ events)) (change settings history events).put)
        (leaves_are : (n : Node) → IsLeaf settings.depth before n
        → IsSomeAnd (item_at old n) (IsBlockAfter settings history n)) where
      -- what the slot of a node has then
      abbrev held : Node → Option DoneState
      held n = put_over dones n (item_at old n)

      -- a leaf's slot has its brick
      pub held-leaf : (n : Node) → IsLeaf settings.depth after n
          → (d : DoneState) × (held n ≡ Some d)
          × (d.brick ≡ brick_after settings (history ++ events) n)
      held-leaf n leaf =
          let on : is_leaf settings.depth after n ≡ true =
          (leaf_test settings.depth after n).1 leaf in
          let put : is_among (change settings history events).put n
          ≡ is_touched settings history events n =
          among_put n ∙ ap (λ b. b && is_touched settings history events n) on in
          elim (cases_Bool (is_touched settings history events n)) [
            | inl touched ↦
                (let there = put_over-in (brick_after settings (history ++ events))
                (node_of-brick_after settings (history ++ events)) dones
                (change settings history events).put n (item_at old n) bricks (put ∙ touched) in
                (there.0, there.2, there.1))
            | inr off ↦
                (let was = stay settings history events n leaf off in
                let there = some_of (item_at old n) (IsBlockAfter settings history n)
                (leaves_are n was) in (
                  there.0,
                  put_over-elsewhere (brick_after settings (history ++ events))
                      (node_of-brick_after settings (history ++ events)) dones
                      (change settings history events).put n _ bricks (put ∙ off)
                      ∙ there.1,
                  there.2.brick ∙ keep settings history events n lawful leaf off,
                ))
          ]

    -- all nodes of the patch's blocks are nodes of the world
    pub put_nodes : (dones : List DoneState)
        → map (λ d. d.brick) dones
        ≡ map (brick_after settings (history ++ events)) (change settings history events).put
        → All (λ (d : DoneState). IsNode settings.depth d.brick.node) dones
    put_nodes dones bricks =
        All-nodes (brick_after settings (history ++ events))
        (node_of-brick_after settings (history ++ events)) (IsNode settings.depth) dones
        (change settings history events).put bricks
        (All-filter (is_touched settings history events) (IsNode settings.depth)
        (leaves settings.depth after)
        (All-weaker (Contains (leaves settings.depth after)) (IsNode settings.depth)
        (λ n on. ((leaf_listed settings.depth after n).1 on).node) (leaves settings.depth after)
        (All-contains_itself (leaves settings.depth after))))

-- ---- frames

-- a frame whose slots have just the leaves' bricks stands for the history
pub stands_from : (frame : FrameState) (rules : Settings) (history : List Event)
    → frame.settings ≡ rules → frame.events ≡ history → frame.version.depth ≡ rules.depth
    → HoldsField frame.version (sample rules history) → frame.levels.depth ≡ rules.depth
    → ((n : Node) → split_at frame.levels n ≡ levels rules history n)
    → frame.blocks.depth ≡ rules.depth → IsBalanced rules.depth (levels rules history)
    → ((n : Node) (done : DoneState) → item_at frame.blocks n ≡ Some done → IsDone done)
    → ((n : Node) → IsLeaf rules.depth (levels rules history) n
    → (d : DoneState) × (item_at frame.blocks n ≡ Some d) × (d.brick ≡ brick_after rules history n))
    → ((n : Node) → (IsLeaf rules.depth (levels rules history) n → ⊥)
    → item_at frame.blocks n ≡ None)
    → StandsFor frame rules history
stands_from frame rules history settings journal field_depth field map_depth map_is table_depth
    balanced own there others = record {
      settings = settings;
      journal = journal;
      field_depth = field_depth;
      field = field;
      map_depth = map_depth;
      map = map_is;
      table_depth = table_depth;
      leaves = λ n leaf.
          let block = there n leaf in
          IsSomeAnd-from (item_at frame.blocks n) (IsBlockAfter rules history n) block.0 block.1
          (IsBlockAfter-from rules history n block.0 (own n block.0 block.1) balanced leaf block.2);
      others = others;
    }

-- the level map of a frame as a whole
pub map_of : (bits : SplitBits) (m : LevelMap) → ((n : Node) → split_at bits n ≡ m n)
    → split_at bits ≡ m
map_of bits m each = λ i n. each n i

-- a frame that stands for a history is sound
pub IsSound-from : (frame : FrameState) (rules : Settings) (history : List Event)
    → StandsFor frame rules history → IsSettings rules
    → IsBalanced rules.depth (levels rules history) → length history ≤ MAX_EVENTS → IsSound frame
IsSound-from frame rules history stands allowed balanced few =
    let settings : frame.settings ≡ rules = stands.settings in
    let journal : frame.events ≡ history = stands.journal in
    record {
      allowed = subst (λ s. IsSettings s) (sym settings) allowed;
      stands = subst (λ h. StandsFor frame frame.settings h) (sym journal)
          (subst (λ s. StandsFor frame s history) (sym settings) stands);
      balanced = subst (λ s. IsBalanced s.depth (split_at frame.levels)) (sym settings)
          (subst (λ m. IsBalanced rules.depth m) (sym (map_of frame.levels _ stands.map)) balanced);
      few = subst (λ h. length h ≤ MAX_EVENTS) (sym journal) few;
    }

-- what a sound frame has for a node is its block, and then the node is a leaf
pub block_at : (frame : FrameState) → IsSound frame → (n : Node) (done : DoneState)
    → item_at frame.blocks n ≡ Some done
    → IsLeaf frame.settings.depth (levels frame.settings frame.events) n
    × IsBlockAfter frame.settings frame.events n done
block_at frame sound n done at =
    let depth = frame.settings.depth in
    let m = levels frame.settings frame.events in
    let stands = sound.stands in
    elim (cases_Bool (is_leaf depth m n)) [
      | inl on ↦
          (let leaf = (leaf_test depth m n).0 on in
          let there = some_of (item_at frame.blocks n) (IsBlockAfter frame.settings frame.events n)
          (stands.leaves n leaf) in (
            leaf,
            subst (IsBlockAfter frame.settings frame.events n)
                (same_Some there.0 done (sym there.1 ∙ at)) there.2,
          ))
      | inr off ↦
          absurd (none-some done
          (sym (stands.others n (λ leaf. false≢true (sym off ∙ (leaf_test depth m n).1 leaf)))
          ∙ at))
    ]

-- a sound frame's blocks have what the meshes of a history have
pub sum_by-scratch : (frame : FrameState) → IsSound frame
    → (f : Option DoneState → ℕ) (g : Mesh → ℕ) → f None ≡ 0
    → ((d : DoneState) (m : Mesh) → ShowsMesh d.mesh m → f (Some d) ≡ g m)
    → sum_by f (map (item_at frame.blocks) (nodes frame.settings.depth))
    ≡ sum_by g (scratch frame.settings frame.events)
sum_by-scratch frame sound f g none some =
    let depth = frame.settings.depth in
    let m = levels frame.settings frame.events in
    let mesh_at = mesh_after frame.settings frame.events in
    sum_by-leaves f g (item_at frame.blocks) mesh_at (is_leaf depth m)
    (λ n on.
    let there = some_of (item_at frame.blocks n) (IsBlockAfter frame.settings frame.events n)
    (sound.stands.leaves n ((leaf_test depth m n).0 on)) in
    ap f there.1 ∙ some there.0 (mesh_at n) there.2.mesh)
    (λ n off.
    ap f (sound.stands.others n (λ leaf. false≢true (sym off ∙ (leaf_test depth m n).1 leaf)))
    ∙ none)
    (nodes depth)
