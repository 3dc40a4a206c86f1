-- The meshes in a sound frame's own slots are those from scratch of its journal, and so it has no crack.
--
-- The lists of a leaf's block show the leaf's mesh; read back by their indices they are that mesh (`block_mesh_of-is`,
-- by `listed-shown` of block_mesh). Other slots have none. So node by node the meshes that a frame has are those of
-- its leaves (`flat_map-leaves`), in their order (`meshes_of-sound`); what holds of the mesh of the journal holds of
-- them (`HasNoCrack-sound`).
use Rattle.std.proofs.Common.{◌≡◌, ℕ, Bool, true, false, List, [], ◌∷◌, ◌++◌, map, refl, sym, ap, ◌∙◌, subst, inl, inr}
use Rattle.std.specs.Prelude.{filter, if◌then◌else◌}
use Rattle.std.specs.List.{flat_map}
use Rattle.std.proofs.lemmas.Bool.{cases_Bool, false≢true}
use Rattle.lattice.specs.declared.node.Node.{Node}
use Rattle.lattice.specs.declared.settings.Settings.{Settings}
use Rattle.lattice.specs.Node.{nodes}
use Rattle.level_laws.proofs.LeafLemmas.{leaf_test}
use Rattle.cell_laws.specs.Laws.{KeysAreTested}
use Rattle.terrain.specs.declared.event.Event.{Event}
use Rattle.terrain.specs.Blocks.{Mesh, block, mesh, scratch}
use Rattle.terrain.specs.Levels.{LevelMap, is_leaf, levels}
use Rattle.terrain.specs.Samples.{Field}
use Rattle.block_mesh.specs.Done.{DoneState}
use Rattle.block_mesh.specs.Mesh.{ShowsMesh}
use Rattle.block_mesh.proofs.NetLemmas.{listed-shown}
use Rattle.node_tables.specs.NodeSlots.{item_at}
use Rattle.snapshots.specs.Frame.{FrameState, IsBlockAfter, IsSound, mesh_after}
use Rattle.snapshots.specs.Meshes.{block_mesh_of, meshes_of, slot_meshes}
use Rattle.snapshots.specs.Seamless.{AreSeamless, HasNoCrack, IsSeamless}
use Rattle.snapshots.proofs.FrameLemmas.{node_of-brick_after, some_of}

-- a block of a leaf that shows the leaf's mesh says it
block_mesh_of-is : KeysAreTested → (done : DoneState) (depth : ℕ) (s : Field) (m : LevelMap)
    (n : Node) → done.brick.node ≡ n → ShowsMesh done.mesh (mesh depth s m n)
    → block_mesh_of done ≡ mesh depth s m n
block_mesh_of-is tells done depth s m n leaf shows =
    let read = listed-shown tells done.mesh (block depth s m n) shows.keys shows.triangles in
    λ i. record {
      leaf = leaf i;
      triangles = read i;
      keys = shows.keys i;
      positions = shows.positions i;
    }

-- what the leaves among some nodes have, where other nodes have nothing
flat_map-leaves : (f : Node → List Mesh) (mesh_at : Node → Mesh) (test : Node → Bool)
    → ((n : Node) → test n ≡ true → f n ≡ mesh_at n ∷ [])
    → ((n : Node) → test n ≡ false → f n ≡ []) → (ns : List Node)
    → flat_map f ns ≡ map mesh_at (filter test ns)
flat_map-leaves f mesh_at test on off [] = refl
flat_map-leaves f mesh_at test on off (n ∷ ns) =
    let rest = filter test ns in
    let so_far = flat_map-leaves f mesh_at test on off ns in
    let one : Bool → List Mesh = λ b. map mesh_at (if b then n ∷ rest else rest) in
    elim (cases_Bool (test n)) [
      | inl leaf ↦ (λ i. on n leaf i ++ so_far i) ∙ sym (ap one leaf)
      | inr other ↦ (λ i. off n other i ++ so_far i) ∙ sym (ap one other)
    ]

module _ (tells : KeysAreTested) (frame : FrameState) (sound : IsSound frame) where
  -- the slot of a leaf has its mesh alone
  leaf_slot : (n : Node)
      → is_leaf frame.settings.depth (levels frame.settings frame.events) n ≡ true
      → slot_meshes (item_at frame.blocks n) ≡ mesh_after frame.settings frame.events n ∷ []
  leaf_slot n on =
      let m = levels frame.settings frame.events in
      let there = some_of (item_at frame.blocks n) (IsBlockAfter frame.settings frame.events n)
      (sound.stands.leaves n ((leaf_test frame.settings.depth m n).0 on)) in
      let leaf = ap (λ b. b.node) there.2.brick
      ∙ node_of-brick_after frame.settings frame.events n in
      ap slot_meshes there.1
      ∙ ap (λ one. one ∷ []) (block_mesh_of-is tells there.0 frame.settings.depth _ m n leaf
      there.2.mesh)

  -- and every other slot has none
  other_slot : (n : Node)
      → is_leaf frame.settings.depth (levels frame.settings frame.events) n ≡ false
      → slot_meshes (item_at frame.blocks n) ≡ []
  other_slot n off =
      let m = levels frame.settings frame.events in
      ap slot_meshes (sound.stands.others n (λ leaf.
      false≢true (sym off ∙ (leaf_test frame.settings.depth m n).1 leaf)))

  -- so the meshes that the frame has are those from scratch of its journal
  pub meshes_of-sound : meshes_of frame ≡ scratch frame.settings frame.events
  unfolding meshes_of
  meshes_of-sound =
      let has : Node → List Mesh = λ n. slot_meshes (item_at frame.blocks n) in
      ap (λ depth. flat_map has (nodes depth)) sound.stands.table_depth
      ∙ flat_map-leaves has (mesh_after frame.settings frame.events)
      (is_leaf frame.settings.depth (levels frame.settings frame.events)) leaf_slot other_slot
      (nodes frame.settings.depth)

  -- and it has no crack
  pub HasNoCrack-sound : ((rules : Settings) (history : List Event) → IsSeamless rules history)
      → HasNoCrack frame
  HasNoCrack-sound seamless =
      subst (AreSeamless frame.settings frame.events) (sym meshes_of-sound)
      (seamless frame.settings frame.events)
