-- A wire that has shown all of a frame shows all of the frame after a patch that comes next. For the law
-- `wires_lead_to_last_frames`.
-- The patch can be read (`can-read`): its gone nodes are leaves of the frame, which have blocks, and its blocks are of
-- leaves, both in the order of nodes. What it leaves is what the frame then has (`after-shown`): a leaf has the block
-- that was put or the one before, and another node has none, since it was gone or had none. So patch by patch
-- (`chain-followed`), from the opening frame on (`opening-shown`).
use Rattle.std.proofs.Common.{◌≡◌, ℕ, ◌+◌, ◌<◌, ◌≤◌, true, false, cond, List, [], ◌∷◌, ◌++◌, map, take, length, All, Contains, Some, None, refl, sym, ap, ◌∙◌, subst, inl, inr, arith, append_assoc, append-nil}
use Rattle.std.specs.Prelude.{◌&&◌, Option, not}
use Rattle.std.specs.Arc.{arc_value}
use Rattle.std.specs.List.{AllPairs, flat_map}
use Rattle.std.specs.Option.{is_some, option_map}
use Rattle.std.proofs.lemmas.Bool.{cases_Bool, false≢true}
use Rattle.std.proofs.lemmas.Option.{none-some, same_Some}
use Rattle.std.proofs.lemmas.List.{take_all}
use Rattle.std.proofs.lemmas.List.Concat.{flat_map-cons}
use Rattle.std.proofs.lemmas.List.Elements.{All-contains_itself, All-filter, All-head, All-map, All-tail, All-weaker}
use Rattle.std.proofs.lemmas.List.Kept.{AllPairs-filter}
use Rattle.std.proofs.lemmas.Simd.{map-map}
use Rattle.std.proofs.Math.Bool.{and-false}
use Rattle.cell_laws.specs.Laws.{LeavesHaveFewTriangles}
use Rattle.event_laws.specs.Changes.{change, is_touched}
use Rattle.event_laws.specs.Laws.{BricksStay, LeavesStay, NoneIsSplit, RootIsTheLeaf}
use Rattle.lattice.specs.declared.node.Node.{Node}
use Rattle.lattice.specs.declared.settings.Settings.{Settings}
use Rattle.lattice.specs.Node.{is_among, is_same_node, nodes, root}
use Rattle.lattice.specs.Orders.{NodeIsBefore}
use Rattle.lattice.proofs.SlotLemmas.{nodes_rise}
use Rattle.level_laws.proofs.AmongLemmas.{is_same_node-same, same_node}
use Rattle.level_laws.proofs.LeafLemmas.{leaf_listed, leaf_test}
use Rattle.node_tables.specs.NodeSlots.{item_at}
use Rattle.terrain.specs.declared.event.Event.{Event}
use Rattle.terrain.specs.declared.event.Event.TheVariants.{Undo}
use Rattle.terrain.specs.declared.event.TheConstants.{MAX_EVENTS}
use Rattle.terrain.specs.declared.brush.Brush.{Brush}
use Rattle.terrain.specs.History.{in_force, in_force_after, in_force_by}
use Rattle.terrain.specs.Levels.{LevelMap, is_leaf, leaves, levels}
use Rattle.block_mesh.specs.Done.{DoneState, IsDone}
use Rattle.terrain.specs.MeshLists.{MeshLists, no_lists}
use Rattle.snapshots.specs.Absorbed.{absorbed, blocks_after, held_after, is_leaf_after}
use Rattle.snapshots.specs.Blocks.{HasOwnMeshes, block_node, cleared, put_over}
use Rattle.snapshots.specs.Frame.{FrameState, IsBlockAfter, IsSound, StandsFor}
use Rattle.snapshots.specs.declared.patch.Patch.{Patch}
use Rattle.snapshots.proofs.AbsorbedLemmas.{absorbed-sound, absorbed-suited, next-tidy, next_of, suits-fits}
use Rattle.snapshots.proofs.ChangesLemmas.{nodes_of_blocks}
use Rattle.snapshots.proofs.FrameLemmas.{among_leaves, among_put, is_among-filter, map_of, some_of}
use Rattle.snapshots.proofs.PutLemmas.{cleared-in, cleared-out, put_over-out}
use Rattle.snapshots.proofs.TableLemmas.{item_at-listed}
use Rattle.patch_wire.specs.Chain.{ComesNext, IsChain, IsOpening, Reaches, UndoesEdits, WiresReachLastFrames, chain_bytes, last_frame, world_of_frame}
use Rattle.replicas.specs.Following.{behind_patch, behind_head, follow, follow_all, has_none, opening_world, proceed, put_last, wire, with_patches, without}
use Rattle.replicas.specs.Grammar.{WireBlock, patch_bytes}
use Rattle.patch_wire.specs.Puttable.{IsTaken, wire_block, wire_patch}
use Rattle.replicas.specs.Reading.{edits_of}
use Rattle.patch_wire.proofs.FitLemmas.{few_nodes}
use Rattle.replicas.proofs.FollowLemmas.{follow_all-step}
use Rattle.patch_wire.proofs.LeafMeshLemmas.{IsShaped-done, opening_lists}
use Rattle.patch_wire.proofs.RereadLemmas.{CanBeRead, IsShaped, head-reread, patch-reread}
use Rattle.replicas.proofs.TestFactLemmas.{edits_are}

-- ---- what nodes have
-- the lists of a block
abbrev lists : DoneState → MeshLists
lists done = done.mesh

-- blocks that are put
put_last-over : (dones : List DoneState) (n : Node) (held : Option DoneState)
    → put_last (map wire_block dones) n (option_map lists held)
    ≡ option_map lists (put_over dones n held)
put_last-over [] n held = refl
put_last-over (d ∷ ds) n held =
    let new = cond (is_same_node d.brick.node n) (Some d) held in
    ap (put_last (map wire_block ds) n)
    (elim (cases_Bool (is_same_node d.brick.node n)) [
      | inl on ↦
          ap (λ b. cond b (Some d.mesh) (option_map lists held)) on
          ∙ ap (λ b. option_map lists (cond b (Some d) held)) (sym on)
      | inr off ↦
          ap (λ b. cond b (Some d.mesh) (option_map lists held)) off
          ∙ ap (λ b. option_map lists (cond b (Some d) held)) (sym off)
    ])
    ∙ put_last-over ds n new

-- nodes that are gone
without-cleared : (gone : List Node) (n : Node) (held : Option DoneState)
    → without gone n (option_map lists held) ≡ option_map lists (cleared gone n held)
without-cleared gone n held =
    elim (cases_Bool (is_among gone n)) [
      | inl on ↦
          ap (λ b. cond b None (option_map lists held)) on
          ∙ ap (λ b. option_map lists (cond b None held)) (sym on)
      | inr off ↦
          ap (λ b. cond b None (option_map lists held)) off
          ∙ ap (λ b. option_map lists (cond b None held)) (sym off)
    ]

-- what is put or was there has the mesh of its brick
put_over-own : (dones : List DoneState) (n : Node) (held : Option DoneState) → All IsDone dones
    → ((d : DoneState) → held ≡ Some d → IsDone d) → (d : DoneState)
    → put_over dones n held ≡ Some d → IsDone d
put_over-own [] n held all own d is = own d is
put_over-own (e ∷ es) n held all own d is =
    put_over-own es n (cond (is_same_node e.brick.node n) (Some e) held)
    (All-tail IsDone e es all)
    (λ f now. elim (cases_Bool (is_same_node e.brick.node n)) [
      | inl on ↦
          (let same : Some e ≡ Some f = sym (ap (λ b. cond b (Some e) held) on) ∙ now in
          subst IsDone (same_Some e f same) (All-head IsDone e es all))
      | inr off ↦ own f (sym (ap (λ b. cond b (Some e) held) off) ∙ now)
    ]) d is

-- ---- undos
-- the edits in force after more events
in_force-on : (xs ys : List Event) (brushes : List Brush)
    → in_force_after (xs ++ ys) brushes ≡ in_force_after ys (in_force_after xs brushes)
in_force-on [] ys brushes = refl
in_force-on (x ∷ xs) ys brushes = in_force-on xs ys (in_force_by x brushes)

-- what holds of a journal's undos holds of those of its first events
undoes-first : (xs ys : List Event) → UndoesEdits (xs ++ ys) → UndoesEdits xs
undoes-first xs ys undoes before after parts =
    undoes before (after ++ ys)
    (ap (λ l. l ++ ys) parts ∙ append_assoc before (Undo ∷ after) ys)

-- an undo behind some events has an edit among those that are in force
undoes-next : (xs ys before after : List Event) → UndoesEdits (xs ++ ys)
    → ys ≡ before ++ Undo ∷ after → 0 < edits_of before (edits_of xs 0)
undoes-next xs ys before after undoes parts =
    let some = undoes (xs ++ before) after
    (ap (λ l. xs ++ l) parts ∙ sym (append_assoc xs before (Undo ∷ after))) in
    let count : edits_of before (edits_of xs 0) ≡ length (in_force (xs ++ before)) =
    ap (edits_of before) (edits_are xs []) ∙ edits_are before (in_force xs)
    ∙ ap length (sym (in_force-on xs before [])) in
    subst (λ n. 0 < n) (sym count) some

-- ---- a patch that comes next
module _ (few : LeavesHaveFewTriangles) (stay : LeavesStay) (keep : BricksStay)
    (frame : FrameState) (patch : Patch) (sound : IsSound frame) (own : HasOwnMeshes frame.blocks)
    (next : ComesNext frame patch) where
  -- the settings
  abbrev rules : Settings
  rules = frame.settings

  -- the events that come next
  abbrev es : List Event
  es = patch.events.items

  -- the level map before them
  abbrev before : LevelMap
  before = levels rules frame.events

  -- and after them
  abbrev after : LevelMap
  after = levels rules (frame.events ++ es)

  -- the blocks that are put
  abbrev dones : List DoneState
  dones = map arc_value patch.put.items

  -- a journal may have its events
  room : length frame.events + length es ≤ MAX_EVENTS
  room = omega (arith, next.taken.few_events, next.fits.base)

  -- the frame then
  absorbed-is : absorbed frame patch ≡ next_of frame patch
  absorbed-is = absorbed-suited frame patch (suits-fits stay keep patch frame next.fits room)

  -- its events
  pub absorbed-events : (absorbed frame patch).events ≡ frame.events ++ es
  absorbed-events =
      let base : patch.base ≡ length frame.events = next.fits.base in
      ap (λ (f : FrameState). f.events) absorbed-is
      ∙ ap (λ xs. xs ++ es) (take_all patch.base frame.events (omega (arith, base)))

  -- the leaves then
  leaf-after : (n : Node) → is_leaf_after patch n ≡ is_leaf rules.depth after n
  leaf-after n =
      let map_is = map_of patch.levels.value after next.fits.split in
      λ i. is_leaf (next.fits.levels_depth i) (map_is i) n

  -- which nodes are put
  put_nodes-are : map block_node dones ≡ (change rules frame.events es).put
  put_nodes-are =
      map-map block_node arc_value patch.put.items
      ∙ nodes_of_blocks arc_value rules (frame.events ++ es) patch.put.items
      (change rules frame.events es).put next.fits.put

  -- so a node is put where it is a touched leaf then
  put-among : (n : Node) → is_among (map block_node dones) n
      ≡ (is_leaf rules.depth after n && is_touched rules frame.events es n)
  put-among n =
      ap (λ xs. is_among xs n) put_nodes-are ∙ among_put stay keep rules frame.events es n

  -- and which are gone
  gone-among : (n : Node) → is_among patch.gone.items n
      ≡ (is_leaf rules.depth before n && not (is_leaf rules.depth after n))
  gone-among n =
      ap (λ xs. is_among xs n) next.fits.gone
      ∙ is_among-filter (λ m. not (is_leaf rules.depth after m)) (leaves rules.depth before) n
      ∙ ap (λ b. b && not (is_leaf rules.depth after n)) (among_leaves rules.depth before n)

  -- a node has what it has in the frame then
  slot-after : (n : Node)
      → put_over dones n (cleared patch.gone.items n (item_at frame.blocks n))
      ≡ item_at (blocks_after frame patch) n
  slot-after n =
      let held = item_at frame.blocks n in
      elim (cases_Bool (is_leaf rules.depth after n)) [
        | inl on ↦
            (let none : is_among patch.gone.items n ≡ false =
            gone-among n ∙ ap (λ b. is_leaf rules.depth before n && not b) on ∙ and-false _ in
            let put = put_over dones n held in
            ap (put_over dones n) (cleared-out patch.gone.items n held none)
            ∙ ap (λ b. cond b put None) (sym (leaf-after n ∙ on))
            ∙ sym (item_at-listed (held_after frame patch) rules.depth n
            ((leaf_test rules.depth after n).0 on).node))
        | inr off ↦
            (let none : is_among (map block_node dones) n ≡ false =
            put-among n ∙ ap (λ b. b && is_touched rules frame.events es n) off in
            let lost : cleared patch.gone.items n held ≡ None =
            elim (cases_Bool (is_leaf rules.depth before n)) [
              | inl was ↦
                  cleared-in patch.gone.items n held
                  (gone-among n ∙ ap (λ b. b && not (is_leaf rules.depth after n)) was
                  ∙ ap not off)
              | inr never ↦
                  cleared-out patch.gone.items n held
                  (gone-among n ∙ ap (λ b. b && not (is_leaf rules.depth after n)) never)
                  ∙ sound.stands.others n
                  (λ leaf. false≢true (sym never ∙ (leaf_test rules.depth before n).1 leaf))
            ] in
            put_over-out dones n (cleared patch.gone.items n held) none ∙ lost
            ∙ sym ((next-tidy frame patch).others n (leaf-after n ∙ off)))
      ]

  -- so what is shown is what the frame then has
  pub after-shown : behind_patch (world_of_frame frame) (wire_patch patch)
      ≡ world_of_frame (absorbed frame patch)
  after-shown =
      let blocks : map (λ done. wire_block (arc_value done)) patch.put.items
      ≡ map wire_block dones = sym (map-map wire_block arc_value patch.put.items) in
      let block : (n : Node)
      → (behind_patch (world_of_frame frame) (wire_patch patch)).block n
      ≡ (world_of_frame (next_of frame patch)).block n = λ n.
      ap (λ bs. put_last bs n (without patch.gone.items n
      (option_map lists (item_at frame.blocks n)))) blocks
      ∙ ap (put_last (map wire_block dones) n)
      (without-cleared patch.gone.items n (item_at frame.blocks n))
      ∙ put_last-over dones n (cleared patch.gone.items n (item_at frame.blocks n))
      ∙ ap (option_map lists) (slot-after n) in
      let base : patch.base ≡ length frame.events = next.fits.base in
      let events : frame.events ++ es ≡ take patch.base frame.events ++ es =
      ap (λ xs. xs ++ es) (sym (take_all patch.base frame.events (omega (arith, base)))) in
      (λ i. record { settings = rules; events = events i; block = λ n. block n i })
      ∙ ap world_of_frame (sym absorbed-is)

  -- all its blocks have the meshes of their bricks
  pub own-after : HasOwnMeshes (absorbed frame patch).blocks
  own-after =
      let made : HasOwnMeshes (blocks_after frame patch) = λ n done at.
      elim (cases_Bool (is_leaf rules.depth after n)) [
        | inl on ↦
            (let held = item_at frame.blocks n in
            let put = put_over dones n held in
            let is : put ≡ Some done =
            sym (item_at-listed (held_after frame patch) rules.depth n
            ((leaf_test rules.depth after n).0 on).node
            ∙ ap (λ b. cond b put None) (leaf-after n ∙ on)) ∙ at in
            put_over-own dones n held
            (All-map IsDone arc_value patch.put.items next.meshes) (own n) done is)
        | inr off ↦
            absurd (none-some done
            (sym ((next-tidy frame patch).others n (leaf-after n ∙ off)) ∙ at))
      ] in
      subst (λ (f : FrameState). HasOwnMeshes f.blocks) (sym absorbed-is) made

  -- it is sound
  pub sound-after : IsSound (absorbed frame patch)
  sound-after = absorbed-sound stay keep frame patch own-after sound next.fits room

  -- a gone node has a block
  gone-held : All (λ n. is_some ((world_of_frame frame).block n) ≡ true) patch.gone.items
  gone-held =
      let P : Node → Type 0 = λ n. is_some ((world_of_frame frame).block n) ≡ true in
      let here : (n : Node) → Contains (leaves rules.depth before) n → P n = λ n on.
      let there = some_of (item_at frame.blocks n) (IsBlockAfter rules frame.events n)
      (sound.stands.leaves n ((leaf_listed rules.depth before n).1 on)) in
      ap (λ o. is_some (option_map lists o)) there.1 in
      subst (All P) (sym next.fits.gone)
      (All-filter (λ m. not (is_leaf rules.depth after m)) P (leaves rules.depth before)
      (All-weaker (Contains (leaves rules.depth before)) P here (leaves rules.depth before)
      (All-contains_itself (leaves rules.depth before))))

  -- gone nodes are in order
  gone-rise : AllPairs NodeIsBefore patch.gone.items
  gone-rise =
      subst (AllPairs NodeIsBefore) (sym next.fits.gone)
      (AllPairs-filter NodeIsBefore (λ m. not (is_leaf rules.depth after m))
      (leaves rules.depth before)
      (AllPairs-filter NodeIsBefore (is_leaf rules.depth before) (nodes rules.depth)
      (nodes_rise rules.depth)))

  -- and so are those of blocks
  blocks-rise : AllPairs NodeIsBefore
      (map (λ (b : WireBlock). b.node) (wire_patch patch).blocks)
  blocks-rise =
      let nodes_are : map (λ (b : WireBlock). b.node) (wire_patch patch).blocks
      ≡ (change rules frame.events es).put =
      map-map (λ (b : WireBlock). b.node) (λ done. wire_block (arc_value done)) patch.put.items
      ∙ sym (map-map block_node arc_value patch.put.items) ∙ put_nodes-are in
      subst (AllPairs NodeIsBefore) (sym nodes_are)
      (AllPairs-filter NodeIsBefore (is_touched rules frame.events es) (leaves rules.depth after)
      (AllPairs-filter NodeIsBefore (is_leaf rules.depth after) (nodes rules.depth)
      (nodes_rise rules.depth)))

  -- so it can be read
  pub can-read : UndoesEdits (frame.events ++ es)
      → CanBeRead (world_of_frame frame) (wire_patch patch)
  can-read undoes = record {
    depth = sound.allowed.depth;
    taken = subst (λ d. IsTaken d (wire_patch patch)) next.fits.field_depth next.taken;
    base = next.fits.base;
    undoes = λ front rest parts. undoes-next frame.events es front rest undoes parts;
    gone_rise = gone-rise;
    held = gone-held;
    blocks_rise = blocks-rise;
    shaped = All-map (λ (b : WireBlock). IsShaped b.mesh)
        (λ done. wire_block (arc_value done)) patch.put.items
        (All-weaker (λ done. IsDone (arc_value done))
        (λ done. IsShaped (arc_value done).mesh)
        (λ done is. IsShaped-done few (arc_value done) is) patch.put.items next.meshes);
  }

  -- and is followed
  pub patch-followed : (total : ℕ) (rest : List ℕ) → UndoesEdits (frame.events ++ es)
      → follow_all total (world_of_frame frame) (patch_bytes (wire_patch patch) ++ rest)
      ≡ with_patches 1 (follow_all total (world_of_frame (absorbed frame patch)) rest)
  patch-followed total rest undoes =
      let w = world_of_frame frame in
      let bytes = patch_bytes (wire_patch patch) ++ rest in
      follow_all-step total w bytes
      ∙ ap (proceed (follow_all total) total w (has_none bytes))
      (patch-reread w (wire_patch patch) (can-read undoes)
      (few_nodes rules.depth sound.allowed.depth) rest)
      ∙ ap (λ v. with_patches 1 (follow_all total v rest)) after-shown

-- ---- chains
-- what a wire has of a patch
abbrev spelled : Patch → List ℕ
spelled patch = patch_bytes (wire_patch patch)

module _ (few : LeavesHaveFewTriangles) (stay : LeavesStay) (keep : BricksStay) where
  -- the last journal goes on from the first one
  last-goes : (patches : List Patch) (frame : FrameState) → IsSound frame
      → HasOwnMeshes frame.blocks → IsChain frame patches
      → (more : List Event) × ((last_frame frame patches).events ≡ frame.events ++ more)
  last-goes [] frame sound own chain = ([], sym (append-nil frame.events))
  last-goes (p ∷ ps) frame sound own chain =
      let rest = last-goes ps (absorbed frame p)
      (sound-after few stay keep frame p sound own chain.0)
      (own-after few stay keep frame p sound own chain.0) chain.1 in (
        p.events.items ++ rest.0,
        rest.1
            ∙ ap (λ xs. xs ++ rest.0) (absorbed-events few stay keep frame p sound own chain.0)
            ∙ append_assoc frame.events p.events.items rest.0,
      )

  -- a chain is followed to the last frame
  chain-followed : (patches : List Patch) (frame : FrameState) → IsSound frame
      → HasOwnMeshes frame.blocks → IsChain frame patches
      → UndoesEdits (last_frame frame patches).events → (total : ℕ)
      → Reaches (last_frame frame patches) (length patches) total
      (follow_all total (world_of_frame frame) (flat_map spelled patches))
  unfolding follow
  chain-followed [] frame sound own chain undoes total = record {
    world = refl;
    patches = refl;
    at_rest = refl;
    fault = refl;
    taken = refl;
  }
  chain-followed (p ∷ ps) frame sound own chain undoes total =
      let then_sound = sound-after few stay keep frame p sound own chain.0 in
      let then_own = own-after few stay keep frame p sound own chain.0 in
      let last = last-goes ps (absorbed frame p) then_sound then_own chain.1 in
      let goes : (last_frame (absorbed frame p) ps).events
      ≡ (frame.events ++ p.events.items) ++ last.0 =
      last.1
      ∙ ap (λ xs. xs ++ last.0) (absorbed-events few stay keep frame p sound own chain.0) in
      let undoes_here = undoes-first (frame.events ++ p.events.items) last.0
      (subst UndoesEdits goes undoes) in
      let rest = flat_map spelled ps in
      let is : follow_all total (world_of_frame frame) (flat_map spelled (p ∷ ps))
      ≡ with_patches 1 (follow_all total (world_of_frame (absorbed frame p)) rest) =
      ap (follow_all total (world_of_frame frame)) (flat_map-cons spelled p ps)
      ∙ patch-followed few stay keep frame p sound own chain.0 total rest undoes_here in
      let reached = chain-followed ps (absorbed frame p) then_sound then_own chain.1 undoes total in
      subst (Reaches (last_frame frame (p ∷ ps)) (length (p ∷ ps)) total) (sym is) (record {
        world = reached.world;
        patches = omega (arith, reached.patches);
        at_rest = reached.at_rest;
        fault = reached.fault;
        taken = reached.taken;
      })

-- ---- the opening frame
-- what is shown behind the head is what it has
opening-shown : NoneIsSplit → RootIsTheLeaf → (frame : FrameState) → IsOpening frame
    → opening_world frame.settings ≡ world_of_frame frame
opening-shown none at_root frame opening =
    let rules = frame.settings in
    let top = root rules.depth in
    let stands = subst (λ h. StandsFor frame rules h) opening.empty opening.sound.stands in
    let block : (n : Node) → (opening_world rules).block n ≡ (world_of_frame frame).block n = λ n.
    elim (cases_Bool (is_same_node top n)) [
      | inl on ↦
          (let here : n ≡ top = sym (same_node top n on) in
          let there = some_of (item_at frame.blocks n) (IsBlockAfter rules [] n)
          (stands.leaves n ((at_root rules n).1 here)) in
          ap (λ b. cond b (Some no_lists) None) on
          ∙ ap Some (sym (opening_lists none rules n there.0.mesh there.2.mesh))
          ∙ ap (option_map lists) (sym there.1))
      | inr off ↦
          ap (λ b. cond b (Some no_lists) None) off
          ∙ ap (option_map lists) (sym (stands.others n (λ leaf.
          false≢true (sym off ∙ is_same_node-same top n (sym ((at_root rules n).0 leaf))))))
    ] in
    λ i. record {
      settings = rules;
      events = sym opening.empty i;
      block = λ n. block n i;
    }

-- a wire from it on reaches the last frame
pub wire-reaches : LeavesHaveFewTriangles → LeavesStay → BricksStay → NoneIsSplit → RootIsTheLeaf
    → WiresReachLastFrames
wire-reaches few stay keep none at_root opening patches is chain undoes =
    let bytes = chain_bytes opening.settings patches in
    let total = length bytes in
    let rest = flat_map spelled patches in
    let follows : wire bytes ≡ follow_all total (world_of_frame opening) rest =
    ap (behind_head total) (head-reread opening.settings rest is.sound.allowed)
    ∙ ap (λ w. follow_all total w rest) (opening-shown none at_root opening is) in
    subst (Reaches (last_frame opening patches) (length patches) total) (sym follows)
    (chain-followed few stay keep patches opening is.sound is.meshes chain undoes total)
