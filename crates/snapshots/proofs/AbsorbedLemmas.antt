-- What a frame is that absorbed a patch, for `Frame::absorb` and for its laws, `frames_absorb_patches` and
-- `later_patches_suffice`.
-- A patch that fits a frame suits it (`suits-fits`), and its leaves are those of the longer journal (`leaves_after`).
-- So a leaf's slot has what a patched frame has there (FrameLemmas), and the frame stands for that journal
-- (`absorbed-leads`). Of two patches the later one alone counts: a leaf that its events touch it puts itself, so what
-- was there before is lost (`put_over-lost`); another leaf no event of the earlier one touched either
-- (`untouched-parts`), so that it was a leaf then and its slot is as at first (`same_held`). Of several that are
-- pending this is used once for each but the last (`last_alone`). The code puts all blocks and clears the slots of
-- nodes that are no leaves; `cleared-held` shows that the slots are the definition's.
use Rattle.std.proofs.Common.{◌≡◌, ℕ, ◌+◌, ◌≤◌, Bool, true, false, cond, List, [], ◌∷◌, ◌++◌, map, take, length, All, Some, None, refl, sym, ap, ◌∙◌, subst, inl, inr, arith, append_assoc, append-nil, length-append}
use Rattle.std.specs.Prelude.{◌&&◌, ◌||◌, Err, IfOk, Ok, Option, Result, filter, not}
use Rattle.std.specs.Arc.{arc_value}
use Rattle.std.specs.List.{fold, list_all}
use Rattle.std.proofs.lemmas.Bool.{and_from, cases_Bool, false_from_ne_true, false≢true, le-leb, or_cases, or_parts}
use Rattle.std.proofs.lemmas.List.{take_all, take_at}
use Rattle.std.proofs.lemmas.List.Folds.{list_all-map}
use Rattle.std.proofs.lemmas.List.Sums.{list_all-from_AllPass}
use Rattle.std.proofs.lemmas.Simd.{map-map}
use Rattle.std.proofs.Math.Bool.{and-false, and-true}
use Rattle.lattice.specs.declared.node.Node.{Node}
use Rattle.lattice.specs.declared.settings.Settings.{Settings}
use Rattle.lattice.specs.Node.{IsNode, is_among, is_node, is_same_node, nodes}
use Rattle.lattice.proofs.SlotLemmas.{all_are_nodes}
use Rattle.lattice.proofs.TestLemmas.{node_test}
use Rattle.octree.specs.SplitBits.{split_at}
use Rattle.terrain.specs.declared.event.Event.{Event}
use Rattle.terrain.specs.declared.event.TheConstants.{MAX_EVENTS}
use Rattle.terrain.specs.Blocks.{touched}
use Rattle.terrain.specs.Levels.{IsBalanced, IsLeaf, is_leaf, leaves, levels}
use Rattle.level_laws.proofs.LeafLemmas.{leaf_test}
use Rattle.event_laws.specs.Changes.{brick_after, change, is_touched}
use Rattle.event_laws.specs.Laws.{BricksStay, LeavesStay}
use Rattle.event_laws.proofs.ChangeLemmas.{is_touched-cons, is_touched-nil}
use Rattle.node_tables.specs.NodeSlots.{item_at}
use Rattle.node_tables.proofs.TableLemmas.{item_at-out}
use Rattle.block_mesh.specs.Done.{DoneState}
use Rattle.snapshots.specs.Absorbed.{ArePending, IsTidy, LeadsTo, StaysSound, absorbed, blocks_after, held_after, is_leaf_after, next_patch, suits}
use Rattle.snapshots.specs.Blocks.{HasOwnMeshes, block_node, cleared, put_over}
use Rattle.snapshots.specs.Frame.{FrameState, StandsFor}
use Rattle.snapshots.specs.Patch.{Fits}
use Rattle.snapshots.specs.declared.patch.Patch.{Patch}
use Rattle.snapshots.proofs.FrameLemmas.{IsSound-from, among_leaves, among_put, held-leaf, is_among-filter, map_of, node_of-brick_after, put_nodes, stands_from}
use Rattle.snapshots.proofs.PutLemmas.{cleared-append, cleared-in, cleared-out, put_over-elsewhere, put_over-out, same_nodes}
use Rattle.snapshots.proofs.TableLemmas.{item_at-listed, map-agree}

-- ---- what a frame is then

-- the frame, where the patch suits it
abbrev pub next_of : FrameState → Patch → FrameState
next_of frame patch = record {
  settings = frame.settings;
  events = take patch.base frame.events ++ patch.events.items;
  version = patch.version.value;
  levels = patch.levels.value;
  blocks = blocks_after frame patch;
}

-- where it suits
pub absorbed-suited : (frame : FrameState) (patch : Patch) → suits patch frame ≡ true
    → absorbed frame patch ≡ next_of frame patch
unfolding absorbed
absorbed-suited frame patch on = ap (λ b. cond b (next_of frame patch) frame) on

-- and where it doesn't
pub absorbed-other : (frame : FrameState) (patch : Patch) → suits patch frame ≡ false
    → absorbed frame patch ≡ frame
unfolding absorbed
absorbed-other frame patch off = ap (λ b. cond b (next_of frame patch) frame) off

-- the slot of a leaf
held-in : (frame : FrameState) (patch : Patch) (n : Node) → is_leaf_after patch n ≡ true
    → held_after frame patch n ≡ put_over (map arc_value patch.put.items) n (item_at frame.blocks n)
held-in frame patch n on =
    let put = put_over (map arc_value patch.put.items) n (item_at frame.blocks n) in
    ap (λ b. cond b put None) on

-- and that of another node
pub held-out : (frame : FrameState) (patch : Patch) (n : Node) → is_leaf_after patch n ≡ false
    → held_after frame patch n ≡ None
held-out frame patch n off =
    let put = put_over (map arc_value patch.put.items) n (item_at frame.blocks n) in
    ap (λ b. cond b put None) off

-- it is tidy
pub next-tidy : (frame : FrameState) (patch : Patch) → IsTidy (next_of frame patch)
next-tidy frame patch = record {
  depth = refl;
  others = λ n off. elim (cases_Bool (is_node frame.settings.depth n)) [
    | inl on ↦
        item_at-listed (held_after frame patch) frame.settings.depth n
        ((node_test frame.settings.depth n).0 on)
        ∙ held-out frame patch n off
    | inr none ↦ item_at-out (blocks_after frame patch) n none
  ];
}

-- a frame that stands for a history is tidy
pub IsTidy-from : (frame : FrameState) (rules : Settings) (history : List Event)
    → StandsFor frame rules history → IsTidy frame
IsTidy-from frame rules history stands =
    let m = levels rules history in
    let map_is = map_of frame.levels m stands.map in
    record {
      depth = stands.table_depth ∙ ap (λ s. s.depth) (sym stands.settings);
      others = λ n off.
          let off_then : is_leaf rules.depth m n ≡ false =
          (λ i. is_leaf (sym stands.map_depth i) (sym map_is i) n) ∙ off in
          stands.others n
          (λ leaf. false≢true (sym off_then ∙ (leaf_test rules.depth m n).1 leaf));
    }

-- ---- a patch that fits

-- a patch suits a frame where its base and its events fit the journal, and its nodes are the world's
pub suits-from : (patch : Patch) (frame : FrameState) → patch.base ≤ length frame.events
    → patch.base + length patch.events.items ≤ MAX_EVENTS
    → All (λ (d : DoneState). IsNode frame.settings.depth d.brick.node)
    (map arc_value patch.put.items) → suits patch frame ≡ true
suits-from patch frame low few nodes_in =
    and_from _ _ (and_from _ _ (le-leb patch.base (length frame.events) low)
    (le-leb (patch.base + length patch.events.items) MAX_EVENTS few))
    (list_all-from_AllPass (λ (d : DoneState). is_node frame.settings.depth d.brick.node)
    (map arc_value patch.put.items)
    (λ k d below. (node_test frame.settings.depth _).1 (nodes_in k d below)))

-- where its base and its events fit the journal, it suits the frame if its nodes are the world's
pub suits-blocks : (patch : Patch) (frame : FrameState) (depth : ℕ) → depth ≡ frame.settings.depth
    → patch.base ≤ length frame.events → patch.base + length patch.events.items ≤ MAX_EVENTS
    → list_all (λ done. is_node depth (block_node (arc_value done))) patch.put.items
    ≡ suits patch frame
suits-blocks patch frame depth is low few =
    let in_world = λ (done : DoneState). is_node frame.settings.depth (block_node done) in
    ap (λ d. list_all (λ done. is_node d (block_node (arc_value done))) patch.put.items) is
    ∙ sym (list_all-map in_world arc_value patch.put.items)
    ∙ sym (ap (λ b. b && list_all in_world (map arc_value patch.put.items))
    (and_from _ _ (le-leb patch.base (length frame.events) low)
    (le-leb (patch.base + length patch.events.items) MAX_EVENTS few)))

-- a patch that fits a frame has the bricks of the leaves that its events touched
bricks_of : (patch : Patch) (frame : FrameState) → Fits patch frame
    → map (λ (d : DoneState). d.brick) (map arc_value patch.put.items)
    ≡ map (brick_after frame.settings (frame.events ++ patch.events.items))
    (change frame.settings frame.events patch.events.items).put
bricks_of patch frame fits =
    map-map (λ (d : DoneState). d.brick) arc_value patch.put.items ∙ fits.put

-- such a patch suits the frame, where a journal may have that many events
pub suits-fits : LeavesStay → BricksStay → (patch : Patch) (frame : FrameState) → Fits patch frame
    → length frame.events + length patch.events.items ≤ MAX_EVENTS → suits patch frame ≡ true
suits-fits stay keep patch frame fits few =
    let base : patch.base ≡ length frame.events = fits.base in
    suits-from patch frame (omega arith) (omega arith)
    (put_nodes stay keep frame.settings frame.events patch.events.items
    (map arc_value patch.put.items) (bricks_of patch frame fits))

-- its leaves are those of the longer journal
leaves_after : (patch : Patch) (frame : FrameState) → Fits patch frame → (n : Node)
    → is_leaf_after patch n ≡ is_leaf frame.settings.depth
    (levels frame.settings (frame.events ++ patch.events.items)) n
leaves_after patch frame fits n =
    let map_is = map_of patch.levels.value
    (levels frame.settings (frame.events ++ patch.events.items)) fits.split in
    λ i. is_leaf (fits.levels_depth i) (map_is i) n

-- ---- what the frame stands for

-- the frame stands for its journal with the patch's events
next-stands : LeavesStay → BricksStay → (frame : FrameState) (patch : Patch)
    → StandsFor frame frame.settings frame.events → Fits patch frame
    → HasOwnMeshes (blocks_after frame patch)
    → StandsFor (next_of frame patch) frame.settings (frame.events ++ patch.events.items)
next-stands stay keep frame patch stands fits own =
    let rules = frame.settings in
    let es = patch.events.items in
    let dones = map arc_value patch.put.items in
    let held = held_after frame patch in
    let after = levels rules (frame.events ++ es) in
    let base : patch.base ≡ length frame.events = fits.base in
    stands_from (next_of frame patch) rules (frame.events ++ es) refl
    (ap (λ xs. xs ++ es) (take_all patch.base frame.events (omega arith)))
    fits.field_depth fits.field fits.levels_depth fits.split refl
    (subst (IsBalanced rules.depth) (map_of patch.levels.value after fits.split) fits.balanced)
    own
    (λ n leaf.
    let on : is_leaf rules.depth after n ≡ true = (leaf_test rules.depth after n).1 leaf in
    let there = held-leaf stay keep rules frame.events es frame.blocks dones fits.lawful
    (bricks_of patch frame fits) stands.leaves n leaf in (
      there.0,
      item_at-listed held rules.depth n leaf.node
          ∙ held-in frame patch n (leaves_after patch frame fits n ∙ on)
          ∙ there.1,
      there.2,
    ))
    (λ n other.
    (next-tidy frame patch).others n (leaves_after patch frame fits n
    ∙ false_from_ne_true _ (λ on. other ((leaf_test rules.depth after n).0 on))))

-- so a frame that absorbs a patch is the one to which the patch leads
pub absorbed-leads : LeavesStay → BricksStay → (frame : FrameState) (patch : Patch)
    → HasOwnMeshes (absorbed frame patch).blocks → LeadsTo frame patch (absorbed frame patch)
absorbed-leads stay keep frame patch own rules history stands fits few =
    let es = patch.events.items in
    let settings : frame.settings ≡ rules = stands.settings in
    let journal : frame.events ≡ history = stands.journal in
    let itself : StandsFor frame frame.settings frame.events =
    subst (λ h. StandsFor frame frame.settings h) (sym journal)
    (subst (λ s. StandsFor frame s history) (sym settings) stands) in
    let is : absorbed frame patch ≡ next_of frame patch =
    absorbed-suited frame patch
    (suits-fits stay keep patch frame fits (omega (arith, few, ap length journal))) in
    let made = subst (λ (f : FrameState). StandsFor f frame.settings (frame.events ++ es)) (sym is)
    (next-stands stay keep frame patch itself fits
    (subst (λ (f : FrameState). HasOwnMeshes f.blocks) is own)) in
    subst (λ s. StandsFor (absorbed frame patch) s (history ++ es)) settings
    (subst (λ h. StandsFor (absorbed frame patch) frame.settings (h ++ es)) journal made)

-- and sound, if the frame was
pub absorbed-sound : LeavesStay → BricksStay → (frame : FrameState) (patch : Patch)
    → HasOwnMeshes (absorbed frame patch).blocks → StaysSound frame patch (absorbed frame patch)
absorbed-sound stay keep frame patch own sound fits few =
    let es = patch.events.items in
    let after = levels frame.settings (frame.events ++ es) in
    IsSound-from (absorbed frame patch) frame.settings (frame.events ++ es)
    (absorbed-leads stay keep frame patch own frame.settings frame.events sound.stands fits few)
    sound.allowed
    (subst (IsBalanced frame.settings.depth) (map_of patch.levels.value after fits.split)
    fits.balanced)
    (omega (arith, few, length-append frame.events es))

-- what follows from two facts of a result
pub both_if_ok : {A E : Type 0} (P Q R : A → Type 0) (r : Result A E) → IfOk r P → IfOk r Q
    → ((x : A) → P x → Q x → R x) → IfOk r R
both_if_ok P Q R (Ok x) p q f = f x p q
both_if_ok P Q R (Err e) p q f = tt

-- ---- a later patch

-- what is put over another block is all that counts
put_over-lost : (dones : List DoneState) (n : Node) (a b : Option DoneState)
    → is_among (map block_node dones) n ≡ true → put_over dones n a ≡ put_over dones n b
put_over-lost [] n a b on = absurd (cc)
put_over-lost (d ∷ ds) n a b on =
    elim (cases_Bool (is_same_node d.brick.node n)) [
      | inl here ↦
          ap (λ t. put_over ds n (cond t (Some d) a)) here
          ∙ sym (ap (λ t. put_over ds n (cond t (Some d) b)) here)
      | inr off ↦
          (let later : is_among (map block_node ds) n ≡ true =
          elim (or_cases (is_same_node d.brick.node n) (is_among (map block_node ds) n) on) [
            | inl e ↦ absurd (false≢true (sym off ∙ e))
            | inr e ↦ e
          ] in
          put_over-lost ds n (cond (is_same_node d.brick.node n) (Some d) a)
          (cond (is_same_node d.brick.node n) (Some d) b) later)
    ]

-- where some events touch no node, neither do the first of them nor the others
untouched-parts : (settings : Settings) (history first rest : List Event) (n : Node)
    → is_touched settings history (first ++ rest) n ≡ false
    → (is_touched settings history first n ≡ false)
    × (is_touched settings (history ++ first) rest n ≡ false)
untouched-parts settings history [] rest n off = (
  is_touched-nil settings history n,
  subst (λ h. is_touched settings h rest n ≡ false) (sym (append-nil history)) off,
)
untouched-parts settings history (e ∷ es) rest n off =
    let parts = or_parts (is_among (touched settings history e) n)
    (is_touched settings (history ++ e ∷ []) (es ++ rest) n)
    (sym (is_touched-cons settings history e (es ++ rest) n) ∙ off) in
    let more = untouched-parts settings (history ++ e ∷ []) es rest n parts.1 in (
      is_touched-cons settings history e es n ∙ (λ i. parts.0 i || more.0 i),
      subst (λ h. is_touched settings h rest n ≡ false) (append_assoc history (e ∷ []) es) more.1,
    )

module _ (stay : LeavesStay) (keep : BricksStay) (frame : FrameState) (patch later : Patch)
    (rest : List Event) (fits : Fits patch frame) (fits_later : Fits later frame)
    (more : later.events.items ≡ patch.events.items ++ rest)
    (few : length frame.events + length later.events.items ≤ MAX_EVENTS) where
  -- the settings
  abbrev rules : Settings
  rules = frame.settings

  -- the later patch's events
  abbrev es : List Event
  es = later.events.items

  -- the level map after them
  abbrev after : Node → Bool
  after = levels rules (frame.events ++ es)

  -- its blocks
  abbrev dones : List DoneState
  dones = map arc_value later.put.items

  -- a leaf that no event of the later patch touches has what it had at first
  kept : (n : Node) → IsNode rules.depth n → is_leaf rules.depth after n ≡ true
      → is_touched rules frame.events es n ≡ false
      → item_at (blocks_after frame patch) n ≡ item_at frame.blocks n
  kept n node leaf off =
      let history = frame.events ++ patch.events.items in
      let parts = untouched-parts rules frame.events patch.events.items rest n
      (subst (λ xs. is_touched rules frame.events xs n ≡ false) more off) in
      let whole : frame.events ++ es ≡ history ++ rest =
      ap (λ xs. frame.events ++ xs) more
      ∙ sym (append_assoc frame.events patch.events.items rest) in
      let was : IsLeaf rules.depth (levels rules history) n =
      stay rules history rest n
      (subst (λ h. IsLeaf rules.depth (levels rules h) n) whole
      ((leaf_test rules.depth after n).0 leaf)) parts.1 in
      let on = leaves_after patch frame fits n
      ∙ (leaf_test rules.depth (levels rules history) n).1 was in
      item_at-listed (held_after frame patch) rules.depth n node
      ∙ held-in frame patch n on
      ∙ put_over-elsewhere (brick_after rules history) (node_of-brick_after rules history)
      (map arc_value patch.put.items) (change rules frame.events patch.events.items).put n
      (item_at frame.blocks n) (bricks_of patch frame fits)
      (among_put stay keep rules frame.events patch.events.items n
      ∙ ap (λ b. is_leaf rules.depth (levels rules history) n && b) parts.0
      ∙ and-false (is_leaf rules.depth (levels rules history) n))

  -- each slot has the same by the later patch, whether the other was absorbed before or not
  same_held : (n : Node) → IsNode rules.depth n
      → held_after (next_of frame patch) later n ≡ held_after frame later n
  same_held n node =
      elim (cases_Bool (is_leaf_after later n)) [
        | inl on ↦
            (let leaf : is_leaf rules.depth after n ≡ true =
            sym (leaves_after later frame fits_later n) ∙ on in
            let put : is_among (map block_node dones) n ≡ is_touched rules frame.events es n =
            ap (λ xs. is_among xs n)
            (same_nodes (brick_after rules (frame.events ++ es))
            (node_of-brick_after rules (frame.events ++ es)) dones
            (change rules frame.events es).put (bricks_of later frame fits_later))
            ∙ among_put stay keep rules frame.events es n
            ∙ ap (λ b. b && is_touched rules frame.events es n) leaf in
            let over : put_over dones n (item_at (blocks_after frame patch) n)
            ≡ put_over dones n (item_at frame.blocks n) =
            elim (cases_Bool (is_touched rules frame.events es n)) [
              | inl touched_it ↦
                  put_over-lost dones n (item_at (blocks_after frame patch) n)
                  (item_at frame.blocks n) (put ∙ touched_it)
              | inr off ↦ ap (put_over dones n) (kept n node leaf off)
            ] in
            held-in (next_of frame patch) later n on ∙ over ∙ sym (held-in frame later n on))
        | inr off ↦
            held-out (next_of frame patch) later n off ∙ sym (held-out frame later n off)
      ]

  -- the later patch suits the frame after the other one
  suits-next : suits later (next_of frame patch) ≡ true
  suits-next =
      let base : later.base ≡ length frame.events = fits_later.base in
      let front : take patch.base frame.events ≡ frame.events =
      take_all patch.base frame.events (omega (arith, fits.base)) in
      suits-from later (next_of frame patch)
      (omega (
        arith,
        ap length front,
        length-append (take patch.base frame.events) patch.events.items,
      ))
      (omega arith)
      (put_nodes stay keep rules frame.events es dones (bricks_of later frame fits_later))

  -- so the later patch alone counts
  pub later_alone : absorbed (absorbed frame patch) later ≡ absorbed frame later
  later_alone =
      let room : length frame.events + length patch.events.items ≤ MAX_EVENTS =
      omega (arith, few, ap length more, length-append patch.events.items rest) in
      let front : take patch.base frame.events ≡ frame.events =
      take_all patch.base frame.events (omega (arith, fits.base)) in
      let events : take later.base (take patch.base frame.events ++ patch.events.items) ++ es
      ≡ take later.base frame.events ++ es =
      ap (λ xs. xs ++ es)
      (ap (λ xs. take later.base (xs ++ patch.events.items)) front
      ∙ take_at frame.events patch.events.items later.base (sym fits_later.base)
      ∙ sym (take_all later.base frame.events (omega (arith, fits_later.base)))) in
      let slots : map (held_after (next_of frame patch) later) (nodes rules.depth)
      ≡ map (held_after frame later) (nodes rules.depth) =
      map-agree (IsNode rules.depth) (held_after (next_of frame patch) later)
      (held_after frame later) (nodes rules.depth) (all_are_nodes rules.depth) same_held in
      ap (λ f. absorbed f later)
      (absorbed-suited frame patch (suits-fits stay keep patch frame fits room))
      ∙ absorbed-suited (next_of frame patch) later suits-next
      ∙ (λ i. record {
        settings = frame.settings;
        events = events i;
        version = later.version.value;
        levels = later.levels.value;
        blocks = record { depth = frame.settings.depth; slots = slots i };
      })
      ∙ sym (absorbed-suited frame later (suits-fits stay keep later frame fits_later few))

-- ---- patches that are pending

-- it has no more events than the last one
first-few : (frame : FrameState) (patches : List Patch) (later : Patch)
    → ArePending frame patches later
    → length (next_patch patches later).events.items ≤ length later.events.items
first-few frame [] later pending = omega arith
first-few frame (p ∷ ps) later pending =
    let rest = pending.1.0 in
    omega (
      arith,
      first-few frame ps later pending.2,
      ap length pending.1.1,
      length-append p.events.items rest,
    )

-- without the first of them all is the same
first-lost : LeavesStay → BricksStay → (frame : FrameState) (p : Patch) (patches : List Patch)
    (later : Patch) (rest : List Event) → Fits p frame → ArePending frame patches later
    → (next_patch patches later).events.items ≡ p.events.items ++ rest
    → length frame.events + length later.events.items ≤ MAX_EVENTS
    → fold absorbed (absorbed frame p) (patches ++ later ∷ [])
    ≡ fold absorbed frame (patches ++ later ∷ [])
first-lost stay keep frame p [] later rest fits pending goes few =
    later_alone stay keep frame p later rest fits pending goes few
first-lost stay keep frame p (q ∷ qs) later rest fits pending goes few =
    ap (λ f. fold absorbed f (qs ++ later ∷ []))
    (later_alone stay keep frame p q rest fits pending.0 goes
    (omega (arith, few, first-few frame (q ∷ qs) later pending)))

-- so the last one alone counts
pub last_alone : LeavesStay → BricksStay → (frame : FrameState) (patches : List Patch)
    (later : Patch) → ArePending frame patches later
    → length frame.events + length later.events.items ≤ MAX_EVENTS
    → fold absorbed frame (patches ++ later ∷ []) ≡ absorbed frame later
last_alone stay keep frame [] later pending few = refl
last_alone stay keep frame (p ∷ ps) later pending few =
    first-lost stay keep frame p ps later pending.1.0 pending.0 pending.2 pending.1.1 few
    ∙ last_alone stay keep frame ps later pending.2 few

-- ---- how the slots are made

-- the nodes of a list that are no leaves after a patch
abbrev pub others_of : Patch → List Node → List Node
others_of patch ns = filter (λ n. not (is_leaf_after patch n)) ns

-- a leaf isn't one of them
others-leaf : (patch : Patch) (ns : List Node) (n : Node) → is_leaf_after patch n ≡ true
    → is_among (others_of patch ns) n ≡ false
others-leaf patch ns n on =
    is_among-filter (λ m. not (is_leaf_after patch m)) ns n
    ∙ ap (λ b. is_among ns n && not b) on ∙ and-false (is_among ns n)

-- another node is one if the list has it
others-other : (patch : Patch) (ns : List Node) (n : Node) → is_leaf_after patch n ≡ false
    → is_among (others_of patch ns) n ≡ is_among ns n
others-other patch ns n off =
    is_among-filter (λ m. not (is_leaf_after patch m)) ns n
    ∙ ap (λ b. is_among ns n && not b) off ∙ and-true (is_among ns n)

-- the slots once all blocks were put, and those cleared whose nodes are no leaves then: of the leaves before, and of
-- the nodes of the blocks
pub cleared-held : (frame : FrameState) (patch : Patch) → IsTidy frame → (n : Node)
    → (let dones = map arc_value patch.put.items in
    cleared (others_of patch (leaves frame.levels.depth (split_at frame.levels))
    ++ others_of patch (map block_node dones)) n
    (put_over dones n (item_at frame.blocks n)))
    ≡ held_after frame patch n
cleared-held frame patch tidy n =
    let dones = map arc_value patch.put.items in
    let stray = map block_node dones in
    let depth = frame.levels.depth in
    let before = split_at frame.levels in
    let was = item_at frame.blocks n in
    cleared-append (others_of patch (leaves depth before)) (others_of patch stray) n
    (put_over dones n was)
    ∙ (elim (cases_Bool (is_leaf_after patch n)) [
      | inl on ↦
          cleared-out (others_of patch stray) n _ (others-leaf patch stray n on)
          ∙ cleared-out (others_of patch (leaves depth before)) n _
          (others-leaf patch (leaves depth before) n on)
          ∙ sym (held-in frame patch n on)
      | inr off ↦
          (let nothing : cleared (others_of patch (leaves depth before)) n was ≡ None =
          elim (cases_Bool (is_leaf depth before n)) [
            | inl leaf ↦
                cleared-in (others_of patch (leaves depth before)) n was
                (others-other patch (leaves depth before) n off ∙ among_leaves depth before n
                ∙ leaf)
            | inr never ↦
                cleared-out (others_of patch (leaves depth before)) n was
                (others-other patch (leaves depth before) n off ∙ among_leaves depth before n
                ∙ never)
                ∙ tidy.others n never
          ] in
          elim (cases_Bool (is_among stray n)) [
            | inl put ↦
                cleared-in (others_of patch stray) n _ (others-other patch stray n off ∙ put)
            | inr none ↦
                cleared-out (others_of patch stray) n _ (others-other patch stray n off ∙ none)
                ∙ ap (cleared (others_of patch (leaves depth before)) n)
                (put_over-out dones n was none)
                ∙ nothing
          ]
          ∙ sym (held-out frame patch n off))
    ])

-- where no level map changed, no leaf is another node
pub others-none : (m : Node → Bool) (xs : List Node)
    → filter (λ n. not (m n)) (filter m xs) ≡ []
others-none m [] = refl
others-none m (x ∷ xs) =
    let rest = others-none m xs in
    elim (cases_Bool (m x)) [
      | inl on ↦ rw (on, on) rest
      | inr off ↦ rw off rest
    ]
