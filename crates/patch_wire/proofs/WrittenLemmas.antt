-- The text of a replica is written block by block, and its vertices are counted with it.
-- The text of blocks with one more is theirs and that of the one (`block-on`), also for a write that stops there
-- (`block-stops`). At the end: the text of what shows all of a sound frame is the text of a shot of it
-- (`texts-are-shots`), since a leaf's block shows the leaf's mesh, and another node has none.
use Rattle.std.proofs.Common.{◌≡◌, ℕ, ◌+◌, ◌*◌, ◌^◌, ◌<◌, ◌≤◌, Bool, true, false, cond, List, [], ◌∷◌, ◌++◌, length, map, take, drop, get_or, Some, None, refl, sym, ap, subst, ◌∙◌, inl, inr, arith, append_assoc, append-nil, codes, decimal}
use Rattle.std.specs.Prelude.{MatchOption, Option, filter, not}
use Rattle.std.specs.List.{flat_map}
use Rattle.std.specs.Option.{is_some, option_map}
use Rattle.std.proofs.lemmas.Grind.{flat_map-append}
use Rattle.std.proofs.lemmas.List.{take-append-drop, take_more}
use Rattle.std.proofs.lemmas.List.Concat.{flat_map-cons}
use Rattle.std.proofs.lemmas.List.Filters.{length-filter_both}
use Rattle.std.proofs.lemmas.Bool.{cases_Bool, false≢true}
use Rattle.std.proofs.lemmas.Option.{none-some, same_Some}
use Rattle.lattice.specs.declared.node.Node.{Node}
use Rattle.lattice.specs.declared.settings.Settings.{Settings}
use Rattle.lattice.specs.declared.settings.TheConstants.{MAX_DEPTH}
use Rattle.lattice.specs.Node.{nodes}
use Rattle.level_laws.proofs.LeafLemmas.{leaf_test}
use Rattle.node_tables.specs.NodeSlots.{item_at}
use Rattle.terrain.specs.Blocks.{Mesh, scratch}
use Rattle.terrain.specs.Levels.{is_leaf, levels}
use Rattle.block_mesh.specs.Done.{DoneState}
use Rattle.terrain.specs.declared.lists.BlockView.{BlockView}
use Rattle.terrain.specs.MeshLists.{MeshLists, lists_of}
use Rattle.mesh_out.specs.Text.{lists_text, mesh_text, meshes_text, shot_text}
use Rattle.mesh_out.specs.Writing.{StopsWriting, Writes}
use Rattle.mesh_out.specs.declared.fault.OutFault.{OutFault}
use Rattle.mesh_out.specs.declared.obj.TheConstants.{MAX_MESH_BASE}
use Rattle.mesh_out.proofs.TextLemmas.{lists_text-shown}
use Rattle.mesh_out.proofs.WritingLemmas.{StopsWriting-longer, StopsWriting-on, Writes-on}
use Rattle.snapshots.specs.Frame.{FrameState, IsBlockAfter, IsSound, mesh_after}
use Rattle.snapshots.specs.Meshes.{meshes_of}
use Rattle.snapshots.proofs.FrameLemmas.{some_of}
use Rattle.terra_io.specs.Stream.{Stream}
use Rattle.patch_wire.specs.Chain.{world_of_frame}
use Rattle.replicas.specs.Grammar.{WireBlock}
use Rattle.replicas.specs.Held.{HeldState}
use Rattle.replicas.specs.Replicas.{ReplicaState, block_shown, events_shown, settings_shown}
use Rattle.patch_wire.specs.Written.{TextsAreShots, blocks_at, blocks_text, text_shown}

-- how many keys blocks have
abbrev pub key_count : List WireBlock → ℕ
key_count [] = 0
key_count (b ∷ bs) = length b.mesh.keys + key_count bs

-- and with more behind them
key_count-append : (bs more : List WireBlock)
    → key_count (bs ++ more) ≡ key_count bs + key_count more
key_count-append [] more = omega arith
key_count-append (b ∷ bs) more = omega (arith, key_count-append bs more)

-- the text of blocks behind others
blocks_text-append : (base : ℕ) (bs more : List WireBlock)
    → blocks_text base (bs ++ more)
    ≡ blocks_text base bs ++ blocks_text (base + key_count bs) more
blocks_text-append base [] more =
    let none : base ≡ base + 0 = omega arith in ap (λ n. blocks_text n more) none
blocks_text-append base (b ∷ bs) more =
    let first = lists_text base b.node b.mesh in
    let next = base + length b.mesh.keys in
    let same : next + key_count bs ≡ base + (length b.mesh.keys + key_count bs) = omega arith in
    ap (λ t. first ++ t) (blocks_text-append next bs more)
    ∙ ap (λ n. first ++ (blocks_text next bs ++ blocks_text n more)) same
    ∙ sym (append_assoc first (blocks_text next bs)
    (blocks_text (base + (length b.mesh.keys + key_count bs)) more))

-- ---- node by node
module _ (block : Node → Option MeshLists) (xs : List Node) (i : ℕ) (d : Node)
    (inside : i < length xs) where
  -- the blocks with those of one node more
  pub blocks-more : flat_map (blocks_at block) (take (i + 1) xs)
      ≡ flat_map (blocks_at block) (take i xs) ++ blocks_at block (get_or xs i d)
  blocks-more =
      let f = blocks_at block in
      let x = get_or xs i d in
      ap (flat_map f) (take_more xs i d inside)
      ∙ flat_map-append f (take i xs) (x ∷ [])
      ∙ ap (λ t. flat_map f (take i xs) ++ t) (flat_map-cons f x [] ∙ append-nil (f x))

  -- where the node has none
  pub blocks-same : block (get_or xs i d) ≡ None
      → flat_map (blocks_at block) (take (i + 1) xs) ≡ flat_map (blocks_at block) (take i xs)
  blocks-same none =
      let f : Option MeshLists → List WireBlock = λ o.
      elim o [ None ↦ [] | Some lists ↦ record { node = get_or xs i d; mesh = lists } ∷ [] ] in
      blocks-more ∙ ap (λ o. flat_map (blocks_at block) (take i xs) ++ f o) none
      ∙ append-nil (flat_map (blocks_at block) (take i xs))

  -- where it has one
  module _ (lists : MeshLists) (has : block (get_or xs i d) ≡ Some lists) where
    -- the blocks with its own
    blocks-one : flat_map (blocks_at block) (take (i + 1) xs)
        ≡ flat_map (blocks_at block) (take i xs)
        ++ record { node = get_or xs i d; mesh = lists } ∷ []
    blocks-one =
        let f : Option MeshLists → List WireBlock = λ o. elim o [
          | None ↦ []
          | Some lists ↦ record { node = get_or xs i d; mesh = lists } ∷ []
        ] in
        blocks-more ∙ ap (λ o. flat_map (blocks_at block) (take i xs) ++ f o) has

    -- how many keys there are with its own
    pub count-more : (v : ℕ) → v ≡ key_count (flat_map (blocks_at block) (take i xs))
        → v + length lists.keys ≡ key_count (flat_map (blocks_at block) (take (i + 1) xs))
    count-more v count =
        omega (
          arith,
          count,
          ap key_count blocks-one,
          key_count-append (flat_map (blocks_at block) (take i xs))
              (record { node = get_or xs i d; mesh = lists } ∷ []),
        )

    -- the text with its own
    text-one : (start : List ℕ) (v : ℕ) → v ≡ key_count (flat_map (blocks_at block) (take i xs))
        → (start ++ blocks_text 0 (flat_map (blocks_at block) (take i xs)))
        ++ lists_text v (get_or xs i d) lists
        ≡ start ++ blocks_text 0 (flat_map (blocks_at block) (take (i + 1) xs))
    text-one start v count =
        let before = flat_map (blocks_at block) (take i xs) in
        let n = get_or xs i d in
        let b : WireBlock = record { node = n; mesh = lists } in
        let at : v ≡ 0 + key_count before = omega (arith, count) in
        append_assoc start (blocks_text 0 before) (lists_text v n lists)
        ∙ ap (λ t. start ++ t)
        (ap (λ k. blocks_text 0 before ++ lists_text k n lists) at
        ∙ ap (λ t. blocks_text 0 before ++ t)
        (sym (append-nil (lists_text (0 + key_count before) n lists)))
        ∙ sym (blocks_text-append 0 before (b ∷ []))
        ∙ ap (blocks_text 0) (sym blocks-one))

    -- it was written so far
    pub block-on : (old mid new : Stream) (start held left : List ℕ) (v : ℕ)
        → Writes old mid (start ++ blocks_text 0 (flat_map (blocks_at block) (take i xs))) held
        → v ≡ key_count (flat_map (blocks_at block) (take i xs))
        → Writes mid new (held ++ lists_text v (get_or xs i d) lists) left
        → Writes old new (start ++ blocks_text 0 (flat_map (blocks_at block) (take (i + 1) xs)))
        left
    block-on old mid new start held left v before count after =
        subst (λ t. Writes old new t left) (text-one start v count)
        (Writes-on old mid new
        (start ++ blocks_text 0 (flat_map (blocks_at block) (take i xs))) held
        (lists_text v (get_or xs i d) lists) before left after)

    -- or stopped there
    pub block-stops : (old mid new : Stream) (start held : List ℕ) (v : ℕ) (fault : OutFault)
        → Writes old mid (start ++ blocks_text 0 (flat_map (blocks_at block) (take i xs))) held
        → v ≡ key_count (flat_map (blocks_at block) (take i xs))
        → StopsWriting fault mid new (held ++ lists_text v (get_or xs i d) lists)
        → StopsWriting fault old new (start ++ blocks_text 0 (flat_map (blocks_at block) xs))
    block-stops old mid new start held v fault before count after =
        let f = blocks_at block in
        let first = flat_map f (take (i + 1) xs) in
        let rest = flat_map f (drop (i + 1) xs) in
        let so_far = subst (λ t. StopsWriting fault old new t) (text-one start v count)
        (StopsWriting-on old mid new (start ++ blocks_text 0 (flat_map f (take i xs))) held
        (lists_text v (get_or xs i d) lists) before fault after) in
        let parts : first ++ rest ≡ flat_map f xs =
        sym (flat_map-append f (take (i + 1) xs) (drop (i + 1) xs))
        ∙ ap (flat_map f) (take-append-drop (i + 1) xs) in
        subst (λ t. StopsWriting fault old new t)
        (append_assoc start (blocks_text 0 first) (blocks_text (0 + key_count first) rest)
        ∙ ap (λ t. start ++ t)
        (sym (blocks_text-append 0 first rest) ∙ ap (blocks_text 0) parts))
        (StopsWriting-longer fault old new (start ++ blocks_text 0 first)
        (blocks_text (0 + key_count first) rest) so_far)

-- a node without a block adds nothing
kept-one : (block : Node → Option MeshLists) (n : Node) (kept : List Node) (o : Option MeshLists)
    → block n ≡ o → flat_map (blocks_at block) (cond (is_some (block n)) (n ∷ kept) kept)
    ≡ blocks_at block n ++ flat_map (blocks_at block) kept
kept-one block n kept None is =
    let one : Option MeshLists → List WireBlock = λ o.
    elim o [ None ↦ [] | Some lists ↦ record { node = n; mesh = lists } ∷ [] ] in
    ap (λ p. flat_map (blocks_at block) (cond (is_some p) (n ∷ kept) kept)) is
    ∙ ap (λ p. one p ++ flat_map (blocks_at block) kept) (sym is)
kept-one block n kept (Some lists) is =
    ap (λ p. flat_map (blocks_at block) (cond (is_some p) (n ∷ kept) kept)) is
    ∙ flat_map-cons (blocks_at block) n kept

-- nor do more of them
pub blocks-kept : (block : Node → Option MeshLists) (ns : List Node)
    → flat_map (blocks_at block) (filter (λ n. is_some (block n)) ns)
    ≡ flat_map (blocks_at block) ns
blocks-kept block [] = refl
blocks-kept block (n ∷ ns) =
    kept-one block n (filter (λ m. is_some (block m)) ns) (block n) refl
    ∙ ap (λ t. blocks_at block n ++ t) (blocks-kept block ns)
    ∙ sym (flat_map-cons (blocks_at block) n ns)

-- ---- numbers
-- some of the nodes of a world are few
pub few_kept : (test : Node → Bool) (ns : List Node) → length (filter test ns) ≤ length ns
few_kept test ns =
    omega (arith, length-filter_both test (λ n. not (test n)) (λ n. refl) ns)

-- the vertices of so many blocks fit their counts
pub vertices-fit : (v index count most : ℕ) → v ≤ 2 ^ 32 * index → index < count → count ≤ most
    → most ≤ (2 ^ MAX_DEPTH) ^ 3 * (MAX_DEPTH + 1) → v + 2 ^ 32 ≤ MAX_MESH_BASE
vertices-fit v index count most below inside few all = omega (arith, below, inside, few, all)

-- ---- what a replica shows
-- a replica has a block where one is lent
pub lent-block : (o : Option BlockView) (held : Option MeshLists)
    → MatchOption o (held ≡ None) (λ view. held ≡ Some (lists_of view))
    → is_some held ≡ is_some o
lent-block None held none = ap is_some none
lent-block (Some view) held some = ap is_some some

-- its text is the head of a shot, and its blocks
text-some : (replica : ReplicaState) (settings : Settings)
    → settings_shown replica ≡ Some settings
    → text_shown replica ≡ (codes "o shot_" ++ decimal 1 ++ codes "\n# events "
    ++ decimal (length (events_shown replica)) ++ codes "\n")
    ++ blocks_text 0 (flat_map (blocks_at (block_shown replica)) (nodes settings.depth))
text-some replica settings some = with_held replica.held some
  where
    with_held : (held : Option HeldState)
        → settings_shown (record replica { held = held }) ≡ Some settings
        → text_shown (record replica { held = held })
        ≡ (codes "o shot_" ++ decimal 1 ++ codes "\n# events "
        ++ decimal (length (events_shown (record replica { held = held }))) ++ codes "\n")
        ++ blocks_text 0 (flat_map (blocks_at (block_shown (record replica { held = held })))
        (nodes settings.depth))
    with_held None none = absurd (none-some settings none)
    with_held (Some h) some =
        let is : h.settings ≡ settings = same_Some h.settings settings some in
        ap (λ (s : Settings). (codes "o shot_" ++ decimal 1 ++ codes "\n# events "
        ++ decimal (length h.events) ++ codes "\n")
        ++ blocks_text 0 (flat_map (blocks_at (item_at h.blocks)) (nodes s.depth))) is

-- so this head and the text of the blocks are the text
pub text-headed : (replica : ReplicaState) (settings : Settings) (head : List ℕ)
    → settings_shown replica ≡ Some settings
    → head ≡ [] ++ (codes "o shot_" ++ decimal 1 ++ codes "\n# events "
    ++ decimal (length (events_shown replica)) ++ codes "\n")
    → head ++ blocks_text 0 (flat_map (blocks_at (block_shown replica)) (nodes settings.depth))
    ≡ text_shown replica
text-headed replica settings head some is =
    ap (λ t. t
    ++ blocks_text 0 (flat_map (blocks_at (block_shown replica)) (nodes settings.depth))) is
    ∙ sym (text-some replica settings some)

-- ---- shots
module _ (frame : FrameState) (sound : IsSound frame) where
  -- what shows the frame has for each node
  abbrev here : Node → Option MeshLists
  here = (world_of_frame frame).block

  -- whether a node is a leaf
  abbrev leaf : Node → Bool
  leaf = is_leaf frame.settings.depth (levels frame.settings frame.events)

  -- the mesh of a leaf
  abbrev mesh_at : Node → Mesh
  mesh_at = mesh_after frame.settings frame.events

  -- a leaf comes first
  leaf-first : (base : ℕ) (n : Node) (ns : List Node) → leaf n ≡ true
      → ((base : ℕ) → blocks_text base (flat_map (blocks_at here) ns)
      ≡ meshes_text base (map mesh_at (filter leaf ns)))
      → blocks_text base (flat_map (blocks_at here) (n ∷ ns))
      ≡ meshes_text base (mesh_at n ∷ map mesh_at (filter leaf ns))
  leaf-first base n ns on rest =
      let m = levels frame.settings frame.events in
      let there = some_of (item_at frame.blocks n) (IsBlockAfter frame.settings frame.events n)
      (sound.stands.leaves n ((leaf_test frame.settings.depth m n).0 on)) in
      let lists = there.0.mesh in
      let shows = there.2.mesh in
      let is : here n ≡ Some lists =
      ap (option_map (λ (done : DoneState). done.mesh)) there.1 in
      let one : Option MeshLists → List WireBlock = λ o.
      elim o [ None ↦ [] | Some l ↦ record { node = n; mesh = l } ∷ [] ] in
      let behind = flat_map (blocks_at here) ns in
      ap (blocks_text base) (flat_map-cons (blocks_at here) n ns ∙ ap (λ o. one o ++ behind) is)
      ∙ ap (λ t. t ++ blocks_text (base + length lists.keys) behind)
      (lists_text-shown base n lists (mesh_at n) refl shows)
      ∙ ap (λ k. mesh_text base (mesh_at n) ++ blocks_text (base + k) behind)
      (ap length shows.keys)
      ∙ ap (λ t. mesh_text base (mesh_at n) ++ t) (rest (base + length (mesh_at n).keys))

  -- another node comes first
  other-first : (base : ℕ) (n : Node) (ns : List Node) → leaf n ≡ false
      → blocks_text base (flat_map (blocks_at here) (n ∷ ns))
      ≡ blocks_text base (flat_map (blocks_at here) ns)
  other-first base n ns off =
      let m = levels frame.settings frame.events in
      let none : here n ≡ None =
      ap (option_map (λ (done : DoneState). done.mesh)) (sound.stands.others n (λ is.
      false≢true (sym off ∙ (leaf_test frame.settings.depth m n).1 is))) in
      let one : Option MeshLists → List WireBlock = λ o.
      elim o [ None ↦ [] | Some l ↦ record { node = n; mesh = l } ∷ [] ] in
      ap (blocks_text base) (flat_map-cons (blocks_at here) n ns
      ∙ ap (λ o. one o ++ flat_map (blocks_at here) ns) none)

  -- so the text of the blocks is that of the leaves' meshes
  leaves-text : (ns : List Node) (base : ℕ) → blocks_text base (flat_map (blocks_at here) ns)
      ≡ meshes_text base (map mesh_at (filter leaf ns))
  leaves-text [] base = refl
  leaves-text (n ∷ ns) base =
      let rest = filter leaf ns in
      elim (cases_Bool (leaf n)) [
        | inl on ↦
            leaf-first base n ns on (leaves-text ns)
            ∙ ap (λ b. meshes_text base (map mesh_at (cond b (n ∷ rest) rest))) (sym on)
        | inr off ↦
            other-first base n ns off ∙ leaves-text ns base
            ∙ ap (λ b. meshes_text base (map mesh_at (cond b (n ∷ rest) rest))) (sym off)
      ]

-- the text of what shows all of a sound frame is that of a shot
pub texts-are-shots : ((frame : FrameState) → IsSound frame
    → meshes_of frame ≡ scratch frame.settings frame.events) → TextsAreShots
texts-are-shots meshes frame sound =
    ap (λ t. (codes "o shot_" ++ decimal 1 ++ codes "\n# events "
    ++ decimal (length frame.events) ++ codes "\n") ++ t)
    (leaves-text frame sound (nodes frame.settings.depth) 0)
    ∙ ap (shot_text 1 0 (length frame.events)) (sym (meshes frame sound))
