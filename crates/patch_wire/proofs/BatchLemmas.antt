-- What is put into a batch, piece by piece.
-- A batch that has written all but what it holds (`Writes`) goes on with what is put behind it (`put-on`), and stops
-- where that stops (`stops-on`). The rest is for loops over lists: the pieces of the items so far, with one item more
-- (`item-on`, `item-stops`).
use Rattle.std.proofs.Common.{◌≡◌, ℕ, ◌+◌, ◌<◌, List, [], ◌∷◌, ◌++◌, length, map, take, drop, get_or, Global, refl, sym, ap, subst, ◌∙◌, append_assoc, arith}
use Rattle.std.specs.Arc.{arc_value}
use Rattle.std.specs.List.{flat_map, zip}
use Rattle.std.specs.declared.sync.Arc.{Arc}
use Rattle.std.proofs.lemmas.Grind.{flat_map-append}
use Rattle.std.proofs.lemmas.List.Folds.{flat_map-map}
use Rattle.std.proofs.lemmas.List.{append-nil, length-map, flat_map_more, take_more, take-append-drop}
use Rattle.mesh_out.specs.Writing.{Writes}
use Rattle.mesh_out.specs.declared.fault.OutFault.TheVariants.{WriteFault}
use Rattle.mesh_out.proofs.WritingLemmas.{StopsWriting-longer, StopsWriting-on, Writes-none, Writes-on}
use Rattle.terra_io.specs.Stream.{Appends, IsFaultless, Stream}
use Rattle.terra_io.proofs.StreamLemmas.{Appends-trans}
use Rattle.lattice.specs.declared.node.Node.{Node}
use Rattle.terrain.specs.MeshLists.{MeshLists}
use Rattle.terrain.specs.declared.event.Event.{Event}
use Rattle.block_mesh.specs.Done.{DoneState}
use Rattle.snapshots.specs.declared.patch.Patch.{Patch}
use Rattle.replicas.specs.Grammar.{WireBlock, block_bytes, counts_bytes, event_bytes, four, node_bytes, patch_bytes, patch_tag, triangle_bytes, vertex_bytes}
use Rattle.patch_wire.specs.Puttable.{wire_block, wire_patch}
use Rattle.patch_wire.specs.Putting.{CutsOff}

-- what was held is written, and other bytes are held
pub held-anew : (old new : Stream) (held field : List ℕ) → Appends old new held
    → IsFaultless old new → Writes old new (held ++ field) field
held-anew old new held field appended faultless =
    record { front = held; parts = refl; appended = appended; faultless = faultless }

-- all that was held is written
pub all-written : (old mid new : Stream) (bytes held : List ℕ) → Writes old mid bytes held
    → Appends mid new held → Appends old new bytes
all-written old mid new bytes held before appended =
    subst (Appends old new) (sym before.parts)
    (Appends-trans old mid new before.front held before.appended appended)

-- nothing more is put
pub put-none : (s : Stream) (held : List ℕ) → Writes s s (held ++ []) held
put-none s held = subst (λ t. Writes s s t held) (sym (append-nil held)) (Writes-none s held)

-- a longer text stops too
pub stops-longer : (old new : Stream) (bytes more : List ℕ) → CutsOff old new bytes
    → CutsOff old new (bytes ++ more)
stops-longer old new bytes more stopped = StopsWriting-longer WriteFault old new bytes more stopped

-- behind what was put so far
module _ (old mid new : Stream) (start first held more : List ℕ)
    (before : Writes old mid (start ++ first) held) where
  -- more is put
  pub put-on : (left : List ℕ) → Writes mid new (held ++ more) left
      → Writes old new (start ++ (first ++ more)) left
  put-on left after =
      subst (λ t. Writes old new t left) (append_assoc start first more)
      (Writes-on old mid new (start ++ first) held more before left after)

  -- or a call fails
  pub stops-on : CutsOff mid new (held ++ more) → CutsOff old new (start ++ (first ++ more))
  stops-on after =
      subst (λ t. CutsOff old new t) (append_assoc start first more)
      (StopsWriting-on old mid new (start ++ first) held more before WriteFault after)

-- what was put first, where a call fails and more was to be put
pub stops-before : (old new : Stream) (start first more : List ℕ) → CutsOff old new (start ++ first)
    → CutsOff old new (start ++ (first ++ more))
stops-before old new start first more stopped =
    subst (λ t. CutsOff old new t) (append_assoc start first more)
    (stops-longer old new (start ++ first) more stopped)

-- ---- the items of a list, one after another
module _ {A : Type 0} (f : A → List ℕ) (xs : List A) (i : ℕ) (d : A) (inside : i < length xs)
  where
    -- the pieces of one item more
    one_more : (start : List ℕ)
        → start ++ (flat_map f (take i xs) ++ f (get_or xs i d))
        ≡ start ++ flat_map f (take (i + 1) xs)
    one_more start =
        sym (append_assoc start (flat_map f (take i xs)) (f (get_or xs i d)))
        ∙ flat_map_more f start (take i xs) (get_or xs i d)
        ∙ ap (λ ys. start ++ flat_map f ys) (sym (take_more xs i d inside))

    -- all pieces are these and more
    all_pieces : flat_map f xs ≡ flat_map f (take (i + 1) xs) ++ flat_map f (drop (i + 1) xs)
    all_pieces =
        ap (flat_map f) (sym (take-append-drop (i + 1) xs))
        ∙ flat_map-append f (take (i + 1) xs) (drop (i + 1) xs)

    -- one more is put
    pub item-on : (old mid new : Stream) (start held left : List ℕ)
        → Writes old mid (start ++ flat_map f (take i xs)) held
        → Writes mid new (held ++ f (get_or xs i d)) left
        → Writes old new (start ++ flat_map f (take (i + 1) xs)) left
    item-on old mid new start held left before after =
        subst (λ t. Writes old new t left) (one_more start)
        (put-on old mid new start (flat_map f (take i xs)) held (f (get_or xs i d)) before left
        after)

    -- or a call fails
    pub item-stops : (old mid new : Stream) (start held : List ℕ)
        → Writes old mid (start ++ flat_map f (take i xs)) held
        → CutsOff mid new (held ++ f (get_or xs i d)) → CutsOff old new (start ++ flat_map f xs)
    item-stops old mid new start held before stopped =
        let so_far = subst (λ t. CutsOff old new t) (one_more start)
        (stops-on old mid new start (flat_map f (take i xs)) held (f (get_or xs i d)) before
        stopped) in
        subst (λ t. CutsOff old new (start ++ t)) (sym all_pieces)
        (stops-before old new start (flat_map f (take (i + 1) xs)) (flat_map f (drop (i + 1) xs))
        so_far)

-- ---- a block
-- the bytes of a block are its head, its vertices and its triangles
pub block-parts : (n : Node) (lists : MeshLists) (block : WireBlock) (head : List ℕ)
    → n ≡ block.node → lists ≡ block.mesh
    → head ≡ node_bytes n ++ four (length lists.keys) ++ four (length lists.triangles)
    → (head ++ flat_map vertex_bytes (zip lists.keys lists.positions))
    ++ flat_map triangle_bytes lists.triangles ≡ block_bytes block
unfolding block_bytes
block-parts n lists block head at mesh is =
    let spelled : WireBlock → List ℕ = block_bytes in
    ap (λ h. (h ++ flat_map vertex_bytes (zip lists.keys lists.positions))
    ++ flat_map triangle_bytes lists.triangles) is
    ∙ (λ i. spelled (record { node = at i; mesh = mesh i }))

-- ---- a patch
-- the bytes of a patch are its counts, its events, its gone nodes and its blocks
pub patch-parts : (patch : Patch) (counts : List ℕ) (events : List Event) (gone : List Node)
    (dones : List (Arc DoneState Global)) → events ≡ patch.events.items → gone ≡ patch.gone.items
    → dones ≡ patch.put.items
    → counts ≡ patch_tag ∷ four patch.base ++ four (length events) ++ four (length gone)
    ++ four (length dones)
    → ((counts ++ flat_map event_bytes events) ++ flat_map node_bytes gone)
    ++ flat_map (λ done. block_bytes (wire_block (arc_value done))) dones
    ≡ patch_bytes (wire_patch patch)
unfolding patch_bytes counts_bytes
patch-parts patch counts events gone dones events_are gone_are dones_are counts_are =
    let blocks : Arc DoneState Global → WireBlock = λ done. wire_block (arc_value done) in
    let front : ℕ → List ℕ → List ℕ = λ n bytes.
    ((((patch_tag ∷ four patch.base ++ four (length events) ++ four (length gone)) ++ four n)
    ++ flat_map event_bytes events) ++ flat_map node_bytes gone) ++ bytes in
    let spelled : List Event → List Node → List WireBlock → List ℕ = λ es gs bs.
    patch_bytes (record { base = patch.base; events = es; gone = gs; blocks = bs }) in
    ap (λ bytes. ((bytes ++ flat_map event_bytes events) ++ flat_map node_bytes gone)
    ++ flat_map (λ done. block_bytes (blocks done)) dones) counts_are
    ∙ (λ i. front (sym (length-map dones blocks) i) (sym (flat_map-map block_bytes blocks dones) i))
    ∙ (λ i. spelled (events_are i) (gone_are i) (map blocks (dones_are i)))
