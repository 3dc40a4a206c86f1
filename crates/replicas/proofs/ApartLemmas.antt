-- No spelling begins another.
-- What has a spelling of a length that is known, from which it is read again, has one that begins no other
-- (`read-apart`); so do values one behind another (`behind`), and as many items of a list (`items-apart`). A block and
-- a patch have their counts in front, so that as many items follow (`block-apart`, `patch-apart`).
use Rattle.std.proofs.Common.{◌≡◌, ℕ, suc, ◌^◌, ◌<◌, List, [], ◌∷◌, ◌++◌, length, map, take, drop, All, Option, Some, refl, sym, ap, subst, ◌∙◌, append_assoc, arith}
use Rattle.std.specs.Prelude.{slice_index}
use Rattle.std.specs.List.{flat_map, zip}
use Rattle.std.proofs.lemmas.Slice.Zip.{firsts-zip, get_or-zip, length-zip, seconds-zip}
use Rattle.std.proofs.lemmas.List.{drop_at, take_at}
use Rattle.std.proofs.lemmas.List.Concat.{flat_map-cons}
use Rattle.std.proofs.lemmas.Option.{same_Some}
use Rattle.lattice.specs.declared.key.Key.{Key}
use Rattle.lattice.specs.declared.point.Pos.{Pos}
use Rattle.lattice.specs.declared.settings.Settings.{Settings}
use Rattle.replicas.specs.Fits.{FitsBlock, FitsEvent, FitsKey, FitsNode, FitsPatch, FitsPosition, FitsSettings, FitsTriangle, NoneBeginsAnother}
use Rattle.replicas.specs.Grammar.{WireBlock, WirePatch, block_bytes, counts_bytes, event_bytes, event_fields, event_tag, four, head_bytes, node_bytes, patch_bytes, patch_tag, point_bytes, triangle_bytes, two, vertex_bytes}
use Rattle.replicas.specs.Reading.{event_read, event_size, four_at, node_read, vertex_read}
use Rattle.replicas.proofs.SpellLemmas.{event_again, event_length, four_again, node_again, three-is, triangle_again, vertex_again}

-- lists of one length in front of others
fronts : (a b x y : List ℕ) → length a ≡ length b → a ++ x ≡ b ++ y → (a ≡ b) × (x ≡ y)
fronts a b x y long same =
    let first : take (length a) (b ++ y) ≡ b = take_at b y (length a) (sym long) in
    let rest : drop (length a) (b ++ y) ≡ y = drop_at b y (length a) (sym long) in (
      sym (take_at a x (length a) refl) ∙ ap (take (length a)) same ∙ first,
      sym (drop_at a x (length a) refl) ∙ ap (drop (length a)) same ∙ rest,
    )

-- what is read again from a spelling of a length that is known
read-apart : {A : Type 0} (Fits : A → Type 0) (spelling : A → List ℕ) (read : List ℕ → Option A)
    (n : ℕ) → ((a : A) → Fits a → length (spelling a) ≡ n)
    → ((a : A) → Fits a → read (spelling a) ≡ Some a) → NoneBeginsAnother Fits spelling
read-apart Fits spelling read n long again a b x y fits_a fits_b same =
    let h = fronts (spelling a) (spelling b) x y (long a fits_a ∙ sym (long b fits_b)) same in
    (same_Some a b (sym (again a fits_a) ∙ ap read h.0 ∙ again b fits_b), h.1)

-- two spellings, one behind the other
behind : (a a' b b' x y : List ℕ) → (a ++ b) ++ x ≡ (a' ++ b') ++ y
    → a ++ (b ++ x) ≡ a' ++ (b' ++ y)
behind a a' b b' x y same = sym (append_assoc a b x) ∙ same ∙ append_assoc a' b' y

-- ---- the items of lists
-- the first item
first_of : {A : Type 0} (P : A → Type 0) (x : A) (xs : List A) → All P (x ∷ xs) → P x
first_of P x xs all = all 0 x (omega arith)

-- and the others
others_of : {A : Type 0} (P : A → Type 0) (x : A) (xs : List A) → All P (x ∷ xs) → All P xs
others_of P x xs all k d inside = all (suc k) d (omega (arith, inside))

-- as many items of the one list as of the other
items-apart : {A : Type 0} (Fits : A → Type 0) (spelling : A → List ℕ)
    → NoneBeginsAnother Fits spelling → (ps qs : List A) (x y : List ℕ) → length ps ≡ length qs
    → All Fits ps → All Fits qs → flat_map spelling ps ++ x ≡ flat_map spelling qs ++ y
    → (ps ≡ qs) × (x ≡ y)
items-apart Fits spelling apart [] [] x y long fits_ps fits_qs same = (refl, same)
items-apart Fits spelling apart [] (b ∷ qs) x y long fits_ps fits_qs same =
    absurd (omega (arith, long))
items-apart Fits spelling apart (a ∷ ps) [] x y long fits_ps fits_qs same =
    absurd (omega (arith, long))
items-apart Fits spelling apart (a ∷ ps) (b ∷ qs) x y long fits_ps fits_qs same =
    let parted = behind (spelling a) (spelling b) (flat_map spelling ps) (flat_map spelling qs) x y
    (ap (λ t. t ++ x) (sym (flat_map-cons spelling a ps)) ∙ same
    ∙ ap (λ t. t ++ y) (flat_map-cons spelling b qs)) in
    let first = apart a b (flat_map spelling ps ++ x) (flat_map spelling qs ++ y)
    (first_of Fits a ps fits_ps) (first_of Fits b qs fits_qs) parted in
    let rest = items-apart Fits spelling apart ps qs x y (omega (arith, long))
    (others_of Fits a ps fits_ps) (others_of Fits b qs fits_qs) first.1 in
    ((λ i. first.0 i ∷ rest.0 i), rest.1)

-- ---- fields
-- a number in four bytes
four-apart : NoneBeginsAnother (λ n. n < 2 ^ 32) four
unfolding four
four-apart =
    read-apart (λ n. n < 2 ^ 32) four (λ bytes. Some (four_at 0 bytes)) 4 (λ a _. refl)
    (λ a small. ap Some (four_again a small))

-- the bytes of a node
node-apart : NoneBeginsAnother FitsNode node_bytes
unfolding node_bytes two
node-apart =
    read-apart FitsNode node_bytes (λ bytes. Some (node_read bytes)) 7 (λ a _. refl)
    (λ a fits. ap Some (node_again a fits))

-- a key and its position
abbrev FitsVertex : Key × Pos → Type 0
FitsVertex v = FitsKey v.0 × FitsPosition v.1

-- a key with its position
vertex-apart : NoneBeginsAnother FitsVertex vertex_bytes
unfolding vertex_bytes point_bytes two four
vertex-apart =
    read-apart FitsVertex vertex_bytes vertex_read 20 (λ a _. refl)
    (λ v fits. vertex_again v fits.0 fits.1)

-- the places of a triangle, read as a list
read_triangle : List ℕ → Option (List ℕ)
read_triangle bytes = Some (four_at 0 bytes ∷ four_at 4 bytes ∷ four_at 8 bytes ∷ [])

-- a triangle has twelve bytes
triangle_length : (places : List ℕ) → FitsTriangle places → length (triangle_bytes places) ≡ 12
unfolding triangle_bytes four
triangle_length places fits = ap (λ ps. length (triangle_bytes ps)) (three-is places fits.three)

-- and its bytes say which it is
triangle-apart : NoneBeginsAnother FitsTriangle triangle_bytes
unfolding read_triangle
triangle-apart =
    read-apart FitsTriangle triangle_bytes read_triangle 12 triangle_length
    (λ a fits. ap Some (triangle_again a fits))

-- a list by its first item and the others
parts_of : (a b : ℕ) (x y : List ℕ) → a ∷ x ≡ b ∷ y → (a ≡ b) × (x ≡ y)
parts_of a b x y same = (cc, cc)

-- an event, by its tag and its fields
event-apart : NoneBeginsAnother FitsEvent event_bytes
event-apart a b x y fits_a fits_b same =
    let tags = parts_of (event_tag a) (event_tag b) (event_fields a ++ x) (event_fields b ++ y) same
    in
    let long = event_length a ∙ ap event_size tags.0 ∙ sym (event_length b) in
    let h = fronts (event_fields a) (event_fields b) x y long tags.1 in (
      same_Some a b (sym (event_again a fits_a) ∙ (λ i. event_read (tags.0 i) (h.0 i))
          ∙ event_again b fits_b),
      h.1,
    )

-- a head is read by its last two bytes
read_head : List ℕ → Option Settings
read_head bytes = Some (record { depth = slice_index bytes 8; reach = slice_index bytes 9 })

-- so heads are apart
pub head-apart : NoneBeginsAnother FitsSettings head_bytes
unfolding head_bytes read_head
head-apart = read-apart FitsSettings head_bytes read_head 10 (λ a _. refl) (λ a _. refl)

-- ---- blocks
-- what holds of keys and of positions holds of their pairs
all_pairs : (keys : List Key) (positions : List Pos) → All FitsKey keys → All FitsPosition positions
    → length positions ≡ length keys → All FitsVertex (zip keys positions)
all_pairs keys positions fits_keys fits_positions paired k d inside =
    let long = length-zip keys positions in
    let key : k < length keys = omega (arith, long, inside) in
    let position : k < length positions = omega (arith, key, paired) in
    subst FitsVertex (sym (get_or-zip keys positions k d key position))
    (fits_keys k d.0 key, fits_positions k d.1 position)

-- a block, by its counts and its lists
block-apart : NoneBeginsAnother FitsBlock block_bytes
unfolding block_bytes
block-apart a b x y fits_a fits_b same =
    let k : WireBlock → ℕ = λ w. length w.mesh.keys in
    let t : WireBlock → ℕ = λ w. length w.mesh.triangles in
    let pairs : WireBlock → List (Key × Pos) = λ w. zip w.mesh.keys w.mesh.positions in
    let v : WireBlock → List ℕ = λ w. flat_map vertex_bytes (pairs w) in
    let l : WireBlock → List ℕ = λ w. flat_map triangle_bytes w.mesh.triangles in
    let head1 : WireBlock → List ℕ = λ w. node_bytes w.node ++ four (k w) in
    let head2 : WireBlock → List ℕ = λ w. head1 w ++ four (t w) in
    let e1 = behind (head2 a ++ v a) (head2 b ++ v b) (l a) (l b) x y same in
    let e2 = behind (head2 a) (head2 b) (v a) (v b) (l a ++ x) (l b ++ y) e1 in
    let e3 = behind (head1 a) (head1 b) (four (t a)) (four (t b)) (v a ++ (l a ++ x))
    (v b ++ (l b ++ y)) e2 in
    let e4 = behind (node_bytes a.node) (node_bytes b.node) (four (k a)) (four (k b))
    (four (t a) ++ (v a ++ (l a ++ x))) (four (t b) ++ (v b ++ (l b ++ y))) e3 in
    let node = node-apart a.node b.node (four (k a) ++ (four (t a) ++ (v a ++ (l a ++ x))))
    (four (k b) ++ (four (t b) ++ (v b ++ (l b ++ y)))) fits_a.node fits_b.node e4 in
    let keys = four-apart (k a) (k b) (four (t a) ++ (v a ++ (l a ++ x)))
    (four (t b) ++ (v b ++ (l b ++ y))) fits_a.key_count fits_b.key_count node.1 in
    let triangles = four-apart (t a) (t b) (v a ++ (l a ++ x)) (v b ++ (l b ++ y))
    fits_a.triangle_count fits_b.triangle_count keys.1 in
    let long : length (pairs a) ≡ length (pairs b) =
    omega (
      arith,
      length-zip a.mesh.keys a.mesh.positions,
      length-zip b.mesh.keys b.mesh.positions,
      fits_a.paired,
      fits_b.paired,
      keys.0,
    ) in
    let vertices = items-apart FitsVertex vertex_bytes vertex-apart (pairs a) (pairs b) (l a ++ x)
    (l b ++ y) long
    (all_pairs a.mesh.keys a.mesh.positions fits_a.keys fits_a.positions fits_a.paired)
    (all_pairs b.mesh.keys b.mesh.positions fits_b.keys fits_b.positions fits_b.paired)
    triangles.1 in
    let lists = items-apart FitsTriangle triangle_bytes triangle-apart a.mesh.triangles
    b.mesh.triangles x y triangles.0 fits_a.triangles fits_b.triangles vertices.1 in
    let keys_same = sym (firsts-zip a.mesh.keys a.mesh.positions fits_a.paired)
    ∙ ap (map (λ (p : Key × Pos). p.0)) vertices.0
    ∙ firsts-zip b.mesh.keys b.mesh.positions fits_b.paired in
    let positions_same = sym (seconds-zip a.mesh.keys a.mesh.positions fits_a.paired)
    ∙ ap (map (λ (p : Key × Pos). p.1)) vertices.0
    ∙ seconds-zip b.mesh.keys b.mesh.positions fits_b.paired in (
      λ i. record {
        node = node.0 i;
        mesh = record { keys = keys_same i; positions = positions_same i; triangles = lists.0 i };
      },
      lists.1,
    )

-- ---- patches
-- a patch, by its counts and its lists
pub patch-apart : NoneBeginsAnother FitsPatch patch_bytes
unfolding patch_bytes counts_bytes
patch-apart a b x y fits_a fits_b same =
    let e : WirePatch → List ℕ = λ w. flat_map event_bytes w.events in
    let g : WirePatch → List ℕ = λ w. flat_map node_bytes w.gone in
    let l : WirePatch → List ℕ = λ w. flat_map block_bytes w.blocks in
    let head1 : WirePatch → List ℕ = λ w. patch_tag ∷ four w.base in
    let head2 : WirePatch → List ℕ = λ w. head1 w ++ four (length w.events) in
    let head3 : WirePatch → List ℕ = λ w. head2 w ++ four (length w.gone) in
    let head4 : WirePatch → List ℕ = λ w. head3 w ++ four (length w.blocks) in
    let e1 = behind ((head4 a ++ e a) ++ g a) ((head4 b ++ e b) ++ g b) (l a) (l b) x y same in
    let e2 = behind (head4 a ++ e a) (head4 b ++ e b) (g a) (g b) (l a ++ x) (l b ++ y) e1 in
    let e3 = behind (head4 a) (head4 b) (e a) (e b) (g a ++ (l a ++ x)) (g b ++ (l b ++ y)) e2 in
    let ra = e a ++ (g a ++ (l a ++ x)) in
    let rb = e b ++ (g b ++ (l b ++ y)) in
    let e4 = behind (head3 a) (head3 b) (four (length a.blocks)) (four (length b.blocks)) ra rb e3
    in
    let ra4 = four (length a.blocks) ++ ra in
    let rb4 = four (length b.blocks) ++ rb in
    let e5 = behind (head2 a) (head2 b) (four (length a.gone)) (four (length b.gone)) ra4 rb4 e4 in
    let ra5 = four (length a.gone) ++ ra4 in
    let rb5 = four (length b.gone) ++ rb4 in
    let e6 = behind (head1 a) (head1 b) (four (length a.events)) (four (length b.events)) ra5 rb5 e5
    in
    let ra6 = four (length a.events) ++ ra5 in
    let rb6 = four (length b.events) ++ rb5 in
    let tag = parts_of patch_tag patch_tag (four a.base ++ ra6) (four b.base ++ rb6) e6 in
    let base = four-apart a.base b.base ra6 rb6 fits_a.base fits_b.base tag.1 in
    let events_long = four-apart (length a.events) (length b.events) ra5 rb5 fits_a.event_count
    fits_b.event_count base.1 in
    let gone_long = four-apart (length a.gone) (length b.gone) ra4 rb4 fits_a.gone_count
    fits_b.gone_count events_long.1 in
    let blocks_long = four-apart (length a.blocks) (length b.blocks) ra rb fits_a.block_count
    fits_b.block_count gone_long.1 in
    let events = items-apart FitsEvent event_bytes event-apart a.events b.events (g a ++ (l a ++ x))
    (g b ++ (l b ++ y)) events_long.0 fits_a.events fits_b.events blocks_long.1 in
    let gone = items-apart FitsNode node_bytes node-apart a.gone b.gone (l a ++ x) (l b ++ y)
    gone_long.0 fits_a.gone fits_b.gone events.1 in
    let blocks = items-apart FitsBlock block_bytes block-apart a.blocks b.blocks x y blocks_long.0
    fits_a.blocks fits_b.blocks gone.1 in (
      λ i. record {
        base = base.0 i;
        events = events.0 i;
        gone = gone.0 i;
        blocks = blocks.0 i;
      },
      blocks.1,
    )
