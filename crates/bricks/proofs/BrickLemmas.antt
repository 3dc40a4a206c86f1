-- The samples of bricks, row by row and face by face, and a brick by its parts.
--
-- For all of `brick.rt`, and for the mesher above. The definitions list a leaf's samples by three loops, and the code
-- reads them by rows: so they are those of 289 rows (`leaf_samples-rows`), and a face's those of 33
-- (`face_samples-rows`). The lists of the faces stand one after another, for the faces whose bits are set (`rim_part`):
-- one face more (`faces-more`), a face cut out (`faces-split`, `cut-out`), and equal lists that are equally long are
-- equal face by face (`rim_parts-same`). Then a brick is the definition's just where its four parts are.
use Rattle.std.proofs.Common.{◌≡◌, ℕ, zero, suc, ◌+◌, ◌-◌, ◌*◌, ◌/◌, ◌%◌, ◌^◌, ◌<◌, Bool, true, false, List, [], ◌∷◌, ◌++◌, ℤ, length, get_or, take, drop, length-append, refl, sym, ap, ◌∙◌, arith}
use Rattle.std.specs.Prelude.{flat_map}
use Rattle.std.proofs.lemmas.List.{drop_at, drop_more, flat_map_more, take-append-drop, take_at, take_more}
use Rattle.std.proofs.lemmas.List.Concat.{flat_map-append}
use Rattle.std.proofs.Math.Logic.{∥∥₁_elim}
use Rattle.std.proofs.Math.Nat.{ℕ_set}
use Rattle.lattice.proofs.JoinedLemmas.{joined-same}
use Rattle.lattice.specs.declared.node.Node.{Node}
use Rattle.lattice.specs.declared.point.Axis.{Axis}
use Rattle.lattice.specs.declared.point.Axis.TheVariants.{X, Y, Z}
use Rattle.lattice.specs.declared.point.Face.{Face}
use Rattle.lattice.specs.declared.point.Face.TheVariants.{XLow}
use Rattle.lattice.specs.declared.point.Point.{Point}
use Rattle.lattice.specs.Face.{axis_across, axis_along, faces, higher, is_high, lower}
use Rattle.lattice.specs.Lists.{joined}
use Rattle.lattice.specs.Node.{low_corner, node_side}
use Rattle.lattice.specs.Point.{moved}
use Rattle.terrain.specs.Samples.{Field}
use Rattle.terrain.specs.Cells.{is_set}
use Rattle.terrain.specs.Levels.{LevelMap, rim}
use Rattle.terrain.specs.Blocks.{Brick, brick, face_samples, leaf_samples, over_transitional, square_corner}
use Rattle.bricks.specs.Brick.{IsBrick, face_bit, fine_line, leaf_line, over_rim}
use Rattle.bricks.specs.Line.{line_point, line_samples}
use Rattle.bricks.specs.declared.line.Line.{Line}
use Rattle.bricks.proofs.RimLemmas.{over_rim-is}
use Rattle.lattice.proofs.RowLemmas.{joined-add, joined-none, joined-suc, length-rows, length-singles}

-- the samples of a layer of a leaf's points
abbrev pub layer_samples : Field → Node → ℕ → List ℤ
layer_samples s n z = joined 17 (λ y. line_samples s (leaf_line n z y))

-- what f gives for a face whose bit is set in a rim, and nothing for another
abbrev pub rim_part : {A : Type 0} → ℕ → (Face → List A) → Face → List A
rim_part rim f face = elim (is_set rim (face_bit face)) [ true ↦ f face | false ↦ [] ]

-- the samples of a leaf are those of its layers
pub leaf_samples-layers : (s : Field) (n : Node)
    → leaf_samples s n ≡ joined 17 (layer_samples s n)
leaf_samples-layers s n = refl

-- moving by nothing
moved-none : (axis : Axis) (n : ℕ) (p : Point) → n ≡ 0 → moved axis n p ≡ p
moved-none X n p none = λ i. record { z = p.z; y = p.y; x = same i }
  where
    same : p.x + n ≡ p.x
    same = omega arith
moved-none Y n p none = λ i. record { z = p.z; y = same i; x = p.x }
  where
    same : p.y + n ≡ p.y
    same = omega arith
moved-none Z n p none = λ i. record { z = same i; y = p.y; x = p.x }
  where
    same : p.z + n ≡ p.z
    same = omega arith

-- the samples of a face are those of its rows
pub face_samples-rows : (s : Field) (n : Node) (face : Face)
    → face_samples s n face ≡ joined 33 (λ v. line_samples s (fine_line n face v))
face_samples-rows s n face =
    let off : ℕ = elim (is_high face) [ true ↦ node_side n.level | false ↦ 0 ] in
    let on_face : Point = moved (axis_across face) off (low_corner n) in
    let corner : square_corner n face 0 0 ≡ on_face =
    moved-none (axis_along face lower) (2 ^ n.level * 0)
    (moved (axis_along face higher) (2 ^ n.level * 0) on_face) (omega arith)
    ∙ moved-none (axis_along face higher) (2 ^ n.level * 0) on_face (omega arith) in
    let half = 2 ^ (n.level - 1) in
    let rows : Point → List ℤ = λ low. joined 33 (λ v. joined 33 (λ u.
    s (moved (axis_along face lower) (half * u) (moved (axis_along face higher) (half * v) low))
    ∷ [])) in
    ap rows corner

-- a face whose bit is set in a rim
pub rim_part-set : {A : Type 0} (rim : ℕ) (f : Face → List A) (face : Face)
    → is_set rim (face_bit face) ≡ true → f face ≡ rim_part rim f face
rim_part-set {A} rim f face on =
    let pick : Bool → List A = λ b. elim b [ true ↦ f face | false ↦ [] ] in
    ap pick (sym on)

-- a face whose bit isn't
pub rim_part-clear : {A : Type 0} (rim : ℕ) (f : Face → List A) (face : Face)
    → is_set rim (face_bit face) ≡ false → [] ≡ rim_part rim f face
rim_part-clear {A} rim f face off =
    let pick : Bool → List A = λ b. elim b [ true ↦ f face | false ↦ [] ] in
    ap pick (sym off)

-- one face more
pub faces-more : {A : Type 0} (g : Face → List A) (start before now : List A) (k : ℕ) → k < 6
    → before ≡ start ++ flat_map g (take k faces) → now ≡ before ++ g (get_or faces k XLow)
    → now ≡ start ++ flat_map g (take (k + 1) faces)
faces-more g start before now k k_in known is =
    is ∙ ap (λ xs. xs ++ g (get_or faces k XLow)) known
    ∙ flat_map_more g start (take k faces) (get_or faces k XLow)
    ∙ ap (λ some. start ++ flat_map g some) (sym (take_more faces k XLow k_in))

-- equal lists of the first faces, and of one face more
pub faces-same : {A : Type 0} (p q : Face → List A) (k : ℕ) → k < 6
    → flat_map p (take k faces) ≡ flat_map q (take k faces)
    → p (get_or faces k XLow) ≡ q (get_or faces k XLow)
    → flat_map p (take (k + 1) faces) ≡ flat_map q (take (k + 1) faces)
faces-same {A} p q k k_in before here =
    let first : List A = flat_map p (take k faces) in
    let second : List A = flat_map q (take k faces) in
    sym (faces-more p [] first (first ++ p (get_or faces k XLow)) k k_in refl refl)
    ∙ (λ i. before i ++ here i)
    ∙ faces-more q [] second (second ++ q (get_or faces k XLow)) k k_in refl refl

-- ---- rows by their numbers

-- a line has as many samples as points
pub length-line : (s : Field) (line : Line) → length (line_samples s line) ≡ line.count
length-line s line = length-singles line.count (λ place. s (line_point line place))

-- rows of rows, one after another
layers-rows : {A : Type 0} (n : ℕ) (f : ℕ → ℕ → List A)
    → joined n (λ z. joined 17 (f z)) ≡ joined (n * 17) (λ row. f (row / 17) (row % 17))
layers-rows zero f =
    let none : 0 * 17 ≡ 0 = omega arith in
    joined-none (λ z. joined 17 (f z)) ∙ sym (joined-none (λ row. f (row / 17) (row % 17)))
    ∙ ap (λ k. joined k (λ row. f (row / 17) (row % 17))) (sym none)
layers-rows (suc n) f =
    let rows = λ (row : ℕ). f (row / 17) (row % 17) in
    let last : joined 17 (f n) ≡ joined 17 (λ k. rows (n * 17 + k)) =
    joined-same 17 (f n) (λ k. rows (n * 17 + k)) (λ k k_in.
    let z : n ≡ (n * 17 + k) / 17 = omega arith in
    let y : k ≡ (n * 17 + k) % 17 = omega arith in
    λ i. f (z i) (y i)) in
    let count : suc n * 17 ≡ n * 17 + 17 = omega arith in
    joined-suc n (λ z. joined 17 (f z))
    ∙ (λ i. layers-rows n f i ++ last i)
    ∙ sym (joined-add (n * 17) 17 rows) ∙ ap (λ k. joined k rows) (sym count)

-- the samples of a leaf, row by row
pub leaf_samples-rows : (s : Field) (n : Node) → leaf_samples s n
    ≡ joined 289 (λ row. line_samples s (leaf_line n (row / 17) (row % 17)))
leaf_samples-rows s n = layers-rows 17 (λ z y. line_samples s (leaf_line n z y))

-- a leaf has 17 x 17 x 17 samples
pub length-leaf : (s : Field) (n : Node) → length (leaf_samples s n) ≡ 4913
length-leaf s n =
    ap length (leaf_samples-rows s n)
    ∙ length-rows 17 289 (λ row. line_samples s (leaf_line n (row / 17) (row % 17)))
    (λ k k_in. length-line s (leaf_line n (k / 17) (k % 17)))

-- a face has 33 x 33 finer samples
pub length-face : (s : Field) (n : Node) (face : Face) → length (face_samples s n face) ≡ 1089
length-face s n face =
    ap length (face_samples-rows s n face)
    ∙ length-rows 33 33 (λ v. line_samples s (fine_line n face v))
    (λ k k_in. length-line s (fine_line n face k))

-- ---- faces one after another

-- the faces before one, it, and those after it
pub faces-split : {A : Type 0} (g : Face → List A) (k : ℕ) → k < 6
    → flat_map g faces ≡ flat_map g (take k faces)
    ++ (g (get_or faces k XLow) ++ flat_map g (drop (k + 1) faces))
faces-split g k k_in =
    ap (flat_map g) (sym (take-append-drop k faces)
    ∙ ap (λ rest. take k faces ++ rest) (drop_more faces k XLow k_in))
    ∙ flat_map-append g (take k faces) (get_or faces k XLow ∷ drop (k + 1) faces)

-- the part of a list between two others
pub cut-out : {A : Type 0} (xs front part rest : List A) (at w : ℕ)
    → xs ≡ front ++ (part ++ rest) → at ≡ length front → length part ≡ w
    → take (at + w - at) (drop at xs) ≡ part
cut-out xs front part rest at w is here long =
    let count : at + w - at ≡ w = omega arith in
    ap (λ n. take n (drop at xs)) count
    ∙ ap (λ ys. take w (drop at ys)) is
    ∙ ap (take w) (drop_at front (part ++ rest) at (sym here))
    ∙ take_at part rest w long

-- lists that are equally long for each face are so one after another
length-faces : (f g : Face → List ℤ) → ((face : Face) → length (f face) ≡ length (g face))
    → (some : List Face) → length (flat_map f some) ≡ length (flat_map g some)
length-faces f g each [] = refl
length-faces f g each (face ∷ some) =
    length-append (f face) (flat_map f some)
    ∙ (λ i. each face i + length-faces f g each some i)
    ∙ sym (length-append (g face) (flat_map g some))

-- so are the parts that a rim picks
length-rim_part : (rim : ℕ) (f g : Face → List ℤ)
    → ((face : Face) → length (f face) ≡ length (g face)) → (face : Face)
    → length (rim_part rim f face) ≡ length (rim_part rim g face)
length-rim_part rim f g each face = go (is_set rim (face_bit face))
  where
    go : (b : Bool) → length (elim b as (λ x. List ℤ) [ true ↦ f face | false ↦ [] ])
        ≡ length (elim b as (λ x. List ℤ) [ true ↦ g face | false ↦ [] ])
    go true = each face
    go false = refl

-- the finer samples of faces are as many for every field
pub length-over_rim : (rim : ℕ) (n : Node) (s t : Field)
    → length (over_rim rim (face_samples s n)) ≡ length (over_rim rim (face_samples t n))
length-over_rim rim n s t =
    length-faces (rim_part rim (face_samples s n)) (rim_part rim (face_samples t n))
    (length-rim_part rim (face_samples s n) (face_samples t n) (λ face.
    length-face s n face ∙ sym (length-face t n face))) faces

-- lists that are equal for each face whose bit is set in a rim
pub rim_part-same : {A : Type 0} (rim : ℕ) (f g : Face → List A) (face : Face)
    → (is_set rim (face_bit face) ≡ true → f face ≡ g face)
    → rim_part rim f face ≡ rim_part rim g face
rim_part-same {A} rim f g face same = go (is_set rim (face_bit face)) same
  where
    go : (b : Bool) → (b ≡ true → f face ≡ g face)
        → elim b as (λ x. List A) [ true ↦ f face | false ↦ [] ]
        ≡ elim b as (λ x. List A) [ true ↦ g face | false ↦ [] ]
    go true same = same refl
    go false same = refl

-- are so one after another
pub over_rim-same : {A : Type 0} (rim : ℕ) (f g : Face → List A)
    → ((face : Face) → is_set rim (face_bit face) ≡ true → f face ≡ g face)
    → over_rim rim f ≡ over_rim rim g
over_rim-same {A} rim f g each = go faces
  where
    go : (some : List Face) → flat_map (rim_part rim f) some ≡ flat_map (rim_part rim g) some
    go [] = refl
    go (face ∷ some) = λ i. rim_part-same rim f g face (each face) i ++ go some i

-- and where they are equally long, equal ones one after another are equal for each face
pub rim_parts-same : (rim : ℕ) (f g : Face → List ℤ)
    → ((face : Face) → length (f face) ≡ length (g face)) → over_rim rim f ≡ over_rim rim g
    → (k : ℕ) → k < 6
    → rim_part rim f (get_or faces k XLow) ≡ rim_part rim g (get_or faces k XLow)
rim_parts-same rim f g each same k k_in =
    let p : Face → List ℤ = rim_part rim f in
    let q : Face → List ℤ = rim_part rim g in
    let face : Face = get_or faces k XLow in
    let long = length-rim_part rim f g each in
    let at : ℕ = length (flat_map p (take k faces)) in
    sym (cut-out (flat_map p faces) (flat_map p (take k faces)) (p face)
    (flat_map p (drop (k + 1) faces)) at (length (p face)) (faces-split p k k_in) refl refl)
    ∙ cut-out (flat_map p faces) (flat_map q (take k faces)) (q face)
    (flat_map q (drop (k + 1) faces)) at (length (p face)) (same ∙ faces-split q k k_in)
    (length-faces p q long (take k faces)) (sym (long face))

-- ---- a brick by its parts

-- a brick of these parts is that of a leaf
pub brick-from : (b : Brick) (depth : ℕ) (s : Field) (m : LevelMap) → b.depth ≡ depth
    → b.rim ≡ rim depth m b.node → b.samples ≡ leaf_samples s b.node
    → b.faces ≡ over_rim b.rim (face_samples s b.node) → b ≡ brick depth s m b.node
unfolding brick
brick-from b depth s m depth_is rim_is samples_are faces_are =
    let all : b.faces ≡ over_transitional depth m b.node (face_samples s b.node) =
    faces_are ∙ ap (λ bits. over_rim bits (face_samples s b.node)) rim_is
    ∙ over_rim-is depth m b.node (face_samples s b.node) in
    λ i. record {
      depth = depth_is i;
      node = b.node;
      rim = rim_is i;
      samples = samples_are i;
      faces = all i;
    }

-- a brick's depth is the world's
pub brick-depth : (b : Brick) (depth : ℕ) (s : Field) (m : LevelMap) → b ≡ brick depth s m b.node
    → b.depth ≡ depth
unfolding brick
brick-depth b depth s m is = ap (λ (a : Brick). a.depth) is

-- a brick's rim is the leaf's
pub brick-rim : (b : Brick) (depth : ℕ) (s : Field) (m : LevelMap) → b ≡ brick depth s m b.node
    → b.rim ≡ rim depth m b.node
unfolding brick
brick-rim b depth s m is = ap (λ (a : Brick). a.rim) is

-- a brick's samples are the leaf's
pub brick-samples : (b : Brick) (depth : ℕ) (s : Field) (m : LevelMap)
    → b ≡ brick depth s m b.node → b.samples ≡ leaf_samples s b.node
unfolding brick
brick-samples b depth s m is = ap (λ (a : Brick). a.samples) is

-- its finer samples are those of the faces whose bits are set
pub brick-faces : (b : Brick) (depth : ℕ) (s : Field) (m : LevelMap)
    → b ≡ brick depth s m b.node → b.faces ≡ over_rim b.rim (face_samples s b.node)
unfolding brick
brick-faces b depth s m is =
    ap (λ (a : Brick). a.faces) is
    ∙ sym (over_rim-is depth m b.node (face_samples s b.node))
    ∙ ap (λ bits. over_rim bits (face_samples s b.node)) (sym (brick-rim b depth s m is))

-- how many samples a brick has
pub brick-leaf_count : (b : Brick) → IsBrick b → length b.samples ≡ 4913
brick-leaf_count b is =
    ∥∥₁_elim is.source (ℕ_set (length b.samples) 4913) (λ given.
    ap length (brick-samples b b.depth given.0 given.1 given.2.same) ∙ length-leaf given.0 b.node)

-- how many finer samples a brick has depends on its rim alone
pub brick-face_count : (b : Brick) (s : Field) → IsBrick b
    → length b.faces ≡ length (over_rim b.rim (face_samples s b.node))
brick-face_count b s is =
    ∥∥₁_elim is.source (ℕ_set (length b.faces) (length (over_rim b.rim (face_samples s b.node))))
    (λ given. ap length (brick-faces b b.depth given.0 given.1 given.2.same)
    ∙ length-over_rim b.rim b.node given.0 s)
