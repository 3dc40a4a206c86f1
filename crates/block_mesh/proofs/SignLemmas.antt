-- Signs of rows of samples as numbers, and the sign numbers of the cells between them.
--
-- For `signs.rt`. The number of a row has a digit for each sample (`signs-split`), so the digits from an index on, two
-- or three of them, are the signs of the next points (`pair`, `triple`). The corners of a regular cell are points of
-- four rows, two of each, and so its sign number is put together from them (`regular_signs-rows`); the nine points of a
-- transition cell are three of each of three rows (`transition_signs-rows`).
use Rattle.std.proofs.Common.{add_assoc, ◌≡◌, ℕ, suc, ◌+◌, ◌-◌, ◌*◌, ◌/◌, ◌%◌, ◌^◌, ◌<◌, ◌≤◌, Bool, true, false, ℤ, pos, List, [], ◌∷◌, map, take, drop, length, get_or, refl, sym, ap, ◌∙◌, arith}
use Rattle.std.proofs.Math.Nat.{mod-add-div, pow-le-pow_right, pow-suc}
use Rattle.std.proofs.Math.Seq.{drop-cons}
use Rattle.std.proofs.lemmas.List.{drop-map, drop_all, length-map, take-map}
use Rattle.lattice.proofs.JoinedLemmas.{joined-same}
use Rattle.lattice.specs.declared.node.Node.{Node}
use Rattle.lattice.specs.declared.point.Face.{Face}
use Rattle.lattice.specs.declared.point.Face.TheVariants.{XLow, XHigh, YLow, YHigh, ZLow, ZHigh}
use Rattle.lattice.specs.declared.point.Point.{Point}
use Rattle.lattice.specs.Face.{axis_across, axis_along, higher, is_high, lower}
use Rattle.lattice.specs.Lists.{joined}
use Rattle.lattice.specs.Node.{low_corner, node_side}
use Rattle.lattice.specs.Point.{moved}
use Rattle.terrain.specs.Blocks.{cell_corner, square_corner}
use Rattle.terrain.specs.Cells.{corner_point, fine_point, regular_signs, transition_signs}
use Rattle.terrain.specs.Lists.{binary}
use Rattle.terrain.specs.Samples.{Field, is_solid}
use Rattle.bricks.specs.declared.line.Line.{Line}
use Rattle.bricks.specs.Brick.{fine_line, leaf_line}
use Rattle.bricks.specs.Line.{line_point, line_samples}
use Rattle.block_mesh.specs.Signs.{line_signs, signs_of_samples}
use Rattle.bricks.proofs.BrickLemmas.{length-line}
use Rattle.lattice.proofs.RowLemmas.{get_or-singles, take-drop_singles}
use mir.Val.{bool_byte}
use Rattle.terrain.proofs.BinaryLemmas.{binary-below, binary-cons, binary-drop, binary-take, pairs, triples}

-- ---- signs of samples

-- the number of so many samples is small
pub signs-below : (samples : List ℤ) (count : ℕ) → length samples ≤ count
    → signs_of_samples samples < 2 ^ count
signs-below samples count few =
    let digits : length (map is_solid samples) ≤ count =
    omega (arith, length-map samples is_solid, few) in
    omega (
      arith,
      binary-below (map is_solid samples),
      pow-le-pow_right {n = 2} (omega arith) {i = length (map is_solid samples)} {j = count} digits,
    )

-- the number of samples, by those before a place and those from it on
pub signs-split : (samples : List ℤ) (place : ℕ) → signs_of_samples samples
    ≡ signs_of_samples (take place samples) + 2 ^ place * signs_of_samples (drop place samples)
signs-split samples place =
    let bits : List Bool = map is_solid samples in
    sym (mod-add-div (binary bits) (2 ^ place))
    ∙ (λ i. (binary-take place bits ∙ ap binary (take-map is_solid place samples)) i
    + 2 ^ place * (binary-drop place bits ∙ ap binary (drop-map is_solid place samples)) i)

-- the number of one sample
pub signs-one : (sample : ℤ) → signs_of_samples (sample ∷ []) ≡ bool_byte (is_solid sample)
signs-one sample = omega (arith, binary-cons (is_solid sample) [])

-- the samples from the last on are that one
pub drop-last : (samples : List ℤ) (last : ℕ) → length samples ≡ suc last
    → drop last samples ≡ get_or samples last (pos 0) ∷ []
drop-last samples last count =
    drop-cons samples last (pos 0) (omega (arith, count))
    ∙ ap (λ rest. get_or samples last (pos 0) ∷ rest)
    (drop_all (suc last) samples (omega (arith, count)))

-- ---- digits of lines

-- the digits of the points from one on, so many of them
cut : (s : Field) (line : Line) (x w : ℕ) → x + w ≤ line.count
    → line_signs s line / 2 ^ x % 2 ^ w
    ≡ binary (map is_solid (joined w (λ k. s (line_point line (x + k)) ∷ [])))
cut s line x w within =
    let at : ℕ → ℤ = λ k. s (line_point line k) in
    let samples : List ℤ = line_samples s line in
    let inside : x + w ≤ length samples = omega (arith, length-line s line) in
    ap (λ n. n % 2 ^ w) (binary-drop x (map is_solid samples))
    ∙ binary-take w (drop x (map is_solid samples))
    ∙ ap binary (ap (take w) (drop-map is_solid x samples) ∙ take-map is_solid w (drop x samples))
    ∙ ap (λ xs. binary (map is_solid xs)) (take-drop_singles samples x w (pos 0) inside
    ∙ joined-same w (λ k. get_or samples (x + k) (pos 0) ∷ []) (λ k. at (x + k) ∷ [])
    (λ k k_in. ap (λ sample. sample ∷ [])
    (get_or-singles line.count at (x + k) (pos 0) (omega arith))))

-- the digits of two points
pair : (s : Field) (line : Line) (x : ℕ) → x + 2 ≤ line.count
    → line_signs s line / 2 ^ x % 4
    ≡ binary (is_solid (s (line_point line (x + 0))) ∷ is_solid (s (line_point line (x + 1))) ∷ [])
unfolding joined
pair s line x within = cut s line x 2 within

-- the digits of three points
triple : (s : Field) (line : Line) (x : ℕ) → x + 3 ≤ line.count
    → line_signs s line / 2 ^ x % 8
    ≡ binary (is_solid (s (line_point line (x + 0))) ∷ is_solid (s (line_point line (x + 1)))
    ∷ is_solid (s (line_point line (x + 2))) ∷ [])
unfolding joined
triple s line x within = cut s line x 3 within

-- ---- regular cells

-- a corner of a cell is a point of a row
corner-on : (n : Node) (z y x c z' y' k : ℕ) → z' ≡ z + c / 4 → y' ≡ y + c / 2 % 2 → k ≡ c % 2
    → line_point (leaf_line n z' y') (x + k) ≡ corner_point n.level (cell_corner n z y x) c
corner-on n z y x c z' y' k at_z at_y at_x =
    λ i. record { z = same_z i; y = same_y i; x = same_x i }
  where
    step : (low a b c : ℕ) → a ≡ b + c → low + 2 ^ n.level * a
        ≡ low + 2 ^ n.level * b + 2 ^ n.level * c
    step low a b c is = ap (λ m. low + 2 ^ n.level * m) is ∙ omega arith

    same_z : (low_corner n).z + 2 ^ n.level * z'
        ≡ (low_corner n).z + 2 ^ n.level * z + 2 ^ n.level * (c / 4)
    same_z = step (low_corner n).z z' z (c / 4) at_z

    same_y : (low_corner n).y + 2 ^ n.level * y'
        ≡ (low_corner n).y + 2 ^ n.level * y + 2 ^ n.level * (c / 2 % 2)
    same_y = step (low_corner n).y y' y (c / 2 % 2) at_y

    same_x : (low_corner n).x + 2 ^ n.level * (x + k)
        ≡ (low_corner n).x + 2 ^ n.level * x + 2 ^ n.level * (c % 2)
    same_x = step (low_corner n).x (x + k) x (c % 2) (omega arith)

-- the sign number of a cell of a row
pub regular_signs-rows : (s : Field) (n : Node) (z y x : ℕ) → x < 16
    → line_signs s (leaf_line n z y) / 2 ^ x % 4
    + 4 * (line_signs s (leaf_line n z (y + 1)) / 2 ^ x % 4)
    + 16 * (line_signs s (leaf_line n (z + 1) y) / 2 ^ x % 4)
    + 64 * (line_signs s (leaf_line n (z + 1) (y + 1)) / 2 ^ x % 4)
    ≡ regular_signs s n.level (cell_corner n z y x)
regular_signs-rows s n z y x x_in =
    let bit : ℕ → Bool = λ c. is_solid (s (corner_point n.level (cell_corner n z y x) c)) in
    (λ i. low_low i + 4 * low_high i + 16 * high_low i + 64 * high_high i)
    ∙ pairs (bit 0) (bit 1) (bit 2) (bit 3) (bit 4) (bit 5) (bit 6) (bit 7)
  where
    row : (z' y' c d : ℕ) → z' ≡ z + c / 4 → y' ≡ y + c / 2 % 2 → 0 ≡ c % 2 → z' ≡ z + d / 4
        → y' ≡ y + d / 2 % 2 → 1 ≡ d % 2 → line_signs s (leaf_line n z' y') / 2 ^ x % 4
        ≡ binary (is_solid (s (corner_point n.level (cell_corner n z y x) c))
        ∷ is_solid (s (corner_point n.level (cell_corner n z y x) d)) ∷ [])
    row z' y' c d z_c y_c x_c z_d y_d x_d =
        pair s (leaf_line n z' y') x (omega arith)
        ∙ (λ i. binary (is_solid (s (corner-on n z y x c z' y' 0 z_c y_c x_c i))
        ∷ is_solid (s (corner-on n z y x d z' y' 1 z_d y_d x_d i)) ∷ []))

    low_low : line_signs s (leaf_line n z y) / 2 ^ x % 4
        ≡ binary (is_solid (s (corner_point n.level (cell_corner n z y x) 0))
        ∷ is_solid (s (corner_point n.level (cell_corner n z y x) 1)) ∷ [])
    low_low = row z y 0 1 (omega arith) (omega arith) refl (omega arith) (omega arith) refl

    low_high : line_signs s (leaf_line n z (y + 1)) / 2 ^ x % 4
        ≡ binary (is_solid (s (corner_point n.level (cell_corner n z y x) 2))
        ∷ is_solid (s (corner_point n.level (cell_corner n z y x) 3)) ∷ [])
    low_high = row z (y + 1) 2 3 (omega arith) (omega arith) refl (omega arith) (omega arith) refl

    high_low : line_signs s (leaf_line n (z + 1) y) / 2 ^ x % 4
        ≡ binary (is_solid (s (corner_point n.level (cell_corner n z y x) 4))
        ∷ is_solid (s (corner_point n.level (cell_corner n z y x) 5)) ∷ [])
    high_low = row (z + 1) y 4 5 (omega arith) (omega arith) refl (omega arith) (omega arith) refl

    high_high : line_signs s (leaf_line n (z + 1) (y + 1)) / 2 ^ x % 4
        ≡ binary (is_solid (s (corner_point n.level (cell_corner n z y x) 6))
        ∷ is_solid (s (corner_point n.level (cell_corner n z y x) 7)) ∷ [])
    high_high =
        row (z + 1) (y + 1) 6 7 (omega arith) (omega arith) refl (omega arith) (omega arith) refl

-- ---- transition cells

-- moving along a face, and then further
further : (face : Face) (a b c d : ℕ) (p : Point)
    → moved (axis_along face lower) a (moved (axis_along face higher) b
    (moved (axis_along face lower) c (moved (axis_along face higher) d p)))
    ≡ moved (axis_along face lower) (c + a) (moved (axis_along face higher) (d + b) p)
further XLow a b c d p =
    λ i. record { z = add_assoc p.z d b i; y = add_assoc p.y c a i; x = p.x }
further XHigh a b c d p =
    λ i. record { z = add_assoc p.z d b i; y = add_assoc p.y c a i; x = p.x }
further YLow a b c d p =
    λ i. record { z = add_assoc p.z d b i; y = p.y; x = add_assoc p.x c a i }
further YHigh a b c d p =
    λ i. record { z = add_assoc p.z d b i; y = p.y; x = add_assoc p.x c a i }
further ZLow a b c d p =
    λ i. record { z = p.z; y = add_assoc p.y d b i; x = add_assoc p.x c a i }
further ZHigh a b c d p =
    λ i. record { z = p.z; y = add_assoc p.y d b i; x = add_assoc p.x c a i }

-- two half steps are a step
halves : (level u k : ℕ) → 1 ≤ level
    → 2 ^ level * u + 2 ^ (level - 1) * k ≡ 2 ^ (level - 1) * (2 * u + k)
halves level u k some =
    let twice : 2 ^ level ≡ 2 * 2 ^ (level - 1) =
    ap (λ l. 2 ^ l) (let e : level ≡ suc (level - 1) = omega arith in e) ∙ pow-suc 2 (level - 1)
    ∙ omega arith in
    ap (λ side. side * u + 2 ^ (level - 1) * k) twice ∙ omega arith

-- a point of a transition cell is a point of a row
fine-on : (n : Node) (face : Face) (v u c v' k : ℕ) → 1 ≤ n.level → 2 * v + c / 3 ≡ v' → c % 3 ≡ k
    → fine_point n.level face (square_corner n face v u) c
    ≡ line_point (fine_line n face v') (2 * u + k)
fine-on n face v u c v' k some at_v at_u =
    let half : ℕ = 2 ^ (n.level - 1) in
    let off : ℕ = elim (is_high face) [ true ↦ node_side n.level | false ↦ 0 ] in
    let on_face : Point = moved (axis_across face) off (low_corner n) in
    further face (half * (c % 3)) (half * (c / 3)) (2 ^ n.level * u) (2 ^ n.level * v) on_face
    ∙ (λ i. moved (axis_along face lower) (halves n.level u (c % 3) some i)
    (moved (axis_along face higher) (halves n.level v (c / 3) some i) on_face))
    ∙ (λ i. moved (axis_along face lower) (half * (2 * u + at_u i))
    (moved (axis_along face higher) (half * at_v i) on_face))

-- the sign number of a transition cell of a row
pub transition_signs-rows : (s : Field) (n : Node) (face : Face) (v u : ℕ) → 1 ≤ n.level → u < 16
    → line_signs s (fine_line n face (2 * v)) / 2 ^ (2 * u) % 8
    + 8 * (line_signs s (fine_line n face (2 * v + 1)) / 2 ^ (2 * u) % 8)
    + 64 * (line_signs s (fine_line n face (2 * v + 2)) / 2 ^ (2 * u) % 8)
    ≡ transition_signs s n.level face (square_corner n face v u)
transition_signs-rows s n face v u some u_in =
    let bit : ℕ → Bool = λ c.
    is_solid (s (fine_point n.level face (square_corner n face v u) c)) in
    (λ i. low i + 8 * middle i + 64 * high i)
    ∙ triples (bit 0) (bit 1) (bit 2) (bit 3) (bit 4) (bit 5) (bit 6) (bit 7) (bit 8)
  where
    row : (v' c d e : ℕ) → 2 * v + c / 3 ≡ v' → c % 3 ≡ 0 → 2 * v + d / 3 ≡ v' → d % 3 ≡ 1
        → 2 * v + e / 3 ≡ v' → e % 3 ≡ 2 → line_signs s (fine_line n face v') / 2 ^ (2 * u) % 8
        ≡ binary (is_solid (s (fine_point n.level face (square_corner n face v u) c))
        ∷ is_solid (s (fine_point n.level face (square_corner n face v u) d))
        ∷ is_solid (s (fine_point n.level face (square_corner n face v u) e)) ∷ [])
    row v' c d e v_c u_c v_d u_d v_e u_e =
        let bit : (p k : ℕ) → 2 * v + p / 3 ≡ v' → p % 3 ≡ k
        → is_solid (s (line_point (fine_line n face v') (2 * u + k)))
        ≡ is_solid (s (fine_point n.level face (square_corner n face v u) p)) = λ p k at_v at_u.
        sym (ap (λ q. is_solid (s q)) (fine-on n face v u p v' k some at_v at_u)) in
        triple s (fine_line n face v') (2 * u) (omega arith)
        ∙ (λ i. binary (bit c 0 v_c u_c i ∷ bit d 1 v_d u_d i ∷ bit e 2 v_e u_e i ∷ []))

    low : line_signs s (fine_line n face (2 * v)) / 2 ^ (2 * u) % 8
        ≡ binary (is_solid (s (fine_point n.level face (square_corner n face v u) 0))
        ∷ is_solid (s (fine_point n.level face (square_corner n face v u) 1))
        ∷ is_solid (s (fine_point n.level face (square_corner n face v u) 2)) ∷ [])
    low = row (2 * v) 0 1 2 (omega arith) refl (omega arith) refl (omega arith) refl

    middle : line_signs s (fine_line n face (2 * v + 1)) / 2 ^ (2 * u) % 8
        ≡ binary (is_solid (s (fine_point n.level face (square_corner n face v u) 3))
        ∷ is_solid (s (fine_point n.level face (square_corner n face v u) 4))
        ∷ is_solid (s (fine_point n.level face (square_corner n face v u) 5)) ∷ [])
    middle = row (2 * v + 1) 3 4 5 (omega arith) refl (omega arith) refl (omega arith) refl

    high : line_signs s (fine_line n face (2 * v + 2)) / 2 ^ (2 * u) % 8
        ≡ binary (is_solid (s (fine_point n.level face (square_corner n face v u) 6))
        ∷ is_solid (s (fine_point n.level face (square_corner n face v u) 7))
        ∷ is_solid (s (fine_point n.level face (square_corner n face v u) 8)) ∷ [])
    high = row (2 * v + 2) 6 7 8 (omega arith) refl (omega arith) refl (omega arith) refl
