-- Sign numbers tell the corners, and the keys of a cell's triangles are present. For the law
-- `keys_of_cells_are_present`; all that turn sign numbers into samples use `signs_tell` and `signs_bound`.
--
-- A key is present where the signs of its edge's two ends differ. For each sign number it is tested that the two
-- corners of each key of the triangles have different bits (`regular_test`, `transition_test`; all sign numbers by
-- computing). What is left is geometry: that the edge's far end is the corner which the test meant (`corner_along`, for
-- transition cells `edge_far`).
use Rattle.std.proofs.Common.{◌≡◌, ℕ, zero, suc, ◌+◌, ◌-◌, ◌*◌, ◌/◌, ◌%◌, ◌^◌, ◌<◌, ◌≤◌, Bool, true, false, ◌&&◌, not, List, [], ◌∷◌, map, refl, ap, ◌∙◌, sym, subst, arith, cond, get_or}
use Rattle.std.specs.Prelude.{nat_lt, ◌==◌}
use Rattle.std.specs.Bool.{beq}
use Rattle.std.specs.List.{list_all, range_with_len, AllByRecursion}
use Rattle.std.proofs.Math.Nat.{pow-succ'}
use Rattle.std.proofs.lemmas.Bool.{ltb-true, eqb-true, and_parts}
use Rattle.std.specs.Simd.Lanes.{mask_l}
use Rattle.std.proofs.lemmas.Simd.{bit_mask_l, mask_l-lt}
use Rattle.std.proofs.lemmas.List.FromFn.{get_or-map-range_with_len, length-map-range_with_len}
use Rattle.lattice.specs.declared.point.Point.{Point}
use Rattle.lattice.specs.declared.point.Axis.{Axis}
use Rattle.lattice.specs.declared.point.Axis.TheVariants.{X, Y, Z}
use Rattle.lattice.specs.declared.point.Face.{Face}
use Rattle.lattice.specs.declared.key.Key.{Key}
use Rattle.terrain.specs.Lists.{binary}
use Rattle.lattice.specs.Point.{moved}
use Rattle.lattice.specs.Key.{far_end}
use Rattle.terrain.specs.Samples.{Field, is_solid}
use Rattle.terrain.specs.Curves.{Polygon, next, steps, orbit, loops_of}
use Rattle.terrain.specs.Cells.{is_set, signs_of, IsPresent, CellEdge, corner_point, regular_signs, regular_edges, regular_key, regular_faces, regular_triangles, triangles_of, fine_point, transition_signs, TransitionEdge, transition_edges, transition_key, transition_faces, transition_triangles}
use Rattle.lattice.specs.Face.{FaceAxis, lower, higher, axis_along}
use Rattle.cell_laws.proofs.AllSigns.{All-passing, all_regular, at_regular, all_transition, at_transition}

-- ---- sign numbers

-- this number is the one of which std's lemmas on bits speak
binary-mask : (bits : List Bool) → binary bits ≡ mask_l bits
binary-mask [] = refl
binary-mask (false ∷ bits) = omega (arith, binary-mask bits)
binary-mask (true ∷ bits) = omega (arith, binary-mask bits)

-- a bit is 1 where it is set
is_one-cond : (b : Bool) → (cond b 1 0 == 1) ≡ b
is_one-cond true = refl
is_one-cond false = refl

-- a bit of the number is the item of the list
binary_bit : (bits : List Bool) (i : ℕ) → is_set (binary bits) i ≡ get_or bits i false
binary_bit bits i = ap (λ n. is_set n i) (binary-mask bits) ∙ ap (λ n. n == 1) (bit_mask_l bits i)
    ∙ is_one-cond (get_or bits i false)

-- a sign number tells of each corner whether it is solid
pub signs_tell : (s : Field) (n : ℕ) (point : ℕ → Point) (corner : ℕ) → corner < n
    → is_set (signs_of s n point) corner ≡ is_solid (s (point corner))
signs_tell s n point corner lt =
    let solid : ℕ → Bool = λ c. is_solid (s (point c)) in
    binary_bit (map solid (range_with_len 0 n)) corner
    ∙ get_or-map-range_with_len solid 0 n corner corner false lt (omega arith)

-- a sign number of n corners is below 2 ^ n
pub signs_bound : (s : Field) (n : ℕ) (point : ℕ → Point) → signs_of s n point < 2 ^ n
signs_bound s n point =
    let solid : ℕ → Bool = λ c. is_solid (s (point c)) in
    let bits = map solid (range_with_len 0 n) in
    let P : ℕ → Type 0 = λ k. binary bits < 2 ^ k in
    subst P (length-map-range_with_len solid 0 n) (omega (arith, binary-mask bits, mask_l-lt bits))

-- ---- what the triangles of every cell are

-- whether all keys of triangles pass
all_keys : (ℕ → Bool) → List (List ℕ) → Bool
all_keys test triangles = list_all (list_all test) triangles

-- whether those of the triangles of a cell with this sign number and these faces do
abbrev keys_pass : (ℕ → ℕ → Bool) → ℕ → List Polygon → Bool
keys_pass test signs faces = all_keys (test signs) (triangles_of faces)

-- what holds of all images of a list
All-map : {X Y : Type 0} (f : X → Y) (P : Y → Type 0) (xs : List X)
    → AllByRecursion (λ x. P (f x)) xs → AllByRecursion P (map f xs)
All-map f P [] all = tt
All-map f P (x ∷ xs) all = (all.0, All-map f P xs all.1)

-- a test of the keys' numbers gives what holds of the keys
from_triangles : (test : ℕ → Bool) (P : Key → Type 0) (key : ℕ → Key)
    → ((k : ℕ) → test k ≡ true → P (key k)) → (triangles : List (List ℕ))
    → all_keys test triangles ≡ true → AllByRecursion (AllByRecursion P) (map (map key) triangles)
unfolding all_keys
from_triangles test P key h triangles e =
    All-map (map key) (AllByRecursion P) triangles
    (All-passing (list_all test) (λ keys. AllByRecursion P (map key keys))
    (λ keys pass. All-map key P keys (All-passing test (λ k. P (key k)) h keys pass)) triangles e)

-- whether two corners below n have different signs
differ : ℕ → ℕ → ℕ → ℕ → Bool
differ n signs a b = nat_lt a n && (nat_lt b n && not (beq (is_set signs a) (is_set signs b)))

-- two corners whose bits differ have samples of different signs
from_differ : (s : Field) (n : ℕ) (point : ℕ → Point) (a b : ℕ)
    → differ n (signs_of s n point) a b ≡ true
    → not (beq (is_solid (s (point a))) (is_solid (s (point b)))) ≡ true
unfolding differ
from_differ s n point a b h =
    let p = and_parts (nat_lt a n) (nat_lt b n && not
    (beq (is_set (signs_of s n point) a) (is_set (signs_of s n point) b))) h in
    let q = and_parts (nat_lt b n)
    (not (beq (is_set (signs_of s n point) a) (is_set (signs_of s n point) b))) p.1 in
    let at_a = signs_tell s n point a (ltb-true a n p.0) in
    let at_b = signs_tell s n point b (ltb-true b n q.0) in
    let P : Bool → Bool → Type 0 = λ x y. not (beq x y) ≡ true in
    subst (λ x. P x (is_solid (s (point b)))) at_a
    (subst (λ y. P (is_set (signs_of s n point) a) y) at_b q.1)

-- ---- regular cells

-- how much greater the number of the corner is that lies further along an axis
unfoldable pub step_along : Axis → ℕ
step_along X = 1
step_along Y = 2
step_along Z = 4

-- whether a corner is a low end on an axis
unfoldable pub is_low_on : Axis → ℕ → Bool
is_low_on X c = c % 2 == 0
is_low_on Y c = c / 2 % 2 == 0
is_low_on Z c = nat_lt c 4

-- points with the same coordinates are the same
pub same_point : {x x' y y' z z' : ℕ} → z ≡ z' → y ≡ y' → x ≡ x'
    → ◌≡◌ {A = Point} (record { z = z; y = y; x = x }) (record { z = z'; y = y'; x = x' })
same_point ez ey ex = cc

-- a coordinate that a step leaves as it was
unmoved : (a w v v' : ℕ) → v' ≡ v → a + w * v ≡ a + w * v'
unmoved a w v v' e = let f : ℕ → ℕ = λ u. a + w * u in ap f (sym e)

-- a coordinate that a step makes one side greater
further : (a w v v' : ℕ) → v' ≡ v + 1 → a + w * v + w ≡ a + w * v'
further a w v v' e = let P : ℕ → Type 0 = λ u. a + w * v + w ≡ a + w * u in
    subst P (sym e) (omega arith)

-- a step of a cell's side along an axis leads from a corner at the low end to the one at the high end
pub corner_along : (level : ℕ) (low : Point) (axis : Axis) (c : ℕ) → is_low_on axis c ≡ true
    → moved axis (2 ^ level) (corner_point level low c) ≡ corner_point level low
    (c + step_along axis)
unfolding step_along is_low_on
corner_along level low X c h =
    let free : c % 2 ≡ 0 = eqb-true (c % 2) 0 h in
    same_point (unmoved low.z (2 ^ level) (c / 4) _ (omega arith))
    (unmoved low.y (2 ^ level) (c / 2 % 2) _ (omega arith))
    (further low.x (2 ^ level) (c % 2) _ (omega arith))
corner_along level low Y c h =
    let free : c / 2 % 2 ≡ 0 = eqb-true (c / 2 % 2) 0 h in
    same_point (unmoved low.z (2 ^ level) (c / 4) _ (omega arith))
    (further low.y (2 ^ level) (c / 2 % 2) _ (omega arith))
    (unmoved low.x (2 ^ level) (c % 2) _ (omega arith))
corner_along level low Z c h =
    let free : c < 4 = ltb-true c 4 h in
    same_point (further low.z (2 ^ level) (c / 4) _ (omega arith))
    (unmoved low.y (2 ^ level) (c / 2 % 2) _ (omega arith))
    (unmoved low.x (2 ^ level) (c % 2) _ (omega arith))

-- an edge of a regular cell by its number
edge_at : ℕ → CellEdge
edge_at k = get_or regular_edges k (record { corner = 0; axis = X })

-- whether an edge goes from a corner at a low end to one with another sign
regular_test : ℕ → ℕ → Bool
regular_test signs k = is_low_on (edge_at k).axis (edge_at k).corner
    && differ 8 signs (edge_at k).corner ((edge_at k).corner + step_along (edge_at k).axis)

-- a key that passes is present
regular_present : (s : Field) (level : ℕ) (low : Point) (k : ℕ)
    → regular_test (regular_signs s level low) k ≡ true → IsPresent s (regular_key level low k)
unfolding regular_test edge_at
regular_present s level low k h =
    let e = edge_at k in
    let p = and_parts (is_low_on e.axis e.corner)
    (differ 8 (regular_signs s level low) e.corner (e.corner + step_along e.axis)) h in
    let d = from_differ s 8 (corner_point level low) e.corner (e.corner + step_along e.axis) p.1 in
    let P : Point → Type 0 =
    λ q. not (beq (is_solid (s (corner_point level low e.corner))) (is_solid (s q))) ≡ true in
    subst P (sym (corner_along level low e.axis e.corner p.0)) d

-- by computing, for 256 regular cells
regular_pass : all_regular (keys_pass regular_test) ≡ true
unfolding all_regular all_keys regular_test edge_at differ is_low_on step_along triangles_of next
    steps orbit loops_of
regular_pass = refl

-- the keys of a regular cell's triangles are present
pub regular_keys_present : (s : Field) (level : ℕ) (low : Point)
    → AllByRecursion (AllByRecursion (IsPresent s)) (regular_triangles s level low)
regular_keys_present s level low =
    let signs = regular_signs s level low in
    from_triangles (regular_test signs) (IsPresent s) (regular_key level low)
    (regular_present s level low) (triangles_of (regular_faces signs))
    (at_regular (keys_pass regular_test) regular_pass signs
    (signs_bound s 8 (corner_point level low)))

-- ---- transition cells

-- an edge of a transition cell by its number
transition_at : ℕ → TransitionEdge
transition_at k = get_or transition_edges k (record { is_coarse = false; point = 0; along = lower })

-- how many fine points along an axis an edge has
reach_of : TransitionEdge → ℕ
reach_of edge = elim edge.is_coarse [ true ↦ 2 | false ↦ 1 ]

-- the number of the point at an edge's far end, and whether there is one
far_point : TransitionEdge → ℕ
far_point edge =
    elim edge.along [ lower ↦ edge.point + reach_of edge | higher ↦ edge.point + 3 * reach_of edge ]

-- whether the far end is a point of the same row
has_far_point : TransitionEdge → Bool
has_far_point edge = elim edge.along [
  | lower ↦ nat_lt (edge.point % 3 + reach_of edge)
      3
  | higher ↦ true
]

-- whether an edge goes between two fine points with different signs
transition_test : ℕ → ℕ → Bool
transition_test signs k = has_far_point (transition_at k)
    && differ 9 signs (transition_at k).point (far_point (transition_at k))

-- two moves along one axis are one move
moved_twice : (axis : Axis) (a b : ℕ) (q : Point)
    → moved axis a (moved axis b q) ≡ moved axis (b + a) q
moved_twice X a b q = same_point refl refl (omega arith)
moved_twice Y a b q = same_point refl (omega arith) refl
moved_twice Z a b q = same_point (omega arith) refl refl

-- moves along two axes in either order
moved_in_turn : (v u : Axis) (n a : ℕ) (q : Point)
    → moved v n (moved u a q) ≡ moved u a (moved v n q)
moved_in_turn X X n a q = same_point refl refl (omega arith)
moved_in_turn Y Y n a q = same_point refl (omega arith) refl
moved_in_turn Z Z n a q = same_point (omega arith) refl refl
moved_in_turn X Y n a q = refl
moved_in_turn X Z n a q = refl
moved_in_turn Y X n a q = refl
moved_in_turn Y Z n a q = refl
moved_in_turn Z X n a q = refl
moved_in_turn Z Y n a q = refl

-- a coordinate and r halves more
summed : (w a r n b : ℕ) → n ≡ w * r → b ≡ a + r → w * a + n ≡ w * b
summed w a r n b en eb = let P : ℕ → Type 0 = λ c. w * a + n ≡ w * c in
    subst P (sym eb) (omega arith)

-- a step along the lower axis of a face leads to the point so many further in its row
pub along_lower : (u v : Axis) (w p r n : ℕ) (low : Point) → n ≡ w * r → p % 3 + r < 3
    → moved u n (moved u (w * (p % 3)) (moved v (w * (p / 3)) low)) ≡ moved u (w * ((p + r) % 3))
    (moved v (w * ((p + r) / 3)) low)
along_lower u v w p r n low en free =
    let f : ℕ → Point = λ a. moved u a (moved v (w * (p / 3)) low) in
    let g : ℕ → Point = λ b. moved u (w * ((p + r) % 3)) (moved v (w * b) low) in
    moved_twice u n (w * (p % 3)) (moved v (w * (p / 3)) low)
    ∙ ap f (summed w (p % 3) r n ((p + r) % 3) en (omega arith))
    ∙ ap g (omega arith)

-- a step along the higher axis of a face leads to the point so many rows further
pub along_higher : (u v : Axis) (w p r n : ℕ) (low : Point) → n ≡ w * r
    → moved v n (moved u (w * (p % 3)) (moved v (w * (p / 3)) low))
    ≡ moved u (w * ((p + 3 * r) % 3)) (moved v (w * ((p + 3 * r) / 3)) low)
along_higher u v w p r n low en =
    let f : ℕ → Point = λ b. moved u (w * (p % 3)) (moved v b low) in
    let g : ℕ → Point = λ a. moved u (w * a) (moved v (w * ((p + 3 * r) / 3)) low) in
    let h : Point → Point = λ q. moved u (w * (p % 3)) q in
    moved_in_turn v u n (w * (p % 3)) (moved v (w * (p / 3)) low)
    ∙ ap h (moved_twice v n (w * (p / 3)) low)
    ∙ ap f (summed w (p / 3) r n ((p + 3 * r) / 3) en (omega arith))
    ∙ ap g (omega arith)

-- a side is twice a side of the level below
pub doubled : (level : ℕ) → 1 ≤ level → 2 ^ level ≡ 2 ^ (level - 1) * 2
doubled zero h = absurd (omega arith)
doubled (suc l) h =
    let P : ℕ → Type 0 = λ k. 2 ^ suc l ≡ 2 ^ k * 2 in
    let same : suc l - 1 ≡ l = omega arith in
    let double = pow-succ' 2 l in
    subst P (sym same) (omega arith)

-- the key of an edge of this kind
edge_key : ℕ → Face → Point → TransitionEdge → Key
edge_key level face low edge =
    record {
      level = elim edge.is_coarse [ true ↦ level | false ↦ level - 1 ];
      at = fine_point level face low edge.point;
      axis = axis_along face edge.along;
    }

-- the far end of an edge, by its kind and axis
kind_far : (level : ℕ) (face : Face) (low : Point) (coarse : Bool) (p : ℕ) (along : FaceAxis)
    → 1 ≤ level → has_far_point (record { is_coarse = coarse; point = p; along = along }) ≡ true
    → far_end (edge_key level face low (record { is_coarse = coarse; point = p; along = along }))
    ≡ fine_point level face low (far_point (record {
      is_coarse = coarse;
      point = p;
      along = along;
    }))
unfolding edge_key has_far_point far_point reach_of
kind_far level face low false p lower one e =
    along_lower (axis_along face lower) (axis_along face higher) (2 ^ (level - 1)) p 1
    (2 ^ (level - 1)) low (omega arith) (ltb-true (p % 3 + 1) 3 e)
kind_far level face low true p lower one e =
    along_lower (axis_along face lower) (axis_along face higher) (2 ^ (level - 1)) p 2 (2 ^ level)
    low (doubled level one) (ltb-true (p % 3 + 2) 3 e)
kind_far level face low false p higher one e =
    along_higher (axis_along face lower) (axis_along face higher) (2 ^ (level - 1)) p 1
    (2 ^ (level - 1)) low (omega arith)
kind_far level face low true p higher one e =
    along_higher (axis_along face lower) (axis_along face higher) (2 ^ (level - 1)) p 2 (2 ^ level)
    low (doubled level one)

-- the far end of an edge
edge_far : (level : ℕ) (face : Face) (low : Point) (edge : TransitionEdge) → 1 ≤ level
    → has_far_point edge ≡ true → far_end (edge_key level face low edge) ≡ fine_point level face low
    (far_point edge)
unfolding edge_key
edge_far level face low edge one e =
    kind_far level face low edge.is_coarse edge.point edge.along one e

-- the far end of a key, by its number
transition_far : (level : ℕ) (face : Face) (low : Point) (k : ℕ) → 1 ≤ level
    → has_far_point (transition_at k) ≡ true → far_end (transition_key level face low k)
    ≡ fine_point level face low (far_point (transition_at k))
unfolding transition_at edge_key
transition_far level face low k h e = edge_far level face low (transition_at k) h e

-- a key that passes is present
transition_present : (s : Field) (level : ℕ) (face : Face) (low : Point) → 1 ≤ level → (k : ℕ)
    → transition_test (transition_signs s level face low) k ≡ true
    → IsPresent s (transition_key level face low k)
unfolding transition_test transition_at
transition_present s level face low one k h =
    let e = transition_at k in
    let p = and_parts (has_far_point e) (differ 9 (transition_signs s level face low) e.point
    (far_point e)) h in
    let d = from_differ s 9 (fine_point level face low) e.point (far_point e) p.1 in
    let P : Point → Type 0 =
    λ q. not (beq (is_solid (s (fine_point level face low e.point))) (is_solid (s q))) ≡ true in
    subst P (sym (transition_far level face low k one p.0)) d

-- by computing, for 512 transition cells in two turns
transition_pass : all_transition (keys_pass transition_test) ≡ true
unfolding all_transition all_keys transition_test transition_at reach_of far_point has_far_point
    differ triangles_of next steps orbit loops_of
transition_pass = refl

-- the keys of a transition cell's triangles are present
pub transition_keys_present : (s : Field) (level : ℕ) (face : Face) (low : Point) → 1 ≤ level
    → AllByRecursion (AllByRecursion (IsPresent s)) (transition_triangles s level face low)
transition_keys_present s level face low one =
    let signs = transition_signs s level face low in
    from_triangles (transition_test signs) (IsPresent s) (transition_key level face low)
    (transition_present s level face low one) (triangles_of (transition_faces face signs))
    (at_transition (keys_pass transition_test) transition_pass face signs
    (signs_bound s 9 (fine_point level face low)))
