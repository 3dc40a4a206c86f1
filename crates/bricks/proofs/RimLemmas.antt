-- What the rim of a leaf says of its neighbours and faces.
--
-- For `gather` and `matches`, and for the mesher above. Each digit of a rim is the test of one direction
-- (`BinaryLemmas` of terrain): so each bit that is set is that of a neighbour in the world, and at level 0 there is
-- none (`IsRim-rim`), and the faces whose bits are set are the transitional ones (`over_rim-is`).
use Rattle.std.proofs.Common.{◌≡◌, ℕ, zero, suc, ◌<◌, Bool, true, false, List, [], ◌∷◌, ◌++◌, map, length, get_or, refl, sym, ap, ◌∙◌, arith, inl, inr}
use Rattle.std.specs.Prelude.{flat_map, slice_get, Some, IsTrue}
use Rattle.std.proofs.lemmas.Bool.{and_parts, and_right, cases_lt, false≢true}
use Rattle.lattice.specs.declared.node.Node.{Node}
use Rattle.lattice.specs.declared.point.Face.{Face}
use Rattle.lattice.specs.declared.point.Face.TheVariants.{XLow, XHigh, YLow, YHigh, ZLow, ZHigh}
use Rattle.lattice.specs.Face.{faces}
use Rattle.lattice.specs.Offset.{Direction, directions, has_neighbour, neighbour}
use Rattle.terrain.specs.Blocks.{over_transitional}
use Rattle.terrain.specs.Cells.{is_set}
use Rattle.terrain.specs.Levels.{IsBalanced, LevelMap, is_finer, is_transitional, rim}
use Rattle.bricks.specs.Brick.{IsRim, face_bit, over_rim}
use Rattle.terrain.proofs.BinaryLemmas.{binary-none, is_set-binary, is_set-past}

-- an item of a list
get-map : {A : Type 0} (f : A → Bool) (xs : List A) (k : ℕ) (d : A) → k < length xs
    → get_or (map f xs) k false ≡ f (get_or xs k d)
get-map f [] k d within = absurd (omega arith)
get-map f (x ∷ xs) zero d within = refl
get-map f (x ∷ xs) (suc k) d within = get-map f xs k d (omega arith)

-- the same by the checked read
slice_get-at : {A : Type 0} (xs : List A) (k : ℕ) (d : A) → k < length xs
    → slice_get xs k ≡ Some (get_or xs k d)
slice_get-at [] k d within = absurd (omega arith)
slice_get-at (x ∷ xs) zero d within = refl
slice_get-at (x ∷ xs) (suc k) d within = slice_get-at xs k d (omega arith)

-- ---- the bits of rims

-- some direction, to read a list past its end
stay : Direction
stay = record { z = 1; y = 1; x = 1 }

-- a node of level 0 isn't split
level_0-whole : (depth : ℕ) (m : LevelMap) → IsBalanced depth m → (n : Node) → n.level ≡ 0
    → m n ≡ false
level_0-whole depth m balanced n level = go (m n) refl
  where
    go : (b : Bool) → m n ≡ b → m n ≡ false
    go true e = absurd (omega (arith, balanced.octree.level n e))
    go false e = e

-- a place that is finer is in the world
place-finer : (depth : ℕ) (m : LevelMap) (n : Node) (bit : ℕ) (d : Direction)
    → slice_get directions bit ≡ Some d → is_finer depth m d n ≡ true
    → (e : Direction) × (slice_get directions bit ≡ Some e) × IsTrue (has_neighbour depth e n)
place-finer depth m n bit d is finer =
    (d, is, (and_parts (has_neighbour depth d n) (m (neighbour d n)) finer).0)

-- the rim of a leaf of a balanced map is one that a leaf may have
pub IsRim-rim : (depth : ℕ) (m : LevelMap) (n : Node) → IsBalanced depth m
    → IsRim depth n (rim depth m n)
IsRim-rim depth m n balanced =
    let f : Direction → Bool = λ d. is_finer depth m d n in
    record {
      places = λ bit set. elim (cases_lt bit 26) [
        | inl within ↦ place-finer depth m n bit (get_or directions bit stay)
            (slice_get-at directions bit stay within)
            (sym (get-map f directions bit stay within)
            ∙ sym (is_set-binary (map f directions) bit within) ∙ set)
        | inr past ↦ absurd (false≢true (sym (is_set-past (map f directions) bit past) ∙ set))
      ];
      level = λ zero_level. binary-none f directions (λ d.
          and_right (has_neighbour depth d n) (m (neighbour d n))
          (level_0-whole depth m balanced (neighbour d n) zero_level));
    }

-- the bit of the place across a face says whether the face is transitional
pub is_set-face : (depth : ℕ) (m : LevelMap) (n : Node) (face : Face)
    → is_set (rim depth m n) (face_bit face) ≡ is_transitional depth m n face
is_set-face depth m n XLow = is_set-binary (map (λ d. is_finer depth m d n) directions) 12
    (omega arith)
is_set-face depth m n XHigh = is_set-binary (map (λ d. is_finer depth m d n) directions) 13
    (omega arith)
is_set-face depth m n YLow = is_set-binary (map (λ d. is_finer depth m d n) directions) 10
    (omega arith)
is_set-face depth m n YHigh = is_set-binary (map (λ d. is_finer depth m d n) directions) 15
    (omega arith)
is_set-face depth m n ZLow = is_set-binary (map (λ d. is_finer depth m d n) directions) 4
    (omega arith)
is_set-face depth m n ZHigh = is_set-binary (map (λ d. is_finer depth m d n) directions) 21
    (omega arith)

-- the faces whose bits are set are the transitional ones
pub over_rim-is : {A : Type 0} (depth : ℕ) (m : LevelMap) (n : Node) (f : Face → List A)
    → over_rim (rim depth m n) f ≡ over_transitional depth m n f
over_rim-is {A} depth m n f =
    let pick : Face → Bool → List A = λ face b. elim b [ true ↦ f face | false ↦ [] ] in
    same faces (λ face. pick face (is_set (rim depth m n) (face_bit face)))
    (λ face. pick face (is_transitional depth m n face))
    (λ face. ap (pick face) (is_set-face depth m n face))
  where
    same : {A B : Type 0} (xs : List A) (f g : A → List B) → ((x : A) → f x ≡ g x)
        → flat_map f xs ≡ flat_map g xs
    same [] f g each = refl
    same (x ∷ xs) f g each = λ i. each x i ++ same xs f g each i
