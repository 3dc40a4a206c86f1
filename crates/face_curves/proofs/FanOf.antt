-- The triangles of a loop, by their places, and how many there are.
--
-- For the loops of `push_fan` and `fan`: the triangle at a place is the first key and two neighbours (`fan_of-at`), so
-- that pushing it makes one more of the fan (`fan_of-more`). A loop of n keys has n - 2 triangles, and 16 keys in all
-- have at most 14 (`fan-room`).
use Rattle.std.proofs.Common.{◌≡◌, ℕ, ◌+◌, ◌-◌, ◌<◌, ◌≤◌, zero, suc, List, [], ◌∷◌, ◌++◌, length, map, take, drop, slice_index_or, slice_index, refl, sym, ap, ◌∙◌, arith}
use Rattle.std.specs.List.{zip, flat_map}
use Rattle.std.proofs.lemmas.List.{length-append, append-nil, take_more, take-append-drop}
use Rattle.std.proofs.lemmas.List.Concat.{flat_map-append}
use Rattle.terrain.specs.Curves.{fan, fan_of}
use Rattle.face_curves.proofs.HaveSameNet.{fan-count}

-- the triangle of key and two neighbours
abbrev triangle : ℕ → ℕ × ℕ → List ℕ
triangle key edge = key ∷ edge.0 ∷ edge.1 ∷ []

-- a triangle for each key after the second
length-triangles : (key a : ℕ) (rest : List ℕ)
    → length (map (triangle key) (zip (a ∷ rest) rest)) ≡ length rest
length-triangles key a [] = refl
length-triangles key a (b ∷ rest) = ap suc (length-triangles key b rest)

-- a fan has two triangles fewer than keys
length-fan_of : (keys : List ℕ) → length (fan_of keys) ≡ length keys - 2
length-fan_of [] = refl
length-fan_of (key ∷ []) = refl
length-fan_of (key ∷ a ∷ rest) = omega (arith, length-triangles key a rest)

-- the triangle at a place, by recursion
triangles-at : (key a : ℕ) (rest : List ℕ) (j : ℕ) → j < length rest
    → slice_index_or (map (triangle key) (zip (a ∷ rest) rest)) j [] ≡ key ∷ slice_index (a ∷ rest)
    j ∷ slice_index rest j ∷ []
triangles-at key a [] j within = absurd (omega arith)
triangles-at key a (b ∷ rest) zero within = refl
triangles-at key a (b ∷ rest) (suc j) within = triangles-at key b rest j (omega arith)

-- the triangle at a place of the fan
fan_of-at : (keys : List ℕ) (i : ℕ) → 2 ≤ i → i < length keys
    → slice_index_or (fan_of keys) (i - 2) [] ≡ slice_index keys 0 ∷ slice_index keys (i - 1)
    ∷ slice_index keys i ∷ []
fan_of-at [] i from within = absurd (omega arith)
fan_of-at (key ∷ []) i from within = absurd (omega arith)
fan_of-at (key ∷ a ∷ rest) zero from within = absurd (omega arith)
fan_of-at (key ∷ a ∷ rest) (suc zero) from within = absurd (omega arith)
fan_of-at (key ∷ a ∷ rest) (suc (suc j)) from within =
    let e : suc (suc j) - 2 ≡ j = omega arith in
    let d : suc (suc j) - 1 ≡ suc j = omega arith in
    ap (λ n. slice_index_or (fan_of (key ∷ a ∷ rest)) n []) e
    ∙ triangles-at key a rest j (omega arith)
    ∙ ap (λ n. key ∷ slice_index (key ∷ a ∷ rest) n ∷ slice_index rest j ∷ []) (sym d)

-- one more triangle
pub fan_of-more : (keys : List ℕ) (i : ℕ) → 2 ≤ i → i < length keys
    → take (i + 1 - 2) (fan_of keys) ≡ take (i - 2) (fan_of keys) ++
    (slice_index keys 0 ∷ slice_index keys (i - 1) ∷ slice_index keys i ∷ []) ∷ []
fan_of-more keys i from within =
    let e : i + 1 - 2 ≡ (i - 2) + 1 = omega arith in
    ap (λ n. take n (fan_of keys)) e ∙ take_more (fan_of keys) (i - 2) []
    (omega (arith, length-fan_of keys))
    ∙ ap (λ t. take (i - 2) (fan_of keys) ++ t ∷ []) (fan_of-at keys i from within)

-- the fans of one more loop
fan-more : (lists : List (List ℕ)) (i : ℕ) → i < length lists
    → fan (take (i + 1) lists) ≡ fan (take i lists) ++ fan_of (slice_index_or lists i [])
fan-more lists i within =
    let keys = slice_index_or lists i [] in
    ap fan (take_more lists i [] within) ∙ flat_map-append fan_of (take i lists) (keys ∷ [])
    ∙ ap (λ ts. fan (take i lists) ++ ts) (append-nil (fan_of keys))

-- there is room for the triangles of one more loop
pub fan-room : (lists : List (List ℕ)) (i : ℕ) → i < length lists
    → length (flat_map (λ keys. keys) lists) ≤ 16
    → length (fan (take i lists)) + (length (slice_index_or lists i []) - 2) ≤ 14
fan-room lists i within few =
    let keys = slice_index_or lists i [] in
    let front = take (i + 1) lists in
    let all : length (flat_map (λ ks. ks) lists) ≡ length (flat_map (λ ks. ks) front) + length
    (flat_map (λ ks. ks) (drop (i + 1) lists)) =
    ap (λ ls. length (flat_map (λ ks. ks) ls)) (sym (take-append-drop (i + 1) lists))
    ∙ ap length (flat_map-append (λ ks. ks) front (drop (i + 1) lists))
    ∙ length-append (flat_map (λ ks. ks) front) (flat_map (λ ks. ks) (drop (i + 1) lists)) in
    omega (
      arith,
      all,
      fan-count front,
      ap length (fan-more lists i within),
      length-append (fan (take i lists)) (fan_of keys),
      length-fan_of keys,
    )
