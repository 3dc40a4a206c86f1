-- What holds of every brush: the laws of field_laws. docs/rules.md, "Brushes", has them in words.
-- First the root: it is counted up by a test of the next square, which keeps both bounds, and no other number meets
-- them. Then where a brush reads: a shape reads the point alone, a smoothing six neighbours that are clamped to the
-- world. Then what a brush leaves alone: off its region a shape's value is at least the greatest sample, which is why
-- the region is MARGIN larger than the shape. For this a point off a grown box is off it on one of six sides (IsOff,
-- off_grown), and each shape's value is at least that far there (far_cuboid, far_ball, far_ground). Last, the range of
-- samples, brush by brush, how the edits in force grow by an event, that they alone make the field, and that they are
-- lawful where the events are.
use Rattle.std.proofs.Common.{◌≡◌, ℕ, zero, suc, ◌+◌, ◌-◌, ◌*◌, ◌/◌, ◌<◌, ◌≤◌, min, Bool, true, false, cond, ◌&&◌, List, [], ◌∷◌, ◌++◌, All, refl, ap, subst, arith, ◌⊎◌, inl, inr}
use Rattle.std.specs.Prelude.{ℤ, pos, negsuc, neg_ℤ, ◌+ℤ◌, ◌-ℤ◌, ◌*ℤ◌, ◌≤ℤ◌, nat_le}
use Rattle.std.specs.Int.{int_max, int_div_euclid}
use Rattle.std.proofs.lemmas.Int.{ints, clamps}
use Rattle.std.proofs.lemmas.Bool.{and_cases, leb-true, leb-false}
use Rattle.std.proofs.lemmas.List.Elements.{All-cons, All-drop, All-head, All-nil, All-tail}
use Rattle.std.proofs.Math.Nat.{mul-le-mul}
use Rattle.lattice.specs.declared.point.Point.{Point}
use Rattle.lattice.specs.declared.settings.Settings.{Settings}
use Rattle.terrain.specs.declared.brush.TheConstants.{MARGIN, MAX_SAMPLE, SUBCELLS}
use Rattle.terrain.specs.declared.brush.Mode.{Mode}
use Rattle.terrain.specs.declared.brush.Mode.TheVariants.{Fill, Carve}
use Rattle.terrain.specs.declared.brush.Brush.{Brush}
use Rattle.terrain.specs.declared.brush.Brush.TheVariants.{Cuboid, Ball, Ground, Smooth}
use Rattle.terrain.specs.declared.event.Event.{Event}
use Rattle.terrain.specs.declared.event.Event.TheVariants.{Edit, Camera, Away, Undo}
use Rattle.lattice.specs.Settings.{world_side}
use Rattle.lattice.specs.Point.{IsInWorld}
use Rattle.terrain.specs.Samples.{Field, IsSample}
use Rattle.terrain.specs.Brushes.{IsLawful, floor_root, square_distance, cuboid_value, ball_value, ground_value, shaped, smoothed, after_brush, grown, region}
use Rattle.lattice.specs.Region.{is_within}
use Rattle.terrain.specs.History.{IsLawfulEvent, field_of, in_force, in_force_after, in_force_by, sample}

-- ---- the root

-- one step of the root keeps its square at most the number
step_low : (r n : ℕ) (b : Bool) → nat_le ((r + 1) * (r + 1)) (suc n) ≡ b → r * r ≤ n
    → cond b (r + 1) r * cond b (r + 1) r ≤ suc n
step_low r n true e h = leb-true ((r + 1) * (r + 1)) (suc n) e
step_low r n false e h = omega arith

-- and the next square above it
step_high : (r n : ℕ) (b : Bool) → nat_le ((r + 1) * (r + 1)) (suc n) ≡ b → n < (r + 1) * (r + 1)
    → suc n < (cond b (r + 1) r + 1) * (cond b (r + 1) r + 1)
step_high r n true e h = omega arith
step_high r n false e h = leb-false ((r + 1) * (r + 1)) (suc n) e

-- the square of the root is at most the number
pub root_low : (n : ℕ) → floor_root n * floor_root n ≤ n
unfolding floor_root
root_low zero = omega arith
root_low (suc n) = step_low (floor_root n) n (nat_le ((floor_root n + 1) * (floor_root n + 1))
    (suc n)) refl (root_low n)

-- the square of the next number is above it
pub root_high : (n : ℕ) → n < (floor_root n + 1) * (floor_root n + 1)
unfolding floor_root
root_high zero = omega arith
root_high (suc n) = step_high (floor_root n) n
    (nat_le ((floor_root n + 1) * (floor_root n + 1)) (suc n)) refl (root_high n)

-- where one square is below another, so is the number
square_below : (a b : ℕ) → a * a < (b + 1) * (b + 1) → a ≤ b
square_below a b h =
    let cases : (a ≤ b) ⊎ (b + 1 ≤ a) = grind arith in
    elim cases [
      | inl le ↦ le
      | inr gt ↦ (let above : (b + 1) * (b + 1) ≤ a * a = mul-le-mul gt gt in
          absurd (omega arith))
    ]

-- no other number meets both bounds
pub root_only : (n r : ℕ) → r * r ≤ n → n < (r + 1) * (r + 1) → r ≡ floor_root n
root_only n r low high =
    let root_lo = root_low n in
    let root_hi = root_high n in
    let above : r ≤ floor_root n = square_below r (floor_root n) (omega arith) in
    let below : floor_root n ≤ r = square_below (floor_root n) r (omega arith) in
    omega arith

-- ---- where a brush reads

-- a choice by one test is the same where both parts are
same_choice : (b : Bool) (x x' y y' : ℤ) → x ≡ x' → y ≡ y'
    → (elim b as (λ _. ℤ) [ true ↦ x | false ↦ y ])
    ≡ (elim b as (λ _. ℤ) [ true ↦ x' | false ↦ y' ])
same_choice true x x' y y' ex ey = ex
same_choice false x x' y y' ex ey = ey

-- what smoothing makes of a sample and its six neighbours
eighth : ℤ → ℤ → ℤ → ℤ → ℤ → ℤ → ℤ → ℤ
eighth c x0 x1 y0 y1 z0 z1 =
    int_div_euclid ((pos 2 *ℤ c) +ℤ ((x0 +ℤ x1) +ℤ ((y0 +ℤ y1) +ℤ (z0 +ℤ z1)))) (pos 8)

-- smoothing gives the same for the same samples
same_eighth : (c c' x0 x0' x1 x1' y0 y0' y1 y1' z0 z0' z1 z1' : ℤ) → c ≡ c' → x0 ≡ x0' → x1 ≡ x1'
    → y0 ≡ y0' → y1 ≡ y1' → z0 ≡ z0' → z1 ≡ z1'
    → eighth c x0 x1 y0 y1 z0 z1 ≡ eighth c' x0' x1' y0' y1' z0' z1'
same_eighth c c' x0 x0' x1 x1' y0 y0' y1 y1' z0 z0' z1 z1' ec ex0 ex1 ey0 ey1 ez0 ez1 = cc

-- so it reads the world alone, as its neighbours are clamped to it
smooth_reads : (depth : ℕ) (s t : Field) → ((q : Point) → IsInWorld depth q → s q ≡ t q)
    → (p : Point) → IsInWorld depth p → smoothed depth s p ≡ smoothed depth t p
unfolding eighth
smooth_reads depth s t same p h =
    same_eighth _ _ _ _ _ _ _ _ _ _ _ _ _ _
    (same p h)
    (same (record p { x = p.x - 1 }) (record { z = h.z; y = h.y; x = omega arith }))
    (same (record p { x = min (p.x + 1) (world_side depth) })
    (record { z = h.z; y = h.y; x = omega arith }))
    (same (record p { y = p.y - 1 }) (record { z = h.z; y = omega arith; x = h.x }))
    (same (record p { y = min (p.y + 1) (world_side depth) })
    (record { z = h.z; y = omega arith; x = h.x }))
    (same (record p { z = p.z - 1 }) (record { z = omega arith; y = h.y; x = h.x }))
    (same (record p { z = min (p.z + 1) (world_side depth) })
    (record { z = omega arith; y = h.y; x = h.x }))

-- what a brush makes of a point of the world depends on samples at points of the world alone
pub reads_world : (depth : ℕ) (brush : Brush) (s t : Field)
    → ((q : Point) → IsInWorld depth q → s q ≡ t q) → (p : Point) → IsInWorld depth p
    → after_brush depth brush s p ≡ after_brush depth brush t p
reads_world depth (Cuboid mode lo hi) s t same p h =
    ap (shaped mode (cuboid_value lo hi p)) (same p h)
reads_world depth (Ball mode at r) s t same p h = ap (shaped mode (ball_value at r p)) (same p h)
reads_world depth (Ground mode g) s t same p h = ap (shaped mode (ground_value g p)) (same p h)
reads_world depth (Smooth lo hi) s t same p h =
    same_choice (is_within (record { lo = lo; hi = hi }) p) _ _ _ _
    (smooth_reads depth s t same p h) (same p h)

-- ---- what a brush leaves alone

-- a value of at least the greatest sample changes no sample
far_shape : (mode : Mode) (g s : ℤ) → MAX_SAMPLE ≤ℤ g → IsSample s → shaped mode g s ≡ s
far_shape Fill g s far range = omega (arith, ints, clamps)
far_shape Carve g s far range = omega (arith, ints, clamps)

-- a point is off a box on one of its six sides, so many cells away
data IsOff (n : ℕ) (lo hi p : Point) : Type 0 where
  OnZLow : p.z + n ≤ lo.z → IsOff n lo hi p
  OnZHigh : hi.z + n ≤ p.z → IsOff n lo hi p
  OnYLow : p.y + n ≤ lo.y → IsOff n lo hi p
  OnYHigh : hi.y + n ≤ p.y → IsOff n lo hi p
  OnXLow : p.x + n ≤ lo.x → IsOff n lo hi p
  OnXHigh : hi.x + n ≤ p.x → IsOff n lo hi p

-- the test of a point in a box fails at one of its six parts
off_box : (lo hi p : Point) → is_within (record { lo = lo; hi = hi }) p ≡ false → IsOff 1 lo hi p
off_box lo hi p h =
    let a = nat_le lo.z p.z in
    let b = nat_le p.z hi.z in
    let c = nat_le lo.y p.y in
    let d = nat_le p.y hi.y in
    let e = nat_le lo.x p.x in
    let f = nat_le p.x hi.x in
    elim (and_cases (a && b && c && d && e) f h) [
      | inr x_high ↦ OnXHigh (let k = leb-false p.x hi.x x_high in omega arith)
      | inl to_e ↦ elim (and_cases (a && b && c && d) e to_e) [
        | inr x_low ↦ OnXLow (let k = leb-false lo.x p.x x_low in omega arith)
        | inl to_d ↦ elim (and_cases (a && b && c) d to_d) [
          | inr y_high ↦ OnYHigh (let k = leb-false p.y hi.y y_high in omega arith)
          | inl to_c ↦ elim (and_cases (a && b) c to_c) [
            | inr y_low ↦ OnYLow (let k = leb-false lo.y p.y y_low in omega arith)
            | inl to_b ↦ elim (and_cases a b to_b) [
              | inr z_high ↦ OnZHigh (let k = leb-false p.z hi.z z_high in omega arith)
              | inl z_low ↦ OnZLow (let k = leb-false lo.z p.z z_low in omega arith)
            ]
          ]
        ]
      ]
    ]

-- the same for a box that was grown by n and clamped to the world
off_grown : (depth n : ℕ) (lo hi p : Point) → IsInWorld depth p
    → is_within (grown depth n lo hi) p ≡ false → IsOff (n + 1) lo hi p
off_grown depth n lo hi p inside h =
    elim (off_box (grown depth n lo hi).lo (grown depth n lo hi).hi p h) [
      | OnZLow off ↦ OnZLow (omega arith)
      | OnZHigh off ↦ OnZHigh (omega arith)
      | OnYLow off ↦ OnYLow (omega arith)
      | OnYHigh off ↦ OnYHigh (omega arith)
      | OnXLow off ↦ OnXLow (omega arith)
      | OnXHigh off ↦ OnXHigh (omega arith)
    ]

-- a number of cells past the margin is worth at least the greatest sample
far_value : (m : ℤ) → pos (MARGIN + 1) ≤ℤ m
    → MAX_SAMPLE ≤ℤ ((pos SUBCELLS *ℤ m) -ℤ pos (SUBCELLS / 2))
far_value m h = omega (arith, ints)

-- a coordinate that far below a range is that far outside
beyond_low : (low high c : ℕ) → c + (MARGIN + 1) ≤ low
    → pos (MARGIN + 1) ≤ℤ int_max (pos low -ℤ pos c) (pos c -ℤ pos high)
beyond_low low high c h = omega (arith, ints, clamps)

-- so is one that far above it
beyond_high : (low high c : ℕ) → high + (MARGIN + 1) ≤ c
    → pos (MARGIN + 1) ≤ℤ int_max (pos low -ℤ pos c) (pos c -ℤ pos high)
beyond_high low high c h = omega (arith, ints, clamps)

-- the greatest of three numbers of cells is past the margin where the first is
far_first : (x y z : ℤ) → pos (MARGIN + 1) ≤ℤ x
    → MAX_SAMPLE ≤ℤ ((pos SUBCELLS *ℤ int_max x (int_max y z)) -ℤ pos (SUBCELLS / 2))
far_first x y z h = let k : x ≤ℤ int_max x (int_max y z) = omega (arith, ints, clamps) in
    far_value (int_max x (int_max y z)) (omega (arith, ints))

-- or the second
far_second : (x y z : ℤ) → pos (MARGIN + 1) ≤ℤ y
    → MAX_SAMPLE ≤ℤ ((pos SUBCELLS *ℤ int_max x (int_max y z)) -ℤ pos (SUBCELLS / 2))
far_second x y z h = let k : y ≤ℤ int_max x (int_max y z) = omega (arith, ints, clamps) in
    far_value (int_max x (int_max y z)) (omega (arith, ints))

-- or the third
far_third : (x y z : ℤ) → pos (MARGIN + 1) ≤ℤ z
    → MAX_SAMPLE ≤ℤ ((pos SUBCELLS *ℤ int_max x (int_max y z)) -ℤ pos (SUBCELLS / 2))
far_third x y z h = let k : z ≤ℤ int_max x (int_max y z) = omega (arith, ints, clamps) in
    far_value (int_max x (int_max y z)) (omega (arith, ints))

-- off its grown box a cuboid is worth at least the greatest sample
far_cuboid : (lo hi p : Point) → IsOff (MARGIN + 1) lo hi p → MAX_SAMPLE ≤ℤ cuboid_value lo hi p
far_cuboid lo hi p h =
    let x = int_max (pos lo.x -ℤ pos p.x) (pos p.x -ℤ pos hi.x) in
    let y = int_max (pos lo.y -ℤ pos p.y) (pos p.y -ℤ pos hi.y) in
    let z = int_max (pos lo.z -ℤ pos p.z) (pos p.z -ℤ pos hi.z) in
    elim h [
      | OnZLow off ↦ far_third x y z (beyond_low lo.z hi.z p.z off)
      | OnZHigh off ↦ far_third x y z (beyond_high lo.z hi.z p.z off)
      | OnYLow off ↦ far_second x y z (beyond_low lo.y hi.y p.y off)
      | OnYHigh off ↦ far_second x y z (beyond_high lo.y hi.y p.y off)
      | OnXLow off ↦ far_first x y z (beyond_low lo.x hi.x p.x off)
      | OnXHigh off ↦ far_first x y z (beyond_high lo.x hi.x p.x off)
    ]

-- so is a ball where the square of the distance is past that of its radius and the margin
far_root : (r n : ℕ) → (r + (MARGIN + 1)) * (r + (MARGIN + 1)) ≤ n
    → MAX_SAMPLE ≤ℤ (pos (floor_root (SUBCELLS * SUBCELLS * n)) -ℤ pos (SUBCELLS * r))
far_root r n h =
    let above = root_high (SUBCELLS * SUBCELLS * n) in
    let root : SUBCELLS * (r + (MARGIN + 1)) ≤ floor_root (SUBCELLS * SUBCELLS * n) =
    square_below (SUBCELLS * (r + (MARGIN + 1))) (floor_root (SUBCELLS * SUBCELLS * n))
    (omega arith) in
    omega (arith, ints)

-- one of three squares is at least the square of k
far_square : (a b c k : ℕ) → (k ≤ a) ⊎ ((k ≤ b) ⊎ (k ≤ c)) → k * k ≤ a * a + b * b + c * c
far_square a b c k h =
    elim h [
      | inl ha ↦ (let s : k * k ≤ a * a = mul-le-mul ha ha in omega arith)
      | inr r ↦ elim r [
        | inl hb ↦ (let s : k * k ≤ b * b = mul-le-mul hb hb in
            omega arith)
        | inr hc ↦ (let s : k * k ≤ c * c = mul-le-mul hc hc in omega arith)
      ]
    ]

-- and so off a box that is that much larger
far_ball : (at p : Point) (r : ℕ) → IsOff (r + (MARGIN + 1)) at at p
    → MAX_SAMPLE ≤ℤ ball_value at r p
far_ball at p r h =
    let apart : ℕ → ℕ → ℕ = λ a b. (a - b) + (b - a) in
    let square : (r + (MARGIN + 1) ≤ apart p.x at.x)
    ⊎ ((r + (MARGIN + 1) ≤ apart p.y at.y) ⊎ (r + (MARGIN + 1) ≤ apart p.z at.z))
    → MAX_SAMPLE ≤ℤ ball_value at r p =
    λ k. far_root r (square_distance p at) (far_square (apart p.x at.x) (apart p.y at.y)
    (apart p.z at.z) (r + (MARGIN + 1)) k) in
    elim h [
      | OnZLow off ↦ square (inr (inr (omega arith)))
      | OnZHigh off ↦ square (inr (inr (omega arith)))
      | OnYLow off ↦ square (inr (inl (omega arith)))
      | OnYHigh off ↦ square (inr (inl (omega arith)))
      | OnXLow off ↦ square (inl (omega arith))
      | OnXHigh off ↦ square (inl (omega arith))
    ]

-- such a box is the region's, grown by the radius and the margin
off_ball : (depth r : ℕ) (at p : Point) → IsInWorld depth p
    → is_within (grown depth (r + MARGIN) at at) p ≡ false → IsOff (r + (MARGIN + 1)) at at p
off_ball depth r at p inside off =
    let P : ℕ → Type 0 = λ n. IsOff n at at p in
    let same : r + MARGIN + 1 ≡ r + (MARGIN + 1) = omega arith in
    subst P same (off_grown depth (r + MARGIN) at at p inside off)

-- a height past the margin is worth at least the greatest sample
far_height : (h z : ℕ) → h + (MARGIN + 1) ≤ z
    → MAX_SAMPLE ≤ℤ ((pos SUBCELLS *ℤ (pos z -ℤ pos h)) -ℤ pos (SUBCELLS / 2))
far_height h z far = far_value (pos z -ℤ pos h) (omega (arith, ints))

-- a point of the world off a ground's region is that high
above_ground : (depth h : ℕ) (p : Point) → IsInWorld depth p
    → is_within (region depth (Ground Fill h)) p ≡ false → h + (MARGIN + 1) ≤ p.z
above_ground depth h p inside off =
    elim (off_box (region depth (Ground Fill h)).lo (region depth (Ground Fill h)).hi p off) [
      | OnZLow below ↦ absurd (omega arith)
      | OnZHigh above ↦ omega arith
      | OnYLow below ↦ absurd (omega arith)
      | OnYHigh above ↦ absurd (omega arith)
      | OnXLow below ↦ absurd (omega arith)
      | OnXHigh above ↦ absurd (omega arith)
    ]

-- so off its region a ground is worth at least the greatest sample
far_ground : (depth h : ℕ) (p : Point) → IsInWorld depth p
    → is_within (region depth (Ground Fill h)) p ≡ false → MAX_SAMPLE ≤ℤ ground_value h p
far_ground depth h p inside off = far_height h p.z (above_ground depth h p inside off)

-- a choice whose test fails takes the second part
left_alone : (b : Bool) (x y : ℤ) → b ≡ false → (elim b as (λ _. ℤ) [ true ↦ x | false ↦ y ]) ≡ y
left_alone true x y h = absurd (cc)
left_alone false x y h = refl

-- a lawful brush changes no sample off its region
pub keeps_off_region : (depth : ℕ) (brush : Brush) (s : Field) (p : Point) → IsLawful depth brush
    → IsInWorld depth p → IsSample (s p) → is_within (region depth brush) p ≡ false
    → after_brush depth brush s p ≡ s p
keeps_off_region depth (Cuboid mode lo hi) s p lawful inside range off =
    far_shape mode _ _ (far_cuboid lo hi p (off_grown depth MARGIN lo hi p inside off)) range
keeps_off_region depth (Ball mode at r) s p lawful inside range off =
    far_shape mode _ _ (far_ball at p r (off_ball depth r at p inside off)) range
keeps_off_region depth (Ground mode h) s p lawful inside range off =
    far_shape mode _ _ (far_ground depth h p inside off) range
keeps_off_region depth (Smooth lo hi) s p lawful inside range off =
    left_alone (is_within (record { lo = lo; hi = hi }) p) _ _ off

-- ---- the range of samples

-- a shape keeps a sample in range
shaped_range : (mode : Mode) (g s : ℤ) → IsSample s → IsSample (shaped mode g s)
shaped_range Fill g s range = record {
  low = omega (arith, ints, clamps);
  high = omega (arith, ints, clamps);
}
shaped_range Carve g s range = record {
  low = omega (arith, ints, clamps);
  high = omega (arith, ints, clamps);
}

-- so does a choice of two samples
either_range : (b : Bool) (x y : ℤ) → IsSample x → IsSample y
    → IsSample (elim b as (λ _. ℤ) [ true ↦ x | false ↦ y ])
either_range true x y hx hy = hx
either_range false x y hx hy = hy

-- an eighth of a sum of eight samples is in their range
pub eighth_range : (n : ℤ) → neg_ℤ (pos 8 *ℤ MAX_SAMPLE) ≤ℤ n → n ≤ℤ (pos 8 *ℤ MAX_SAMPLE)
    → IsSample (int_div_euclid n (pos 8))
eighth_range (pos n) low high =
    let most : pos (n / 8) ≤ℤ MAX_SAMPLE = omega (arith, ints) in
    record { low = omega (arith, ints); high = most }
eighth_range (negsuc n) low high =
    let least : neg_ℤ MAX_SAMPLE ≤ℤ negsuc (n / 8) = omega (arith, ints) in
    record { low = least; high = omega (arith, ints) }

-- an eighth of samples in range is in range
sum_range : (c x0 x1 y0 y1 z0 z1 : ℤ) → IsSample c → IsSample x0 → IsSample x1 → IsSample y0
    → IsSample y1 → IsSample z0 → IsSample z1 → IsSample (eighth c x0 x1 y0 y1 z0 z1)
unfolding eighth
sum_range c x0 x1 y0 y1 z0 z1 hc hx0 hx1 hy0 hy1 hz0 hz1 =
    eighth_range _ (omega (arith, ints)) (omega (arith, ints))

-- so is what smoothing makes of a field in range
smooth_range : (depth : ℕ) (s : Field) → ((p : Point) → IsSample (s p)) → (p : Point)
    → IsSample (smoothed depth s p)
unfolding eighth
smooth_range depth s range p = sum_range _ _ _ _ _ _ _ (range _) (range _) (range _) (range _)
    (range _) (range _) (range _)

-- a brush keeps samples in their range
pub brush_range : (depth : ℕ) (brush : Brush) (s : Field) → ((p : Point) → IsSample (s p))
    → (p : Point) → IsSample (after_brush depth brush s p)
brush_range depth (Cuboid mode lo hi) s range p = shaped_range mode _ _ (range p)
brush_range depth (Ball mode at r) s range p = shaped_range mode _ _ (range p)
brush_range depth (Ground mode h) s range p = shaped_range mode _ _ (range p)
brush_range depth (Smooth lo hi) s range p =
    either_range (is_within (record { lo = lo; hi = hi }) p) _ _ (smooth_range depth s range p)
    (range p)

-- so do edits one after another
pub field_range : (depth : ℕ) (brushes : List Brush) (p : Point)
    → IsSample (field_of depth brushes p)
field_range depth [] p = record { low = omega (arith, ints); high = omega (arith, ints) }
field_range depth (brush ∷ before) p =
    brush_range depth brush (field_of depth before) (field_range depth before) p

-- every sample after a history is in the range
pub history_range : (settings : Settings) (events : List Event) (p : Point)
    → IsSample (sample settings events p)
history_range settings events p = field_range settings.depth (in_force events) p

-- ---- one more event

-- one event more at the end of a history acts on the edits in force before it
one_more : (events : List Event) (event : Event) (brushes : List Brush)
    → in_force_after (events ++ event ∷ []) brushes
    ≡ in_force_by event (in_force_after events brushes)
one_more [] event brushes = refl
one_more (e ∷ events) event brushes = one_more events event (in_force_by e brushes)

-- the field after one more event is that of the edits in force then
pub grows : (settings : Settings) (events : List Event) (event : Event) (p : Point)
    → sample settings (events ++ event ∷ []) p
    ≡ field_of settings.depth (in_force_by event (in_force events)) p
grows settings events event p =
    ap (λ brushes. field_of settings.depth brushes p) (one_more events event [])

-- so it does on the edits in force after a history
pub edits_grow : (events : List Event) (event : Event)
    → in_force (events ++ event ∷ []) ≡ in_force_by event (in_force events)
edits_grow events event = one_more events event []

-- the field depends on the edits in force alone
pub follows : (settings : Settings) (events others : List Event)
    → in_force events ≡ in_force others
    → (p : Point) → sample settings events p ≡ sample settings others p
follows settings events others same p = ap (λ brushes. field_of settings.depth brushes p) same

-- a lawful event leaves lawful edits in force
lawful_by : (depth : ℕ) (event : Event) (brushes : List Brush) → IsLawfulEvent depth event
    → All (IsLawful depth) brushes → All (IsLawful depth) (in_force_by event brushes)
lawful_by depth (Edit brush) brushes lawful all =
    All-cons (IsLawful depth) brush brushes lawful all
lawful_by depth (Camera view at) brushes lawful all = all
lawful_by depth (Away view) brushes lawful all = all
lawful_by depth Undo brushes lawful all = All-drop (IsLawful depth) 1 brushes all

-- and so do lawful events one after another
lawful_after : (depth : ℕ) (events : List Event) (brushes : List Brush)
    → All (IsLawfulEvent depth) events → All (IsLawful depth) brushes
    → All (IsLawful depth) (in_force_after events brushes)
lawful_after depth [] brushes lawful all = all
lawful_after depth (e ∷ events) brushes lawful all =
    lawful_after depth events (in_force_by e brushes)
    (All-tail (IsLawfulEvent depth) e events lawful)
    (lawful_by depth e brushes (All-head (IsLawfulEvent depth) e events lawful) all)

-- the edits in force after lawful events are lawful
pub lawful_in_force : (depth : ℕ) (events : List Event) → All (IsLawfulEvent depth) events
    → All (IsLawful depth) (in_force events)
lawful_in_force depth events lawful =
    lawful_after depth events [] lawful (All-nil (IsLawful depth))
