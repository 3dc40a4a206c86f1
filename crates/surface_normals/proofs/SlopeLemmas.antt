-- Slopes and normals in the code's numbers, and by a version's samples in place of a field's.
--
-- No sum or product of the code wraps, since samples are small (`difference`, `sum_fits`, `sum_is`). The ends of a key
-- are a step from each other on its own axis, so each is where the other's slope is taken from (`near-slope`,
-- `far-slope`). A version that holds a field has its slopes and normals, since all samples that these read are of
-- points of the world (`slope-same`, `normal-same`).
use Rattle.std.proofs.Common.{◌≡◌, ℕ, ◌^◌, ◌≤◌, ℤ, pos, ◌+ℤ◌, ◌-ℤ◌, ◌*ℤ◌, min, unsigned_abs, ap, sym, subst, ◌∙◌, arith, w8, w32, to_z, of_z, FitsSigned}
use Rattle.std.proofs.lemmas.Int.{fits_signed_from_abs, ints, to_z-of_z, unsigned_abs-mul}
use Rattle.std.proofs.lemmas.Nat.{mul-le}
use Rattle.lattice.specs.declared.key.Key.{Key}
use Rattle.lattice.specs.declared.point.Axis.{Axis}
use Rattle.lattice.specs.declared.point.Axis.TheVariants.{X, Y, Z}
use Rattle.lattice.specs.declared.point.Point.{Point}
use Rattle.lattice.specs.Key.{IsKey, far_end}
use Rattle.lattice.specs.Point.{IsInWorld, clamped, moved}
use Rattle.lattice.specs.Settings.{world_side}
use Rattle.terrain.specs.Samples.{Field, IsSample}
use Rattle.vertex_places.proofs.PlaceLemmas.{near_inside}
use Rattle.surface_normals.specs.Normals.{moved_back, normal_of, normal_on, slope}
use Rattle.surface_normals.specs.declared.vector.Normal.{Normal}

-- a number through the code's type
abbrev pub tz : ℤ → ℤ
tz z = to_z w32 (of_z w32 z)

-- a small number is what it was
pub same : (z : ℤ) → unsigned_abs z ≤ 100000 → tz z ≡ z
same z small = to_z-of_z w32 z (fits_signed_from_abs w32 z (omega (arith, small)))

-- a sample is small
small-sample : (x : ℤ) → IsSample x → unsigned_abs x ≤ 127
small-sample x is = omega (arith, ints, is.low, is.high)

-- and is what it was through its own type
pub same-sample : (x : ℤ) → IsSample x → to_z w8 (of_z w8 x) ≡ x
same-sample x is =
    let small = small-sample x is in
    to_z-of_z w8 x (fits_signed_from_abs w8 x (omega (arith, small)))

-- the difference of two samples, as the code computes it
pub difference : (x y f g : ℤ) → IsSample x → IsSample y → f ≡ to_z w8 (of_z w8 x)
    → g ≡ to_z w8 (of_z w8 y) → tz (tz f -ℤ tz g) ≡ x -ℤ y
difference x y f g hx hy ef eg =
    let small-x = small-sample x hx in
    let small-y = small-sample y hy in
    let p : f ≡ x = ef ∙ same-sample x hx in
    let q : g ≡ y = eg ∙ same-sample y hy in
    let p' : tz f ≡ x = ap tz p ∙ same x (omega (arith, small-x)) in
    let q' : tz g ≡ y = ap tz q ∙ same y (omega (arith, small-y)) in
    ap tz (λ i. p' i -ℤ q' i) ∙ same (x -ℤ y) (omega (arith, ints, small-x, small-y))

-- so it is a sample there too
pub kept-sample : (x : ℤ) → IsSample x → IsSample (to_z w8 (of_z w8 x))
kept-sample x is = subst IsSample (sym (same-sample x is)) is

-- a sample without its sign, as the code has it
pub size-is : (x f : ℤ) (u : ℕ) → IsSample x → u ≡ unsigned_abs (to_z w8 (of_z w8 x))
    → f ≡ pos u → f ≡ pos (unsigned_abs x)
size-is x f u is eu ef = ef ∙ ap pos (eu ∙ ap unsigned_abs (same-sample x is))

-- and it is small
pub size-small : (x f : ℤ) → IsSample x → f ≡ pos (unsigned_abs x) → unsigned_abs f ≤ 127
size-small x f is same =
    let small = small-sample x is in omega (arith, ints, small, ap unsigned_abs same)

module _ (b near a far : ℤ) (hb : unsigned_abs b ≤ 127) (hn : unsigned_abs near ≤ 254)
    (ha : unsigned_abs a ≤ 127) (hf : unsigned_abs far ≤ 254) where
  -- the products are small
  small-near : unsigned_abs (b *ℤ near) ≤ 32258
  small-near =
      let bound = mul-le (unsigned_abs b) (unsigned_abs near) 127 254 hb hn in
      omega (arith, bound, unsigned_abs-mul b near)

  -- the other one too
  small-far : unsigned_abs (a *ℤ far) ≤ 32258
  small-far =
      let bound = mul-le (unsigned_abs a) (unsigned_abs far) 127 254 ha hf in
      omega (arith, bound, unsigned_abs-mul a far)

  -- and are what the code computes
  product-near : tz (tz b *ℤ tz near) ≡ b *ℤ near
  product-near =
      let p = same b (omega (arith, hb)) in
      let q = same near (omega (arith, hn)) in
      ap tz (λ i. p i *ℤ q i) ∙ same (b *ℤ near) (omega (arith, small-near))

  -- the other one too
  product-far : tz (tz a *ℤ tz far) ≡ a *ℤ far
  product-far =
      let p = same a (omega (arith, ha)) in
      let q = same far (omega (arith, hf)) in
      ap tz (λ i. p i *ℤ q i) ∙ same (a *ℤ far) (omega (arith, small-far))

  -- so is their sum
  pub small-sum : unsigned_abs ((b *ℤ near) +ℤ (a *ℤ far)) ≤ 64516
  small-sum = omega (arith, ints, small-near, small-far)

  -- the sum of the products fits
  pub sum_fits : FitsSigned w32 (tz (tz b *ℤ tz near) +ℤ tz (tz a *ℤ tz far))
  sum_fits =
      let p = product-near in
      let q = product-far in
      let small = small-sum in
      let fits : FitsSigned w32 ((b *ℤ near) +ℤ (a *ℤ far)) =
      fits_signed_from_abs w32 ((b *ℤ near) +ℤ (a *ℤ far)) (omega (arith, small)) in
      rw (p, q) fits

  -- and is what the code computes
  pub sum_is : tz (tz (tz b *ℤ tz near) +ℤ tz (tz a *ℤ tz far)) ≡ (b *ℤ near) +ℤ (a *ℤ far)
  sum_is =
      let p = product-near in
      let q = product-far in
      ap tz (λ i. p i +ℤ q i)
      ∙ same ((b *ℤ near) +ℤ (a *ℤ far)) (let small = small-sum in omega (arith, small))

-- ---- on the axis of a key

-- a step forth and back
back-from : (axis : Axis) (step : ℕ) (p : Point) → moved_back axis step (moved axis step p) ≡ p
back-from X step p = ap (λ x. record p { x = x }) (omega arith)
back-from Y step p = ap (λ y. record p { y = y }) (omega arith)
back-from Z step p = ap (λ z. record p { z = z }) (omega arith)

-- a point of the world stays as it is
pub clamped-still : (depth : ℕ) (p : Point) → IsInWorld depth p → clamped depth p ≡ p
clamped-still depth p is =
    let z : min p.z (world_side depth) ≡ p.z = omega (arith, is.z) in
    let y : min p.y (world_side depth) ≡ p.y = omega (arith, is.y) in
    let x : min p.x (world_side depth) ≡ p.x = omega (arith, is.x) in
    λ i. record { z = z i; y = y i; x = x i }

module _ (depth : ℕ) (s : Field) (key : Key) (is : IsInWorld depth (far_end key)) where
  -- the slope at the near end is taken from the far end
  pub near-slope : (before : ℤ)
      → before ≡ s (clamped depth (moved_back key.axis (2 ^ key.level) key.at))
      → s (far_end key) -ℤ before ≡ slope depth s key.at (2 ^ key.level) key.axis
  near-slope before e =
      let at = ap s (sym (clamped-still depth (far_end key) is)) in λ i. at i -ℤ e i

  -- and the slope at the far end from the near end
  pub far-slope : IsInWorld depth key.at → (further : ℤ)
      → further ≡ s (clamped depth (moved key.axis (2 ^ key.level) (far_end key)))
      → further -ℤ s key.at ≡ slope depth s (far_end key) (2 ^ key.level) key.axis
  far-slope near further e =
      let back = back-from key.axis (2 ^ key.level) key.at in
      let at = ap s (sym (ap (clamped depth) back ∙ clamped-still depth key.at near)) in
      λ i. e i -ℤ at i

-- ---- by a version in place of a field

-- the low corner of a step is in the world, as is the point itself
clamped-inside : (depth : ℕ) (p : Point) → IsInWorld depth (clamped depth p)
clamped-inside depth p = record { z = omega arith; y = omega arith; x = omega arith }

module _ (depth : ℕ) (s t : Field) (agree : (p : Point) → IsInWorld depth p → s p ≡ t p) where
  -- two fields that agree in the world have one slope
  slope-same : (p : Point) (step : ℕ) (axis : Axis)
      → slope depth s p step axis ≡ slope depth t p step axis
  slope-same p step axis =
      let further = agree (clamped depth (moved axis step p))
      (clamped-inside depth (moved axis step p)) in
      let before = agree (clamped depth (moved_back axis step p))
      (clamped-inside depth (moved_back axis step p)) in
      λ i. further i -ℤ before i

  -- and one normal of each key
  normal_on-same : (key : Key) → IsKey depth key → (axis : Axis)
      → normal_on depth s key axis ≡ normal_on depth t key axis
  normal_on-same key is axis =
      let near = agree key.at (near_inside depth key is) in
      let far = agree (far_end key) is.end in
      let step = 2 ^ key.level in
      let first = slope-same key.at step axis in
      let second = slope-same (far_end key) step axis in
      λ i. (pos (unsigned_abs (far i)) *ℤ first i) +ℤ (pos (unsigned_abs (near i)) *ℤ second i)

  -- with all three numbers
  pub normal-same : (key : Key) → IsKey depth key
      → normal_of depth s key ≡ normal_of depth t key
  normal-same key is =
      let x = normal_on-same key is X in
      let y = normal_on-same key is Y in
      let z = normal_on-same key is Z in
      λ i. record { x = x i; y = y i; z = z i }

-- ---- a key as it is read on its axis

-- it has the key's normal
pub normal-on : (depth : ℕ) (s : Field) (key : Key) (axis : Axis) → key.axis ≡ axis → (x y z : ℤ)
    → x ≡ normal_on depth s (record key { axis = axis }) X
    → y ≡ normal_on depth s (record key { axis = axis }) Y
    → z ≡ normal_on depth s (record key { axis = axis }) Z
    → ◌≡◌ {A = Normal} (record { x = x; y = y; z = z }) (normal_of depth s key)
normal-on depth s key axis on x y z hx hy hz =
    (λ i. record { x = hx i; y = hy i; z = hz i })
    ∙ ap (λ a. normal_of depth s (record key { axis = a })) (sym on)
