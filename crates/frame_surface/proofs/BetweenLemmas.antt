-- A vertex lies between the ends of its key, on each axis, wherever these have moved.
--
-- The place is so far on the way from one end to the other, rounded down. On a way up that is at most the whole way
-- (`up`); on a way down the part is rounded up, and is at most the whole way too (`down`). So with both ends in a range
-- the place is in it (`between-within`, `place_on-within`).
use Rattle.std.proofs.Common.{◌≡◌, ℕ, zero, suc, ◌+◌, ◌-◌, ◌*◌, ◌/◌, ◌<◌, ◌≤◌, ℤ, pos, neg_ℤ, ◌+ℤ◌, ◌-ℤ◌, ◌*ℤ◌, unsigned_abs, inl, inr, refl, sym, ap, ◌∙◌, subst, arith}
use Rattle.std.specs.Int.{int_div_euclid}
use Rattle.std.proofs.Math.IntN.{negsuc-*ℤ-pos, pos-*ℤ-pos}
use Rattle.std.proofs.Math.Nat.{div-le_of_le-mul, mul-le-mul_left, zero-div}
use Rattle.std.proofs.lemmas.Bool.{cases_lt}
use Rattle.std.proofs.lemmas.Int.{ints}
use Rattle.std.proofs.lemmas.Nat.{div_below}
use Rattle.lattice.specs.declared.key.Key.{Key}
use Rattle.lattice.specs.declared.point.Axis.{Axis}
use Rattle.lattice.specs.Key.{far_end}
use Rattle.terrain.specs.Blocks.{between, place_on, shifted}
use Rattle.terrain.specs.Levels.{LevelMap}
use Rattle.terrain.specs.Samples.{Field}

-- a number is in a range
pub record IsInRange (low high n : ℕ) : Type 0 where
  pub from : low ≤ n
  pub to : n ≤ high

-- a number with a sign is one without, which is in a range
pub record HasInRange (low high : ℕ) (z : ℤ) : Type 0 where
  pub number : ℕ
  pub is : z ≡ pos number
  pub range : IsInRange low high number

-- on a way up
up : (c d a b : ℕ) → IsInRange c (c + d) (between (pos c) (pos (c + d)) a b)
up c d a b =
    let apart : pos (c + d) -ℤ pos c ≡ pos d = omega (arith, ints) in
    let product = (λ t. apart t *ℤ pos a) ∙ pos-*ℤ-pos d a in
    let is : between (pos c) (pos (c + d)) a b ≡ c + d * a / (a + b) =
    ap (λ z. unsigned_abs (pos c +ℤ int_div_euclid z (pos (a + b)))) product in
    let whole : d * a ≤ d * (a + b) = mul-le-mul_left d (omega arith) in
    let part : d * a / (a + b) ≤ d = div-le_of_le-mul (a + b) (omega (arith, whole)) in
    record { from = omega (arith, is); to = omega (arith, is, part) }

-- a part of a way down
part_down : (c d x n : ℕ) → 0 < n → x ≤ d * n
    → IsInRange c (c + d) (unsigned_abs (pos (c + d) +ℤ int_div_euclid (neg_ℤ (pos x)) (pos n)))
part_down c d zero n some part =
    let none : 0 / n ≡ 0 = zero-div n in
    let is : unsigned_abs (pos (c + d) +ℤ int_div_euclid (neg_ℤ (pos 0)) (pos n)) ≡ c + d + 0 / n =
    refl in
    record { from = omega (arith, is, none); to = omega (arith, is, none) }
part_down c d (suc x) n some part =
    let below : x / n < d = div_below x n d some (omega (arith, part)) in
    record { from = omega (arith, ints, below); to = omega (arith, ints, below) }

-- a distance the other way round, as often as a weight
turned : (d a : ℕ) → neg_ℤ (pos d) *ℤ pos a ≡ neg_ℤ (pos (d * a))
turned zero a =
    let none : 0 * a ≡ 0 = omega arith in
    pos-*ℤ-pos 0 a ∙ ap pos none ∙ ap (λ n. neg_ℤ (pos n)) (sym none)
turned (suc d) a = negsuc-*ℤ-pos d a

-- on a way down
down : (c d a b : ℕ) → IsInRange c (c + d) (between (pos (c + d)) (pos c) a b)
down c d a b =
    let apart : pos c -ℤ pos (c + d) ≡ neg_ℤ (pos d) = omega (arith, ints) in
    let product = (λ t. apart t *ℤ pos a) ∙ turned d a in
    let is : between (pos (c + d)) (pos c) a b
    ≡ unsigned_abs (pos (c + d) +ℤ int_div_euclid (neg_ℤ (pos (d * a))) (pos (a + b))) =
    ap (λ z. unsigned_abs (pos (c + d) +ℤ int_div_euclid z (pos (a + b)))) product in
    subst (IsInRange c (c + d)) (sym is) (weighed a)
  where
    weighed : (a : ℕ) → IsInRange c (c + d)
        (unsigned_abs (pos (c + d) +ℤ int_div_euclid (neg_ℤ (pos (d * a))) (pos (a + b))))
    weighed zero =
        let none : 0 ≡ d * 0 = omega arith in
        let empty : 0 / (0 + b) ≡ 0 = zero-div (0 + b) in
        let value : IsInRange c (c + d)
        (unsigned_abs (pos (c + d) +ℤ int_div_euclid (neg_ℤ (pos 0)) (pos (0 + b)))) =
        record { from = omega (arith, empty); to = omega (arith, empty) } in
        subst (λ x. IsInRange c (c + d)
        (unsigned_abs (pos (c + d) +ℤ int_div_euclid (neg_ℤ (pos x)) (pos (0 + b))))) none value
    weighed (suc a) =
        part_down c d (d * suc a) (suc a + b) (omega arith) (mul-le-mul_left d (omega arith))

-- with both ends in a range
between-within : (low high p q a b : ℕ) → IsInRange low high p → IsInRange low high q
    → IsInRange low high (between (pos p) (pos q) a b)
between-within low high p q a b hp hq = elim (cases_lt p q) [
  | inl less ↦
      let way : p + (q - p) ≡ q = omega arith in
      let there = subst (λ e. IsInRange p e (between (pos p) (pos e) a b)) way (up p (q - p) a b) in
      record {
        from = omega (arith, there.from, hp.from);
        to = omega (arith, there.to, hq.to);
      }
  | inr more ↦
      let way : q + (p - q) ≡ p = omega arith in
      let there = subst (λ e. IsInRange q e (between (pos e) (pos q) a b)) way (down q (p - q) a b)
      in
      record {
        from = omega (arith, there.from, hq.from);
        to = omega (arith, there.to, hp.to);
      }
]

-- so a key's place is in a range on an axis where both of its ends are
pub place_on-within : (depth : ℕ) (s : Field) (m : LevelMap) (key : Key) (axis : Axis)
    (low high : ℕ) → HasInRange low high (shifted depth m key.level key.at axis)
    → HasInRange low high (shifted depth m key.level (far_end key) axis)
    → IsInRange low high (place_on depth s m key axis)
unfolding place_on
place_on-within depth s m key axis low high near far =
    let a = unsigned_abs (s key.at) in
    let b = unsigned_abs (s (far_end key)) in
    subst (IsInRange low high) (λ i. between (sym near.is i) (sym far.is i) a b)
    (between-within low high near.number far.number a b near.range far.range)
