-- Ranges of nodes beside each other, on one axis, and the segment that a node shares with itself.
--
-- For `child_beside` of `BalanceLemmas` (`next_half`: a range that touches one of half its length has a half that is
-- beside that one, and in line where they overlap), and for `BesideLemmas` (`beside`, `itself`).
use Rattle.std.proofs.Common.{◌≡◌, ℕ, ◌+◌, ◌-◌, ◌*◌, ◌<◌, ◌≤◌, inl, inr, ap, ◌∙◌, arith}
use Rattle.std.proofs.Math.Nat.{mul-le-mul_right, le_of_mul-le-mul_right}
use Rattle.std.proofs.lemmas.Bool.{cases_lt}
use Rattle.lattice.specs.declared.node.Node.{Node}
use Rattle.lattice.specs.Node.{node_side}
use Rattle.terrain.specs.Levels.{Touch, Overlap, ShareSegment}
use Rattle.level_laws.proofs.RangeLemmas.{side_some, range_some}

-- the half of a range that is next to a range of its own length, and the step from it to that one
pub record NextHalf (index s S other : ℕ) : Type 0 where
  pub side : ℕ
  pub step : ℕ
  pub low : side ≤ 1
  pub short : step ≤ 2
  pub next : 2 * index + side + step ≡ other + 1
  pub overlap : Overlap (index * S) ((index + 1) * S) (other * s) ((other + 1) * s) → step ≡ 1

-- what is less as a multiple is less
less : (u v s : ℕ) → u * s < v * s → u < v
less u v s below =
    elim (cases_lt u v) [ inl h ↦ h | inr h ↦ absurd (omega (arith, mul-le-mul_right s h)) ]

-- the half of a range that is next to a range of its own length
pub next_half : (index s S other : ℕ) → S ≡ 2 * s → 0 < s
    → Touch (index * S) ((index + 1) * S) (other * s) ((other + 1) * s) → NextHalf index s S other
next_half index s S other twice some touch =
    let iS : index * S ≡ (2 * index) * s = ap (λ n. index * n) twice ∙ omega arith in
    let iS' : (index + 1) * S ≡ (2 * index + 2) * s = ap (λ n. (index + 1) * n) twice
    ∙ omega arith in
    let t0 : (2 * index) * s ≤ (other + 1) * s = omega (arith, iS, touch.0) in
    let t1 : other * s ≤ (2 * index + 2) * s = omega (arith, iS', touch.1) in
    let low : 2 * index ≤ other + 1 = le_of_mul-le-mul_right t0 some in
    let high : other ≤ 2 * index + 2 = le_of_mul-le-mul_right t1 some in
    let apart : Overlap (index * S) ((index + 1) * S) (other * s) ((other + 1) * s)
    → (2 * index < other + 1) × (other < 2 * index + 2) =
    λ o. (
      less (2 * index) (other + 1) s (omega (arith, iS, o.0)),
      less other (2 * index + 2) s (omega (arith, iS', o.1)),
    ) in
    elim (cases_lt (2 * index) other) [
      | inl above ↦ record {
        side = 1;
        step = other - 2 * index;
        low = omega arith;
        short = omega arith;
        next = omega arith;
        overlap = λ o. omega (arith, apart o);
      }
      | inr below ↦ record {
        side = 0;
        step = other + 1 - 2 * index;
        low = omega arith;
        short = omega arith;
        next = omega arith;
        overlap = λ o. omega (arith, apart o);
      }
    ]

-- two ranges of one length, a step apart
pub beside : (u v step s : ℕ) → step ≤ 2 → u + step ≡ v + 1
    → Touch (u * s) ((u + 1) * s) (v * s) ((v + 1) * s)
beside u v step s short next =
    (mul-le-mul_right s (omega arith), mul-le-mul_right s (omega arith))

-- two equal ranges overlap
pub itself : (u v s : ℕ) → 0 < s → u ≡ v → Overlap (u * s) ((u + 1) * s) (v * s) ((v + 1) * s)
itself u v s some same =
    let e : u * s ≡ v * s = ap (λ n. n * s) same in
    (omega (arith, e), omega (arith, e))

-- a node shares a segment with itself
pub ShareSegment-itself : (a : Node) → ShareSegment a a
ShareSegment-itself a =
    let s = node_side a.level in
    let some = side_some a.level in
    record {
      z = (omega (arith, range_some a.k s some), omega (arith, range_some a.k s some));
      y = (omega (arith, range_some a.j s some), omega (arith, range_some a.j s some));
      x = (omega (arith, range_some a.i s some), omega (arith, range_some a.i s some));
      length = inl (range_some a.k s some, range_some a.k s some);
    }
