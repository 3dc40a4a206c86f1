-- The range of an index on an axis, from index * s to (index + 1) * s, in cells.
--
-- Offered to the proofs of the crates above, which import them: `side_more`, `side_some` and `range_some`.
use Rattle.std.proofs.Common.{◌≡◌, ℕ, ◌+◌, ◌*◌, ◌<◌, ◌≤◌, inl, inr, ap, arith, add-one}
use Rattle.std.proofs.Math.Nat.{pow-suc}
use Rattle.std.proofs.lemmas.Nat.{pow_pos}
use Rattle.std.proofs.lemmas.Bool.{cases_lt}
use Rattle.lattice.specs.Node.{node_side}
use Rattle.terrain.specs.Levels.{Touch, Overlap}

-- the side doubles from level to level
pub side_more : (l : ℕ) → node_side (l + 1) ≡ 2 * node_side l
side_more l = rw (add-one, pow-suc) (omega arith)

-- a side is at least 1
pub side_some : (l : ℕ) → 0 < node_side l
side_some l = omega (arith, pow_pos l)

-- a range has a length
pub range_some : (index s : ℕ) → 0 < s → index * s < (index + 1) * s
range_some index s some = omega arith

-- one of the halves of a range keeps what the range has in common with another
pub record Half (index s S x y : ℕ) : Type 0 where
  pub side : ℕ
  pub low : side ≤ 1
  pub touch : Touch x y ((2 * index + side) * s) ((2 * index + side + 1) * s)
  pub overlap : Overlap x y (index * S) ((index + 1) * S)
      → Overlap x y ((2 * index + side) * s) ((2 * index + side + 1) * s)

-- each range that touches another has such a half
pub half : (index s S x y : ℕ) → S ≡ 2 * s → 0 < s → x < y → Touch x y (index * S) ((index + 1) * S)
    → Half index s S x y
half index s S x y twice some long touch =
    let iS : index * S ≡ index * (2 * s) = ap (λ n. index * n) twice in
    let iS' : (index + 1) * S ≡ (index + 1) * (2 * s) = ap (λ n. (index + 1) * n) twice in
    let t0 : x ≤ (index + 1) * S = touch.0 in
    let t1 : index * S ≤ y = touch.1 in
    elim (cases_lt x ((2 * index + 1) * s)) [
      | inl below ↦ record {
        side = 0;
        low = omega arith;
        touch = (omega (arith, iS, iS'), omega (arith, iS, iS'));
        overlap = λ o. (let o0 : x < (index + 1) * S = o.0 in let o1 : index * S < y = o.1 in
            (omega (arith, iS, iS'), omega (arith, iS, iS')));
      }
      | inr above ↦ record {
        side = 1;
        low = omega arith;
        touch = (omega (arith, iS, iS'), omega (arith, iS, iS'));
        overlap = λ o. (let o0 : x < (index + 1) * S = o.0 in let o1 : index * S < y = o.1 in
            (omega (arith, iS, iS'), omega (arith, iS, iS')));
      }
    ]
