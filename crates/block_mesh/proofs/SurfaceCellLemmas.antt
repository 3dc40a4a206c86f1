-- Cells whose corners have one sign, told for a whole row at once.
--
-- For `surface_cells` and `add_row`. Of the four rows of signs round a row of cells take the bits that some have and
-- those that all have. A cell's corners are all empty where the first has neither of its two bits (`number-none`), and
-- all solid where the second has both (`number-all`). So the cells with two signs are where a bit of the one differs
-- from the next bit of the other (`same-bits`), and the loop that goes from one to the next skips only cells without
-- triangles (`row-skip`).
use Rattle.std.proofs.Common.{◌≡◌, ℕ, ◌+◌, ◌*◌, ◌/◌, ◌%◌, ◌^◌, ◌<◌, ◌≤◌, zero, suc, List, [], ◌++◌, append-nil, bit_and, bit_or, bit_xor, get_or, inl, inr, max, min, sym, ap, ◌∙◌, ◌⊎◌, arith, shr-shr}
use Rattle.std.proofs.lemmas.Bool.{cases_lt}
use Rattle.std.proofs.lemmas.Nat.{and_le_l, and_le_r, and_mod, and_shr, le_or_l, le_or_r, or_mod, or_shr}
use Rattle.std.proofs.lemmas.Nat.Bits.{bit_at-lt, bit_at-pow_same, bit_at_and, bit_at_or, bit_at_xor}
use Rattle.std.specs.Int.{bit_at}
use Rattle.lattice.specs.declared.node.Node.{Node}
use Rattle.lattice.specs.Lists.{joined}
use Rattle.terrain.specs.Blocks.{cell_corner}
use Rattle.terrain.specs.Cells.{regular_signs, regular_triangles}
use Rattle.terrain.specs.Samples.{Field}
use Rattle.block_mesh.specs.Signs.{BoundCells}
use Rattle.block_mesh.proofs.SignLemmas.{regular_signs-rows}
use Rattle.block_mesh.proofs.OneSignLemmas.{regular-none}
use Rattle.lattice.proofs.RowLemmas.{joined-suc}

-- the two bits of a row at a place
abbrev pub bits : ℕ → ℕ → ℕ
bits x row = row / 2 ^ x % 4

-- the bits that one of two rows has are those of either
or-bits : (x a b : ℕ) → bits x (bit_or a b) ≡ bit_or (bits x a) (bits x b)
or-bits x a b = ap (λ n. n % 4) (or_shr a b x) ∙ or_mod (a / 2 ^ x) (b / 2 ^ x) 2

-- so the first has no more
pub bits-left : (x a b : ℕ) → bits x a ≤ bits x (bit_or a b)
bits-left x a b = omega (arith, le_or_l (bits x a) (bits x b), or-bits x a b)

-- nor has the second
pub bits-right : (x a b : ℕ) → bits x b ≤ bits x (bit_or a b)
bits-right x a b = omega (arith, le_or_r (bits x a) (bits x b), or-bits x a b)

-- the bits that both rows have are those of each
and-bits : (x a b : ℕ) → bits x (bit_and a b) ≡ bit_and (bits x a) (bits x b)
and-bits x a b = ap (λ n. n % 4) (and_shr a b x) ∙ and_mod (a / 2 ^ x) (b / 2 ^ x) 2

-- so the first has no fewer
pub bits-least_left : (x a b : ℕ) → bits x (bit_and a b) ≤ bits x a
bits-least_left x a b = omega (arith, and_le_l (bits x a) (bits x b), and-bits x a b)

-- nor has the second
pub bits-least_right : (x a b : ℕ) → bits x (bit_and a b) ≤ bits x b
bits-least_right x a b = omega (arith, and_le_r (bits x a) (bits x b), and-bits x a b)

-- the sign number of a cell by the bits of its rows
abbrev pub number_of : ℕ → List ℕ → ℕ
number_of x rows =
    bits x (get_or rows 0 0) + 4 * bits x (get_or rows 1 0) + 16 * bits x (get_or rows 2 0)
    + 64 * bits x (get_or rows 3 0)

-- where no row has a bit, no corner is solid
pub number-none : (x : ℕ) (rows : List ℕ)
    → bits x (bit_or (bit_or (bit_or (get_or rows 0 0) (get_or rows 1 0)) (get_or rows 2 0))
    (get_or rows 3 0)) ≡ 0 → number_of x rows ≡ 0
number-none x rows none =
    let a = get_or rows 0 0 in
    let b = get_or rows 1 0 in
    let c = get_or rows 2 0 in
    let d = get_or rows 3 0 in
    omega (
      arith,
      none,
      bits-left x a b,
      bits-right x a b,
      bits-left x (bit_or a b) c,
      bits-right x (bit_or a b) c,
      bits-left x (bit_or (bit_or a b) c) d,
      bits-right x (bit_or (bit_or a b) c) d,
    )

-- where all rows have both bits, all corners are solid
pub number-all : (x : ℕ) (rows : List ℕ)
    → bits x (bit_and (bit_and (bit_and (get_or rows 0 0) (get_or rows 1 0)) (get_or rows 2 0))
    (get_or rows 3 0)) ≡ 3 → number_of x rows ≡ 255
number-all x rows all =
    let a = get_or rows 0 0 in
    let b = get_or rows 1 0 in
    let c = get_or rows 2 0 in
    let d = get_or rows 3 0 in
    omega (
      arith,
      all,
      bits-least_left x a b,
      bits-least_right x a b,
      bits-least_left x (bit_and a b) c,
      bits-least_right x (bit_and a b) c,
      bits-least_left x (bit_and (bit_and a b) c) d,
      bits-least_right x (bit_and (bit_and a b) c) d,
    )

-- the cell's sign number is that
pub number-is : (s : Field) (n : Node) (z y x : ℕ) (rows : List ℕ) → x < 16
    → BoundCells s n z y rows → number_of x rows ≡ regular_signs s n.level (cell_corner n z y x)
number-is s n z y x rows x_in bound =
    ap (number_of x) bound.is ∙ regular_signs-rows s n z y x x_in

-- ---- which cells of a row have corners of two signs

-- the two bits at a place are its bit and the next one
two-bits : (x n : ℕ) → bits x n ≡ bit_at n x + 2 * bit_at (n / 2) x
two-bits x n =
    let next : n / 2 / 2 ^ x ≡ n / 2 ^ x / 2 =
    shr-shr n 1 x ∙ ap (λ k. n / 2 ^ k) (omega arith) ∙ sym (shr-shr n x 1) in
    let high : bit_at (n / 2) x ≡ n / 2 ^ x / 2 % 2 = ap (λ k. k % 2) next in
    omega (arith, high)

-- where a bit is the same in what either has, and in what both have, it and the next one are 0 in the first number, or
-- 1 in the second
same-bits : (x any all : ℕ)
    → bit_at (bit_xor (bit_or any (any / 2)) (bit_and all (all / 2))) x ≡ 0
    → (bits x any ≡ 0) ⊎ (bits x all ≡ 3)
same-bits x any all same =
    let either : bit_at (bit_or any (any / 2)) x ≡ max (bit_at any x) (bit_at (any / 2) x) =
    bit_at_or any (any / 2) x in
    let both : bit_at (bit_and all (all / 2)) x ≡ min (bit_at all x) (bit_at (all / 2) x) =
    bit_at_and all (all / 2) x in
    let apart = bit_at_xor (bit_or any (any / 2)) (bit_and all (all / 2)) x in
    elim (cases_lt (bit_at (bit_or any (any / 2)) x) 1) [
      | inl none ↦ inl (omega (arith, none, either, two-bits x any))
      | inr some ↦
          inr (omega (
            arith,
            some,
            same,
            apart,
            both,
            two-bits x all,
            bit_at-lt (bit_or any (any / 2)) x,
            bit_at-lt (bit_and all (all / 2)) x,
            bit_at-lt all x,
            bit_at-lt (all / 2) x,
          ))
    ]

-- so does a bit below one that is put in
pub same-below : (x any all : ℕ) → x < 16
    → bit_at (bit_or (bit_xor (bit_or any (any / 2)) (bit_and all (all / 2))) (2 ^ 16)) x ≡ 0
    → (bits x any ≡ 0) ⊎ (bits x all ≡ 3)
same-below x any all x_in none =
    let mixed : ℕ = bit_xor (bit_or any (any / 2)) (bit_and all (all / 2)) in
    same-bits x any all (omega (arith, none, bit_at_or mixed (2 ^ 16) x))

-- the bit that is put in is set
pub end-set : (n : ℕ) → bit_at (bit_or n (2 ^ 16)) 16 ≡ 1
end-set n = omega (arith, bit_at_or n (2 ^ 16) 16, bit_at-pow_same 16, bit_at-lt n 16)

-- ---- rows of which the plain cells are skipped

-- lists joined up to a place are joined as far as the next ones are empty
joined-skip : {A : Type 0} (f : ℕ → List A) (from to : ℕ) → from ≤ to
    → ((k : ℕ) → from ≤ k → k < to → f k ≡ []) → joined from f ≡ joined to f
joined-skip f from zero le none =
    let same : from ≡ 0 = omega (arith, le) in
    ap (λ k. joined k f) same
joined-skip f from (suc to) le none =
    elim (cases_lt from (suc to)) [
      | inl before ↦
          joined-skip f from to (omega (arith, before)) (λ k after k_in. none k after (omega arith))
          ∙ sym (joined-suc to f
          ∙ ap (λ last. joined to f ++ last) (none to (omega arith) (omega arith))
          ∙ append-nil (joined to f))
      | inr end ↦
          let same : from ≡ suc to = omega (arith, le, end) in
          ap (λ k. joined k f) same
    ]

-- the triangles of a row's cells up to a place are those up to the next one of two signs
pub row-skip : (s : Field) (n : Node) (z y cells from to : ℕ) → from ≤ to → to ≤ 16
    → ((x : ℕ) → x < 16 → bit_at cells x ≡ 0
    → (regular_signs s n.level (cell_corner n z y x) ≡ 0)
    ⊎ (regular_signs s n.level (cell_corner n z y x) ≡ 255))
    → ((k : ℕ) → from ≤ k → k < to → bit_at cells k ≡ 0)
    → joined from (λ x. regular_triangles s n.level (cell_corner n z y x))
    ≡ joined to (λ x. regular_triangles s n.level (cell_corner n z y x))
row-skip s n z y cells from to le within plain between =
    joined-skip (λ x. regular_triangles s n.level (cell_corner n z y x)) from to le
    (λ k after k_in. regular-none s n.level (cell_corner n z y k)
    (plain k (omega (arith, k_in, within)) (between k after k_in)))
