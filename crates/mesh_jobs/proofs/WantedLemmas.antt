-- How many leaves are wanted: fewer once one of them isn't any more.
use Rattle.std.proofs.Common.{◌≡◌, ℕ, zero, suc, ◌<◌, ◌≤◌, Bool, true, false, List, [], ◌∷◌, length, get_or, refl, inl, inr, arith}
use Rattle.std.specs.Prelude.{filter}
use Rattle.std.proofs.lemmas.Bool.{cases_Bool}
use Rattle.lattice.specs.declared.node.Node.{Node}

module _ (p q : Node → Bool) (less : (n : Node) → q n ≡ true → p n ≡ true) where
  -- a list with one node more that passes
  filter-keep : (t : Node → Bool) (x : Node) (xs : List Node) → t x ≡ true
      → length (filter t (x ∷ xs)) ≡ suc (length (filter t xs))
  filter-keep t x xs h = rw h refl

  -- and with one that doesn't
  filter-drop : (t : Node → Bool) (x : Node) (xs : List Node) → t x ≡ false
      → length (filter t (x ∷ xs)) ≡ length (filter t xs)
  filter-drop t x xs h = rw h refl

  -- no more pass the narrower test
  pub no_more : (xs : List Node) → length (filter q xs) ≤ length (filter p xs)
  no_more [] = omega arith
  no_more (x ∷ xs) = elim (cases_Bool (q x)) [
    | inl both ↦
        omega (arith, no_more xs, filter-keep q x xs both, filter-keep p x xs (less x both))
    | inr none ↦ elim (cases_Bool (p x)) [
      | inl kept ↦ omega (arith, no_more xs, filter-drop q x xs none, filter-keep p x xs kept)
      | inr gone ↦ omega (arith, no_more xs, filter-drop q x xs none, filter-drop p x xs gone)
    ]
  ]

  -- fewer do, where one passes only the wider one
  pub fewer : (xs : List Node) (k : ℕ) (d : Node) → k < length xs → p (get_or xs k d) ≡ true
      → q (get_or xs k d) ≡ false → length (filter q xs) < length (filter p xs)
  fewer [] k d inside here gone_q = absurd (omega arith)
  fewer (x ∷ xs) zero d inside here gone_q =
      omega (arith, no_more xs, filter-drop q x xs gone_q, filter-keep p x xs here)
  fewer (x ∷ xs) (suc k) d inside here gone_q =
      let rest = fewer xs k d (omega arith) here gone_q in
      elim (cases_Bool (q x)) [
        | inl both ↦ omega (arith, rest, filter-keep q x xs both, filter-keep p x xs (less x both))
        | inr none ↦ elim (cases_Bool (p x)) [
          | inl kept ↦ omega (arith, rest, filter-drop q x xs none, filter-keep p x xs kept)
          | inr gone ↦ omega (arith, rest, filter-drop q x xs none, filter-drop p x xs gone)
        ]
      ]
