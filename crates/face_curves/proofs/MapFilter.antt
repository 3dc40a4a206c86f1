-- A loop that goes over the numbers from 0 and keeps f of those that pass p.
--
-- For the loops of `curves` (over corners) and `loops` (over keys), whose invariant is that what is kept so far is
-- `listed`. Each number adds its own (`added`), so a list of fewer numbers is a front of that of more. `listed-room`
-- bounds what is kept by the whole, for lists of fixed size; `listed-kept` and `listed-left` are the two steps of such
-- a loop.
use Rattle.std.proofs.Common.{◌≡◌, ℕ, ◌+◌, ◌-◌, ◌<◌, ◌≤◌, zero, suc, Bool, true, false, cond, List, [], ◌∷◌, ◌++◌, length, map, refl, sym, ap, ◌∙◌, arith}
use Rattle.std.specs.List.{filter, range_with_len}
use Rattle.std.proofs.lemmas.List.{map-append, map-id, append_assoc, append-nil, length-append}
use Rattle.std.proofs.lemmas.List.FromFn.{map-range_with_len_more}
use Rattle.std.proofs.lemmas.List.Elements.{filter-append}

-- a range of one more number
range_with_len-more : (k : ℕ) → range_with_len 0 (k + 1) ≡ range_with_len 0 k ++ k ∷ []
range_with_len-more k = simp map-id at (map-range_with_len_more (λ x. x) 0 k k (omega arith))

module _ {X : Type 0} (f : ℕ → X) (p : ℕ → Bool) where
  -- what is kept of the numbers below k
  abbrev pub listed : ℕ → List X
  listed k = map f (filter p (range_with_len 0 k))

  -- what one more number adds
  abbrev pub added : ℕ → List X
  added k = cond (p k) (f k ∷ []) []

  -- what is kept of a single number
  map-filter-one : (k : ℕ) → map f (filter p (k ∷ [])) ≡ added k
  map-filter-one k = elim (p k) as (λ b. map f (cond b (k ∷ []) []) ≡ cond b (f k ∷ []) [])
      [ true ↦ refl | false ↦ refl ]

  -- what is kept of one number more
  pub listed-more : (k : ℕ) → listed (k + 1) ≡ listed k ++ added k
  listed-more k = ap (λ ks. map f (filter p ks)) (range_with_len-more k)
      ∙ ap (map f) (filter-append p (range_with_len 0 k) (k ∷ []))
      ∙ map-append f (filter p (range_with_len 0 k)) (filter p (k ∷ []))
      ∙ ap (λ xs. listed k ++ xs) (map-filter-one k)

  -- what d more numbers add comes behind what is there
  splits : (k d : ℕ) → (rest : List X) × (listed (k + d) ≡ listed k ++ rest)
  splits k zero = (
    [],
    ap listed (let e : k + 0 ≡ k = omega arith in e)
        ∙ sym (append-nil (listed k)),
  )
  splits k (suc d) =
      let h = splits k d in (
        h.0 ++ added (k + d),
        ap listed (let e : k + suc d ≡ (k + d) + 1 = omega arith in e)
            ∙ listed-more (k + d) ∙ ap (λ xs. xs ++ added (k + d)) h.1
            ∙ append_assoc (listed k) h.0 (added (k + d)),
      )

  -- what is kept of fewer numbers is a front of what is kept of more
  pub listed-splits : (k n : ℕ) → k ≤ n → (rest : List X) × (listed n ≡ listed k ++ rest)
  listed-splits k n h =
      let s = splits k (n - k) in
      (s.0, ap listed (let e : n ≡ k + (n - k) = omega arith in e) ∙ s.1)

  -- at a number that passes: a front, what it adds, and the rest
  pub listed-around : (k n : ℕ) → k < n → p k ≡ true
      → (rest : List X) × (listed n ≡ listed k ++ f k ∷ rest)
  listed-around k n h passes =
      let s = listed-splits (k + 1) n (omega arith) in
      let one : added k ≡ f k ∷ [] = ap (λ b. cond b (f k ∷ []) []) passes in (
        s.0,
        s.1 ∙ ap (λ xs. xs ++ s.0) (listed-more k ∙ ap (λ xs. listed k ++ xs) one)
            ∙ append_assoc (listed k) (f k ∷ []) s.0,
      )

  -- there is room for it below the length of the whole
  pub listed-room : (k n : ℕ) → k < n → p k ≡ true → length (listed k) < length (listed n)
  listed-room k n h passes =
      let s = listed-around k n h passes in
      omega (arith, ap length s.1, length-append (listed k) (f k ∷ s.0))

  -- a step of the loop at a number that passes
  pub listed-kept : (k : ℕ) (xs new : List X) (y : X) → xs ≡ listed k → p k ≡ true → y ≡ f k
      → new ≡ xs ++ y ∷ [] → new ≡ listed (k + 1)
  listed-kept k xs new y so_far passes is more =
      let one : added k ≡ f k ∷ [] = ap (λ b. cond b (f k ∷ []) []) passes in
      more ∙ ap (λ ys. ys ++ y ∷ []) so_far ∙ ap (λ z. listed k ++ z ∷ []) is
      ∙ sym (listed-more k ∙ ap (λ ys. listed k ++ ys) one)

  -- a step of the loop at a number that doesn't pass
  pub listed-left : (k : ℕ) (xs : List X) → xs ≡ listed k → p k ≡ false → xs ≡ listed (k + 1)
  listed-left k xs so_far fails =
      let none : added k ≡ [] = ap (λ b. cond b (f k ∷ []) []) fails in
      so_far ∙ sym (listed-more k ∙ ap (λ ys. listed k ++ ys) none ∙ append-nil (listed k))
