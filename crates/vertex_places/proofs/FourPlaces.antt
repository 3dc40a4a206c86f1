-- Of the four neighbours beyond a border, some is finer and none is whole just where the one across the face is finer
-- and none is whole (`any_four`).
--
-- For `Shifts` (docs/rules.md, "Bricks and moves"). The one across the face is among the four (`middle`), and it is in
-- the world if any of them is. So where it is neither finer nor whole, it is outside, and then all four are.
use Rattle.std.proofs.Common.{◌≡◌, ℕ, zero, suc, ◌<◌, ◌≤◌, min, max, Bool, true, false, List, [], ◌∷◌, length, get_or, inl, inr, sym, ap, ◌∙◌, arith, lit<}
use Rattle.std.specs.Prelude.{◌&&◌, ◌||◌, not}
use Rattle.std.specs.List.{list_any}
use Rattle.std.proofs.lemmas.Bool.{and_right, cases_Bool, cases_lt, false≢true, or_left, or_right}
use Rattle.lattice.specs.Offset.{Direction}

-- ---- a test that an item of a list passes

-- a test that an item passes is passed by some item
list_any-at : {A : Type 0} (test : A → Bool) (xs : List A) (k : ℕ) (d : A) → k < length xs
    → test (get_or xs k d) ≡ true → list_any test xs ≡ true
list_any-at test [] k d within h = absurd (omega arith)
list_any-at test (x ∷ xs) zero d within h = or_left (test x) (list_any test xs) h
list_any-at test (x ∷ xs) (suc k) d within h =
    or_right (test x) (list_any test xs) (list_any-at test xs k d (omega arith) h)

-- a test that no item passes fails for each
list_any-fails : {A : Type 0} (test : A → Bool) (xs : List A) (k : ℕ) (d : A) → k < length xs
    → list_any test xs ≡ false → test (get_or xs k d) ≡ false
list_any-fails test xs k d within none =
    elim (cases_Bool (test (get_or xs k d))) [
      | inl pass ↦ absurd (false≢true (sym none ∙ list_any-at test xs k d within pass))
      | inr fail ↦ fail
    ]

-- ---- four places by their steps on two axes, one of which is (1, 1)

module _ (at : ℕ → ℕ → Direction) (a b : ℕ) where
  abbrev pub four : List Direction
  four =
      at (min a 1) (min b 1) ∷ at (min a 1) (max b 1)
      ∷ at (max a 1) (min b 1) ∷ at (max a 1) (max b 1) ∷ []

  -- where the neighbour across the face, (1, 1), is among the four
  record Middle : Type 0 where
    k : ℕ
    within : k < 4
    is : get_or four k (at 1 1) ≡ at 1 1

  -- it is among them, since a step that is 0, 1 or 2 and its bound by 1 leave 1 in one of two ways
  middle : Middle
  middle =
      elim (cases_lt 0 a) [
        | inl high ↦
            (let ea : min a 1 ≡ 1 = omega arith in
            elim (cases_lt 0 b) [
              | inl right ↦
                  (let eb : min b 1 ≡ 1 = omega arith in
                  record { k = 0; within = lit< tt; is = λ t. at (ea t) (eb t) })
              | inr left ↦
                  (let eb : max b 1 ≡ 1 = omega arith in
                  record { k = 1; within = lit< tt; is = λ t. at (ea t) (eb t) })
            ])
        | inr low ↦
            (let ea : max a 1 ≡ 1 = omega arith in
            elim (cases_lt 0 b) [
              | inl right ↦
                  (let eb : min b 1 ≡ 1 = omega arith in
                  record { k = 2; within = lit< tt; is = λ t. at (ea t) (eb t) })
              | inr left ↦
                  (let eb : max b 1 ≡ 1 = omega arith in
                  record { k = 3; within = lit< tt; is = λ t. at (ea t) (eb t) })
            ])
      ]

  -- where a finer place tells that the one across the face is in the world
  module _ (finer there : Direction → Bool) (ha : a ≤ 2) (hb : b ≤ 2)
      (reach : (u v : ℕ) → u ≤ 2 → v ≤ 2 → finer (at u v) ≡ true → there (at 1 1) ≡ true) where
    -- in the world and not finer
    abbrev whole : Direction → Bool
    whole d = there d && not (finer d)

    -- a neighbour that is neither finer nor whole is outside the world
    outside : finer (at 1 1) ≡ false → whole (at 1 1) ≡ false → there (at 1 1) ≡ false
    outside bare none =
        elim (cases_Bool (there (at 1 1))) [
          | inl is ↦
              (let both : whole (at 1 1) ≡ true = λ t. is t && not (bare t) in
              absurd (false≢true (sym none ∙ both)))
          | inr not_there ↦ not_there
        ]

    -- if the one across the face is outside, none of the others is finer
    bare_at : there (at 1 1) ≡ false → (u v : ℕ) → u ≤ 2 → v ≤ 2 → finer (at u v) ≡ false
    bare_at none u v hu hv =
        elim (cases_Bool (finer (at u v))) [
          | inl is ↦ absurd (false≢true (sym none ∙ reach u v hu hv is))
          | inr bare ↦ bare
        ]

    -- where none is whole, some is finer just where the one across the face is
    finer_four : list_any whole four ≡ false → list_any finer four ≡ finer (at 1 1)
    finer_four none =
        let mid = middle in
        let whole_mid : whole (at 1 1) ≡ false =
        ap whole (sym mid.is) ∙ list_any-fails whole four mid.k (at 1 1) mid.within none in
        elim (cases_Bool (finer (at 1 1))) [
          | inl is ↦
              list_any-at finer four mid.k (at 1 1) mid.within (ap finer mid.is ∙ is) ∙ sym is
          | inr bare ↦
              (let gone = bare_at (outside bare whole_mid) in
              let f1 = gone (min a 1) (min b 1) (omega arith) (omega arith) in
              let f2 = gone (min a 1) (max b 1) (omega arith) (omega arith) in
              let f3 = gone (max a 1) (min b 1) (omega arith) (omega arith) in
              let f4 = gone (max a 1) (max b 1) (omega arith) (omega arith) in
              (λ t. f1 t || (f2 t || (f3 t || (f4 t || false)))) ∙ sym bare)
        ]

    -- some place is finer and none whole exactly when the one across the face is finer and none whole
    pub any_four : (list_any finer four && not (list_any whole four))
        ≡ (finer (at 1 1) && not (list_any whole four))
    any_four =
        elim (cases_Bool (list_any whole four)) [
          | inl some ↦
              and_right (list_any finer four) (not (list_any whole four)) (ap not some)
              ∙ sym (and_right (finer (at 1 1)) (not (list_any whole four)) (ap not some))
          | inr none ↦ ap (λ f. f && not (list_any whole four)) (finer_four none)
        ]
