-- What the signs of a page's samples tell of each of them.
--
-- That a test holds of a list of samples is that it holds at each place (all-from, all-at). So the samples' signs are
-- those of solid ones exactly where each is solid, and those of others where none is (signs-each): a page has a first
-- sample, so that not both can be. They follow from the two tests (signs-by).
use Rattle.std.proofs.Common.{◌≡◌, ◌↔◌, Bool, true, false, cond, not, ℕ, suc, ◌<◌, List, [], ◌∷◌, ℤ, length, get_or, refl, sym, ap, ◌∙◌, arith}
use Rattle.std.proofs.lemmas.List.Folds.{list_all_at}
use Rattle.std.specs.List.{list_all}
use Rattle.terrain.specs.Samples.{is_solid}
use Rattle.terrain.specs.declared.brush.TheConstants.{MAX_SAMPLE}
use Rattle.field_pages.specs.Signs.{one_sign, sample_signs}
use Rattle.field_pages.specs.declared.page.TheConstants.{COUNT}
use Rattle.field_pages.specs.declared.signs.Signs.TheVariants.{Empty, Solid, Mixed}

-- ---- tests of all samples

-- what a test that isn't passed would have to be
not-false : (b : Bool) → (b ≡ false → ⊥) → b ≡ true
not-false true off = refl
not-false false off = absurd (off refl)

-- a test of a list is passed where it is at each place
all-from : (test : ℤ → Bool) (xs : List ℤ) (d : ℤ)
    → ((k : ℕ) → k < length xs → test (get_or xs k d) ≡ true) → list_all test xs ≡ true
all-from test [] d each = refl
all-from test (x ∷ xs) d each =
    let first : test x ≡ true = each 0 (omega arith) in
    let rest : list_all test xs ≡ true =
    all-from test xs d (λ k k_in. each (suc k) (omega (arith, k_in))) in
    cc

-- and the other way round
all-at : (test : ℤ → Bool) (xs : List ℤ) (d : ℤ) (k : ℕ) → list_all test xs ≡ true
    → k < length xs → test (get_or xs k d) ≡ true
all-at test xs d k all k_in =
    not-false (test (get_or xs k d)) (λ off.
    let none : list_all test xs ≡ false = list_all_at test xs k d k_in off in cc)

-- what isn't not so is so
not-not : (b : Bool) → not b ≡ true → b ≡ false
not-not true is = sym is
not-not false is = refl

-- ---- the signs

-- no sample is solid where the two tests, in their order, tell so
told-empty : (none all : Bool) → cond none Empty (cond all Solid Mixed) ≡ Empty → none ≡ true
told-empty true all is = refl
told-empty false true is = cc
told-empty false false is = cc

-- and all are where they tell that
told-solid : (none all : Bool) → cond none Empty (cond all Solid Mixed) ≡ Solid → all ≡ true
told-solid true all is = cc
told-solid false true is = refl
told-solid false false is = cc

-- a page's signs are those of samples that are all solid, or all not, exactly where each sample is so
pub signs-each : (xs : List ℤ) (solid : Bool) → length xs ≡ COUNT
    → (sample_signs xs ≡ one_sign solid)
    ↔ ((k : ℕ) → k < COUNT → is_solid (get_or xs k MAX_SAMPLE) ≡ solid)
unfolding sample_signs
signs-each xs false long =
    let empty : ℤ → Bool = λ s. not (is_solid s) in (
      (λ told k k_in. not-not (is_solid (get_or xs k MAX_SAMPLE))
          (all-at empty xs MAX_SAMPLE k (told-empty (list_all empty xs) (list_all is_solid xs) told)
          (omega (arith, long, k_in)))),
      (λ each.
          ap (λ b. cond b Empty (cond (list_all is_solid xs) Solid Mixed))
          (all-from empty xs MAX_SAMPLE (λ k k_in. ap not (each k (omega (arith, long, k_in)))))),
    )
signs-each xs true long =
    let empty : ℤ → Bool = λ s. not (is_solid s) in (
      (λ told k k_in. all-at is_solid xs MAX_SAMPLE k
          (told-solid (list_all empty xs) (list_all is_solid xs) told) (omega (arith, long, k_in))),
      (λ each.
          ap (λ b. cond b Empty (cond (list_all is_solid xs) Solid Mixed))
          (list_all_at empty xs 0 MAX_SAMPLE (omega (arith, long))
          (ap not (each 0 (omega arith))))
          ∙ ap (λ b. cond b Solid Mixed)
          (all-from is_solid xs MAX_SAMPLE (λ k k_in. each k (omega (arith, long, k_in))))),
    )

-- the signs are these by the two tests
pub signs-by : (xs : List ℤ) (none all : Bool)
    → none ≡ list_all (λ s. not (is_solid s)) xs → all ≡ list_all is_solid xs
    → cond none Empty (cond all Solid Mixed) ≡ sample_signs xs
unfolding sample_signs
signs-by xs none all none_is all_is = λ i. cond (none_is i) Empty (cond (all_is i) Solid Mixed)
