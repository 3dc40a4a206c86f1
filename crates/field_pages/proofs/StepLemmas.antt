-- The rows of a page that are lent by steps.
--
-- A row's samples lie side by side, from the row's beginning on (stepped-row). Where each row begins at its own place,
-- they are the page's own samples (stepped-own); where all begin at the first one, they are those of an even page whose
-- rows are equal (stepped-even).
use Rattle.std.proofs.Common.{◌≡◌, ℕ, ◌+◌, ◌*◌, ◌-◌, ◌/◌, ◌%◌, ◌<◌, ◌≤◌, List, ℤ, length, get_or, sym, ap, ◌∙◌, arith}
use Rattle.std.proofs.Math.Nat.{mul-le-mul_left}
use Rattle.std.proofs.lemmas.List.FromFn.{fill_by_all, get_or-map-range_with_len, length-map-range_with_len}
use Rattle.terrain.specs.declared.brush.TheConstants.{MAX_SAMPLE}
use Rattle.field_pages.specs.declared.even.EvenPage.{EvenPage}
use Rattle.field_pages.specs.declared.page.TheConstants.{COUNT, SIDE}
use Rattle.field_pages.specs.Even.{IsExtent, even_at, even_list}
use Rattle.field_pages.specs.Lent.{IsRowStep, stepped, stepped_at}
use Rattle.field_pages.proofs.EvenLemmas.{even_from}

-- there are as many as a page has
pub length-stepped : (samples : List ℤ) (step : ℕ) → length (stepped samples step) ≡ COUNT
unfolding stepped
length-stepped samples step = length-map-range_with_len (stepped_at samples step) 0 COUNT

-- each is this one
pub get_or-stepped : (samples : List ℤ) (step k : ℕ) (d : ℤ) → k < COUNT
    → get_or (stepped samples step) k d ≡ stepped_at samples step k
unfolding stepped
get_or-stepped samples step k d k_in =
    get_or-map-range_with_len (stepped_at samples step) 0 COUNT k k d k_in (omega arith)

-- the samples of a row lie side by side
pub stepped-row : (samples : List ℤ) (step start t : ℕ) → start % SIDE ≡ 0 → start < COUNT
    → t < SIDE
    → get_or (stepped samples step) (start + t) MAX_SAMPLE
    ≡ get_or samples (step * start + t) MAX_SAMPLE
stepped-row samples step start t begins within t_in =
    let row : SIDE * ((start + t) / SIDE) ≡ start = omega (arith, begins, t_in) in
    let place : (start + t) % SIDE ≡ t = omega (arith, begins, t_in) in
    get_or-stepped samples step (start + t) MAX_SAMPLE (omega (arith, begins, within, t_in))
    ∙ (λ i. get_or samples (step * row i + place i) MAX_SAMPLE)

-- a row ends before the samples do
pub row-fits : (samples : List ℤ) (step start : ℕ) → IsRowStep samples step → start % SIDE ≡ 0
    → start < COUNT → step * start + SIDE ≤ length samples
row-fits samples step start steps begins within =
    let last : start ≤ COUNT - SIDE = omega (arith, begins, within) in
    omega (arith, steps.room, mul-le-mul_left step last)

-- the page's own samples
pub stepped-own : (samples : List ℤ) → length samples ≡ COUNT → stepped samples 1 ≡ samples
unfolding stepped
stepped-own samples long =
    sym (fill_by_all (stepped_at samples 1) samples COUNT MAX_SAMPLE long (λ k k_in.
    let here : k ≡ 1 * (SIDE * (k / SIDE)) + k % SIDE = omega arith in
    ap (λ n. get_or samples n MAX_SAMPLE) here))

-- those of an even page whose rows are equal
pub stepped-even : (page : EvenPage) (row : List ℤ)
    → ((k : ℕ) → k < COUNT
    → even_at page.extent page.sample k ≡ even_at page.extent page.sample (k % SIDE))
    → ((t : ℕ) → t < SIDE → get_or row t MAX_SAMPLE ≡ even_at page.extent page.sample t)
    → stepped row 0 ≡ even_list page
stepped-even page row equal is =
    even_from page (stepped row 0) (length-stepped row 0) (λ k k_in.
    let here : 0 * (SIDE * (k / SIDE)) + k % SIDE ≡ k % SIDE = omega arith in
    get_or-stepped row 0 k MAX_SAMPLE k_in
    ∙ ap (λ n. get_or row n MAX_SAMPLE) here
    ∙ is (k % SIDE) (omega arith)
    ∙ sym (equal k k_in))

-- a page of which all points are in the world
pub whole-extent : IsExtent (record { z = SIDE; y = SIDE; x = SIDE })
whole-extent = record {
  z = omega arith;
  z_few = omega arith;
  y = omega arith;
  y_few = omega arith;
  x = omega arith;
  x_few = omega arith;
}

-- where each row begins at the first place, it is the first one
pub stepped-none : (samples : List ℤ) (k : ℕ) → k < COUNT
    → get_or (stepped samples 0) k MAX_SAMPLE ≡ get_or (stepped samples 0) (k % SIDE) MAX_SAMPLE
stepped-none samples k k_in =
    let here : 0 * (SIDE * (k / SIDE)) + k % SIDE
    ≡ 0 * (SIDE * (k % SIDE / SIDE)) + k % SIDE % SIDE = omega arith in
    get_or-stepped samples 0 k MAX_SAMPLE k_in
    ∙ ap (λ n. get_or samples n MAX_SAMPLE) here
    ∙ sym (get_or-stepped samples 0 (k % SIDE) MAX_SAMPLE (omega (arith, k_in)))
