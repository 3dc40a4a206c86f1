-- The lesser of two samples is solid where one of them is, and the greater where both are.
use Rattle.std.proofs.Common.{◌≡◌, Bool, true, false, cond, not, ◌&&◌, ℤ, pos, negsuc, get_or, ap, refl, sym, ◌∙◌, arith, rules, SFits, int_lt, w8, to_z}
use Rattle.std.proofs.lemmas.Int.{ints, to_z-of_z}
use Rattle.std.proofs.lemmas.List.{take_all}
use Rattle.std.proofs.lemmas.List.Folds.{list_all_more}
use Rattle.std.specs.Int.{int_max, int_min}
use Rattle.std.specs.List.{list_all}
use Rattle.terrain.specs.Samples.{is_solid}
use Rattle.field_pages.proofs.signs.none_and_all_are_solid.Goals as goal
use lib.Signed.{le_z, lt_z}

-- what is so of both of two numbers is so of the one that is chosen
chosen : (P : ℤ → Type 0) (is_first : Bool) (a b : ℤ) → P a → P b → P (cond is_first a b)
chosen P true a b first second = first
chosen P false a b first second = second

-- the lesser of two samples isn't solid where neither is
lesser : (a b : ℤ) → not (is_solid (int_min a b)) ≡ (not (is_solid a) && not (is_solid b))
lesser (pos a) (pos b) =
    chosen (λ v. not (is_solid v) ≡ true) (int_lt (pos b) (pos a)) (pos b) (pos a) refl refl
lesser (pos a) (negsuc b) = refl
lesser (negsuc a) (pos b) = refl
lesser (negsuc a) (negsuc b) =
    chosen (λ v. not (is_solid v) ≡ false) (int_lt (negsuc b) (negsuc a)) (negsuc b) (negsuc a)
    refl refl

-- the greater is solid where both are
greater : (a b : ℤ) → is_solid (int_max a b) ≡ (is_solid a && is_solid b)
greater (pos a) (pos b) =
    chosen (λ v. is_solid v ≡ false) (int_lt (pos b) (pos a)) (pos a) (pos b) refl refl
greater (pos a) (negsuc b) = refl
greater (negsuc a) (pos b) = refl
greater (negsuc a) (negsuc b) =
    chosen (λ v. is_solid v ≡ true) (int_lt (negsuc b) (negsuc a)) (negsuc a) (negsuc b) refl refl

-- a sample isn't solid where it is 0 or more
not_solid : (a : ℤ) → le_z (pos 0) a ≡ not (is_solid a)
not_solid (pos n) = grind (arith, ints)
not_solid (negsuc n) = refl

-- it is where it is less
solid : (a : ℤ) → lt_z a (pos 0) ≡ is_solid a
solid (pos n) = grind (arith, ints)
solid (negsuc n) = refl

pub loop-sample-preserved : goal.loop-sample-preserved
loop-sample-preserved c =
    let samples = c.args.samples.now in
    let k = c.loop-sample.sample-index in
    let s : ℤ = get_or samples k (pos 0) in
    let low = to_z w8 c.loop-sample.low-bits in
    let high = to_z w8 c.loop-sample.high-bits in
    let fits : SFits w8 s = search rules in
    let low_fits : SFits w8 c.min-low.result = search rules in
    let high_fits : SFits w8 c.max-high.result = search rules in
    record {
      none = ap (λ v. not (is_solid v)) (to_z-of_z w8 c.min-low.result low_fits
          ∙ c.min-low.ensures.value ∙ ap (int_min low) (to_z-of_z w8 s fits))
          ∙ lesser low s ∙ (λ i. c.loop-sample.invariant.none i && not (is_solid s))
          ∙ sym (list_all_more (λ v. not (is_solid v)) samples k (pos 0) c.loop-sample-test.true);
      all = ap is_solid (to_z-of_z w8 c.max-high.result high_fits
          ∙ c.max-high.ensures.value ∙ ap (int_max high) (to_z-of_z w8 s fits))
          ∙ greater high s ∙ (λ i. c.loop-sample.invariant.all i && is_solid s)
          ∙ sym (list_all_more is_solid samples k (pos 0) c.loop-sample-test.true);
    }

pub returns-clause-none : goal.returns-clause-none
returns-clause-none c =
    not_solid (to_z w8 c.loop-sample.low-bits) ∙ c.loop-sample.invariant.none
    ∙ ap (list_all (λ v. not (is_solid v)))
    (take_all c.loop-sample.sample-index c.args.samples.now c.loop-sample-test.false)

pub returns-clause-all : goal.returns-clause-all
returns-clause-all c =
    solid (to_z w8 c.loop-sample.high-bits) ∙ c.loop-sample.invariant.all
    ∙ ap (list_all is_solid)
    (take_all c.loop-sample.sample-index c.args.samples.now c.loop-sample-test.false)
