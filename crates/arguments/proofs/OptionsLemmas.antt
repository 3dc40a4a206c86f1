-- What arguments give, one option after another. A name is that of one option alone: any two names differ in a byte.
-- Behind a name and its value the arguments go on, if these are an option (gives-behind), and where they aren't one
-- the arguments give nothing (gives-no_option).
use Rattle.std.proofs.Common.{◌≡◌, ℕ, ◌-◌, ◌≤◌, ◌↔◌, List, [], ◌∷◌, length, get_or, take, drop, Option, None, Some, codes, nat_eq, refl, sym, ap, ◌∙◌, subst, arith}
use Rattle.std.specs.Borrow.{Bor}
use Rattle.std.proofs.lemmas.Bool.{false≢true}
use Rattle.std.proofs.lemmas.Option.{none-some, same_Some}
use Rattle.arguments.specs.declared.options.Given.{Given}
use Rattle.arguments.specs.Options.{Gives, IsNextOption}
use Rattle.arguments.specs.Request.{texts}

-- no argument is the name of both of two options: they differ in a byte
pub workers-no_watch : (name : List ℕ) → name ≡ codes "--workers" → name ≡ codes "--watch" → ⊥
workers-no_watch name workers watch =
    false≢true (ap (λ l. nat_eq (get_or l 3 0) 111) (sym watch ∙ workers))

-- the same of two others
pub workers-no_looks : (name : List ℕ) → name ≡ codes "--workers" → name ≡ codes "--looks" → ⊥
workers-no_looks name workers looks =
    false≢true (ap (λ l. nat_eq (get_or l 2 0) 119) (sym looks ∙ workers))

-- and of the last two
pub watch-no_looks : (name : List ℕ) → name ≡ codes "--watch" → name ≡ codes "--looks" → ⊥
watch-no_looks name watch looks =
    false≢true (ap (λ l. nat_eq (get_or l 2 0) 119) (sym looks ∙ watch))

-- what a list of arguments is read as past its end
abbrev pub no_argument : Bor (List ℕ)
no_argument = record { ref_ptr = (0, 0); now = [] }

-- the first two arguments, as a name and a value, give just what an option has, if there is one
abbrev pub Takes : Given → List (Bor (List ℕ)) → Option Given → Type 0
Takes before arguments next =
    (given : Given) → IsNextOption before (get_or arguments 0 no_argument).now
    (get_or arguments 1 no_argument).now given ↔ (next ≡ Some given)

-- all items of a list, as many as there are
take_all : {A : Type 0} (xs : List A) → take (length xs) xs ≡ xs
take_all [] = refl
take_all (x ∷ xs) = ap (λ ys. x ∷ ys) (take_all xs)

-- the arguments go on behind a name and its value
pub gives-behind : (before next : Given) (arguments : List (Bor (List ℕ))) (given : Given)
    → 2 ≤ length arguments → Takes before arguments (Some next)
    → Gives before (texts arguments) given
    ↔ Gives next (texts (take (length arguments - 2) (drop 2 arguments))) given
gives-behind before next [] given two each = absurd (omega arith)
gives-behind before next (name ∷ []) given two each = absurd (omega arith)
gives-behind before next (name ∷ value ∷ behind) given two each =
    let count : length (name ∷ value ∷ behind) - 2 ≡ length behind = omega arith in
    subst (λ rest. Gives before (texts (name ∷ value ∷ behind)) given
    ↔ Gives next (texts rest) given)
    (sym (ap (λ n. take n behind) count ∙ take_all behind)) (
      λ gives.
          subst (λ g. Gives g (texts behind) given)
          (sym (same_Some next gives.0 ((each gives.0).0 gives.1))) gives.2,
      λ gives. (next, (each next).1 refl, gives),
    )

-- arguments that don't begin with an option give nothing
pub gives-no_option : (before : Given) (arguments : List (Bor (List ℕ))) (given : Given)
    → 2 ≤ length arguments → Takes before arguments None
    → Gives before (texts arguments) given → ⊥
gives-no_option before [] given two each gives = omega arith
gives-no_option before (name ∷ []) given two each gives = omega arith
gives-no_option before (name ∷ value ∷ behind) given two each gives =
    none-some gives.0 ((each gives.0).0 gives.1)
