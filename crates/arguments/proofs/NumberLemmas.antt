-- Numbers and their decimals, and the arguments of a drill.
use Rattle.std.proofs.Common.{◌≡◌, ℕ, ◌<◌, ◌≤◌, ◌^◌, ◌↔◌, Bool, true, false, not, List, [], ◌∷◌, length, get_or, map, Option, None, Some, IfSome, Result, refl, sym, ap, arith}
use Rattle.std.specs.Borrow.{Bor}
use Rattle.std.specs.Fmt.{decimal}
use Rattle.std.specs.Result.{result_ok}
use Rattle.std.specs.Str.Parse.{ParsesUnsigned}
use Rattle.std.proofs.lemmas.Fmt.{parse-decimal}

-- an argument that is a number's decimal is read as the number
pub read : {E : Type 0} (argument : List ℕ) (most : ℕ) (result : Result ℕ E) (n : ℕ)
    → most < 2 ^ 32 → ParsesUnsigned 32 10 argument result → (argument ≡ decimal n) × (n ≤ most)
    → result_ok result ≡ Some n
read argument most result n few parses is =
    ap result_ok
    (parse-decimal 32 n argument result (omega (arith, is.1)) (omega (arith, is.1)) is.0 parses)

-- the four arguments that a list of four has
pub four : (arguments : List (Bor (List ℕ))) (d : Bor (List ℕ)) → 4 ≤ length arguments
    → length arguments < 5
    → map {A = Bor (List ℕ)} {B = List ℕ} (λ argument. argument.now) arguments
    ≡ (get_or arguments 0 d).now ∷ (get_or arguments 1 d).now ∷ (get_or arguments 2 d).now
    ∷ (get_or arguments 3 d).now ∷ []
four (a ∷ b ∷ c ∷ e ∷ []) d least most = refl
four [] d least most = absurd (omega arith)
four (a ∷ []) d least most = absurd (omega arith)
four (a ∷ b ∷ []) d least most = absurd (omega arith)
four (a ∷ b ∷ c ∷ []) d least most = absurd (omega arith)
four (a ∷ b ∷ c ∷ e ∷ f ∷ rest) d least most = absurd (omega arith)

-- the five arguments that a list of five has
pub five : (arguments : List (Bor (List ℕ))) (d : Bor (List ℕ)) → 5 ≤ length arguments
    → length arguments < 6
    → map {A = Bor (List ℕ)} {B = List ℕ} (λ argument. argument.now) arguments
    ≡ (get_or arguments 0 d).now ∷ (get_or arguments 1 d).now ∷ (get_or arguments 2 d).now
    ∷ (get_or arguments 3 d).now ∷ (get_or arguments 4 d).now ∷ []
five (a ∷ b ∷ c ∷ e ∷ f ∷ []) d least most = refl
five [] d least most = absurd (omega arith)
five (a ∷ []) d least most = absurd (omega arith)
five (a ∷ b ∷ []) d least most = absurd (omega arith)
five (a ∷ b ∷ c ∷ []) d least most = absurd (omega arith)
five (a ∷ b ∷ c ∷ e ∷ []) d least most = absurd (omega arith)
five (a ∷ b ∷ c ∷ e ∷ f ∷ g ∷ rest) d least most = absurd (omega arith)

-- a number that is there is within what every number there is
pub within : (P : ℕ → Type 0) (most : ℕ) (o : Option ℕ)
    → ((n : ℕ) → (P n × (n ≤ most)) ↔ (o ≡ Some n)) → IfSome o (λ n. n ≤ most)
within P most None each = _
within P most (Some n) each = ((each n).1 refl).1

-- what isn't different is the same
pub same_from : (b : Bool) → not b ≡ false → b ≡ true
same_from true differ = refl
same_from false differ = sym differ
