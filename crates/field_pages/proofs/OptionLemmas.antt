-- What an option is in the place of a default.
use Rattle.std.proofs.Common.{◌≡◌, Option, Some, None, unwrap_or, refl}

-- an option with no value gives the default
pub unwrap_or-none : {A : Type 0} (o : Option A) (d : A) → ((x : A) → o ≡ Some x → ⊥)
    → unwrap_or o d ≡ d
unwrap_or-none (Some x) d none = absurd (none x refl)
unwrap_or-none None d none = refl
