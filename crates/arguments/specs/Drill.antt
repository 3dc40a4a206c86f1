-- The arguments that ask for a drill. This project's rule.
use Rattle.std.specs.Prelude.{◌≡◌, ◌<◌, ◌≤◌, ◌^◌, ℕ, List, [], ◌∷◌, Option, Some, codes, decimal}
use Rattle.drills.specs.Drill.{IsDrillDepth}
use Rattle.drills.specs.declared.drill.TheConstants.{MAX_EDITS}
use Rattle.arguments.specs.declared.drill.Drill.{Drill}

-- the arguments are `drill` and its three numbers, as plain decimals in their ranges
pub record IsDrill (arguments : List (List ℕ)) (drill : Drill) : Type 0 where
  pub form : arguments ≡ codes "drill" ∷ decimal drill.seed ∷ decimal drill.edits
      ∷ decimal drill.depth ∷ []
  pub seed : drill.seed < 2 ^ 32
  pub edits : drill.edits ≤ MAX_EDITS
  pub depth : IsDrillDepth drill.depth

-- these numbers are those of a drill
pub record AreDrillArguments (seed edits depth : Option ℕ) (drill : Drill) : Type 0 where
  pub seed_is : seed ≡ Some drill.seed
  pub edits_is : edits ≡ Some drill.edits
  pub depth_is : depth ≡ Some drill.depth
