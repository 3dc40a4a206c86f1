-- The arguments that ask for several editors. This project's rule.
use Rattle.std.specs.Prelude.{◌≡◌, ◌<◌, ◌≤◌, ◌^◌, ℕ, List, [], ◌∷◌, Option, Some, codes, decimal}
use Rattle.drills.specs.Drill.{IsDrillDepth}
use Rattle.arguments.specs.declared.editing.Editing.{Editing}
use Rattle.arguments.specs.declared.editing.TheConstants.{MAX_EDITORS, MAX_EDITS_EACH}

-- the numbers are in their ranges
pub record IsLawfulEditing (editing : Editing) : Type 0 where
  pub first : editing.first < 2 ^ 32
  pub some_editors : 0 < editing.editors
  pub few_editors : editing.editors ≤ MAX_EDITORS
  pub edits : editing.edits ≤ MAX_EDITS_EACH
  pub depth : IsDrillDepth editing.depth

-- the arguments are `edit` and its four numbers, as plain decimals in their ranges
pub record IsEditing (arguments : List (List ℕ)) (editing : Editing) : Type 0 where
  pub form : arguments ≡ codes "edit" ∷ decimal editing.first ∷ decimal editing.editors
      ∷ decimal editing.edits ∷ decimal editing.depth ∷ []
  pub lawful : IsLawfulEditing editing

-- these numbers are those of some editors
pub record AreEditingArguments (first editors edits depth : Option ℕ) (editing : Editing)
    : Type 0 where
  pub first_is : first ≡ Some editing.first
  pub editors_is : editors ≡ Some editing.editors
  pub edits_is : edits ≡ Some editing.edits
  pub depth_is : depth ≡ Some editing.depth
