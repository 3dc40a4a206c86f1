-- What the arguments behind the program's name ask for. This project's rule.
use Rattle.std.specs.Prelude.{◌≡◌, ◌≤◌, ℕ, List, [], ◌∷◌, map, codes, String, string_bytes, ⊤}
use Rattle.std.specs.Borrow.{Bor}
use Rattle.drills.specs.Drill.{IsDrillDepth}
use Rattle.drills.specs.declared.drill.TheConstants.{MAX_EDITS}
use Rattle.arguments.specs.Drill.{IsDrill}
use Rattle.arguments.specs.Editing.{IsEditing, IsLawfulEditing}
use Rattle.arguments.specs.Options.{IsAllowed, IsRun}
use Rattle.arguments.specs.declared.request.Request.{Request}
use Rattle.arguments.specs.declared.request.Request.TheVariants.{Drill, Edit, Help, Mirror, Run, Version, Wire}

-- the bytes of each argument
abbrev pub texts : List (Bor (List ℕ)) → List (List ℕ)
texts arguments = map (λ argument. argument.now) arguments

-- the bytes of each argument that is owned
abbrev pub texts_of_strings : {Z : Type 0} → List (String Z) → List (List ℕ)
texts_of_strings arguments = map string_bytes arguments

-- the arguments are this one alone
abbrev pub IsOnly : List ℕ → List (List ℕ) → Type 0
IsOnly argument arguments = arguments ≡ argument ∷ []

-- the arguments ask for this
abbrev pub AskFor : List (List ℕ) → Request → Type 0
AskFor arguments Help = IsOnly (codes "--help") arguments
AskFor arguments Version = IsOnly (codes "--version") arguments
AskFor arguments (Run options) = IsRun arguments options
AskFor arguments (Drill drill) = IsDrill arguments drill
AskFor arguments (Edit editing) = IsEditing arguments editing
AskFor arguments Wire = IsOnly (codes "wire") arguments
AskFor arguments Mirror = IsOnly (codes "mirror") arguments

-- the options and the numbers of what is asked for are in their ranges
abbrev pub IsLawfulRequest : Request → Type 0
IsLawfulRequest Help = ⊤
IsLawfulRequest Version = ⊤
IsLawfulRequest (Run options) = IsAllowed options
IsLawfulRequest (Drill drill) = (drill.edits ≤ MAX_EDITS) × IsDrillDepth drill.depth
IsLawfulRequest (Edit editing) = IsLawfulEditing editing
IsLawfulRequest Wire = ⊤
IsLawfulRequest Mirror = ⊤

-- what is asked for is carried out by a run, and no text of the program's own
abbrev pub IsTask : Request → Type 0
IsTask Help = ⊥
IsTask Version = ⊥
IsTask (Run options) = ⊤
IsTask (Drill drill) = ⊤
IsTask (Edit editing) = ⊤
IsTask Wire = ⊤
IsTask Mirror = ⊤

-- the arguments ask for nothing that a run carries out
abbrev pub AskForNoTask : List (List ℕ) → Type 0
AskForNoTask arguments = (request : Request) → IsTask request → AskFor arguments request → ⊥
