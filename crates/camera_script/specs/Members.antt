-- The names of an object's members. This project's rule.
use Rattle.std.specs.Prelude.{ℕ, Bool, ◌||◌, List, [], ◌∷◌, if◌then◌else◌, is_some, bytes_eq, Result, Ok, Err}
use Rattle.std.specs.List.{list_all, list_any}
use Rattle.serde_json.specs.Data.{Members, no_members, member}
use Rattle.serde_json.specs.Find.{get_member}
use Rattle.camera_script.specs.declared.fault.LineFault.{LineFault}
use Rattle.camera_script.specs.declared.fault.LineFault.TheVariants.{MissingMember, UnknownMember}

-- the names of the members
abbrev pub names_of : Members → List (List ℕ)
names_of no_members = []
names_of (member name value rest) = name ∷ names_of rest

-- whether there is a member of each of these names
abbrev pub has_each : List (List ℕ) → Members → Bool
has_each names members = list_all (λ name. is_some (get_member name members)) names

-- whether a name is a required or an optional one
abbrev pub is_known : List (List ℕ) → List (List ℕ) → List ℕ → Bool
is_known required optional name =
    list_any (λ one. bytes_eq name one) required || list_any (λ one. bytes_eq name one) optional

-- whether each member has such a name
abbrev pub has_only : List (List ℕ) → List (List ℕ) → Members → Bool
has_only required optional members = list_all (is_known required optional) (names_of members)

-- the members, where each required name is there, and no other but optional ones; a missing one comes before one that
-- isn't known
abbrev pub exactly_named : List (List ℕ) → List (List ℕ) → Members → Result Members LineFault
exactly_named required optional members =
    if has_each required members
    then (if has_only required optional members then Ok members else Err UnknownMember)
    else Err MissingMember
