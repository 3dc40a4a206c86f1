-- The edits in force, the field that they make, and what is kept of the newest of them, by which they are undone.
-- Source: this project's rule.
use Rattle.std.specs.Prelude.{◌≡◌, ℕ, ◌+◌, List, [], ◌∷◌, ◌++◌, All, drop}
use Rattle.field_pages.specs.Kept.{OldPages, page_count, restored}
use Rattle.field_pages.specs.Pages.{HoldsField, Pages}
use Rattle.lattice.specs.Settings.{IsDepth}
use Rattle.terrain.specs.declared.brush.Brush.{Brush}
use Rattle.terrain.specs.Brushes.{IsLawful}
use Rattle.terrain.specs.History.{field_of}

-- a field, and the edits that make it, the newest of them first
pub record EditedState : Type 0 where
  pub version : Pages
  pub edits : List Brush

-- the field is the one that the edits make, each of which is lawful
pub record HoldsEdits (edited : EditedState) : Type 0 where
  pub depth : IsDepth edited.version.depth
  pub lawful : All (IsLawful edited.version.depth) edited.edits
  pub field : HoldsField edited.version (field_of edited.version.depth edited.edits)

-- how many pages some edits have kept
abbrev pub all_pages : List OldPages → ℕ
all_pages [] = 0
all_pages (kept ∷ older) = page_count kept.layers + all_pages older

-- a list begins with another one
pub record IsFront {A : Type 0} (front whole : List A) : Type 0 where
  pub rest : List A
  pub is : whole ≡ front ++ rest

-- old pages of some edits, the newest of them first, give back the fields before these edits, which come newest first
-- too: those of the newest, put back into a version, make one that holds the field of the edits before it, and those of
-- the edits before it do the same with that one
abbrev pub GiveBack : ℕ → List OldPages → Pages → List Brush → Type 0
GiveBack depth [] pages edits = Unit {0}
GiveBack depth (kept ∷ older) pages edits =
    (kept.depth ≡ depth) × HoldsField (restored kept pages) (field_of depth (drop 1 edits))
    × GiveBack depth older (restored kept pages) (drop 1 edits)

-- a field is the one that edits make, and what is kept gives back the fields before the newest of them
pub record IsEdited (kept : List OldPages) (edited : EditedState) : Type 0 where
  pub holds : HoldsEdits edited
  pub back : GiveBack edited.version.depth kept edited.version edited.edits
