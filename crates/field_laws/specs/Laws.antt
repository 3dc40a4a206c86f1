-- The laws of brushes and histories as statements with names, for the law's own clause and for the proofs that rest on
-- it.
-- Source: this project's rule.
use Rattle.std.specs.Prelude.{◌≡◌, ℕ, false, List, [], ◌∷◌, ◌++◌, All}
use Rattle.lattice.specs.declared.point.Point.{Point}
use Rattle.lattice.specs.declared.settings.Settings.{Settings}
use Rattle.lattice.specs.Point.{IsInWorld}
use Rattle.lattice.specs.Region.{is_within}
use Rattle.terrain.specs.declared.brush.Brush.{Brush}
use Rattle.terrain.specs.declared.event.Event.{Event}
use Rattle.terrain.specs.Brushes.{IsLawful, after_brush, region}
use Rattle.terrain.specs.History.{IsLawfulEvent, field_of, in_force, in_force_by, sample}
use Rattle.terrain.specs.Samples.{Field, IsSample}

-- what a brush makes of a point of the world depends on samples at points of the world alone
abbrev pub BrushesReadTheWorld : Type 0
BrushesReadTheWorld = (depth : ℕ) (brush : Brush) (s t : Field)
    → ((q : Point) → IsInWorld depth q → s q ≡ t q)
    → (p : Point) → IsInWorld depth p → after_brush depth brush s p ≡ after_brush depth brush t p

-- a lawful brush changes no sample off its region
abbrev pub BrushesKeepSamples : Type 0
BrushesKeepSamples = (depth : ℕ) (brush : Brush) (s : Field) (p : Point) → IsLawful depth brush
    → IsInWorld depth p → IsSample (s p) → is_within (region depth brush) p ≡ false
    → after_brush depth brush s p ≡ s p

-- one more event acts on the edits in force after those before it
abbrev pub HistoriesGrow : Type 0
HistoriesGrow = (settings : Settings) (events : List Event) (event : Event) (p : Point)
    → sample settings (events ++ event ∷ []) p
    ≡ field_of settings.depth (in_force_by event (in_force events)) p

-- they are the edits in force after it
abbrev pub EditsInForceGrow : Type 0
EditsInForceGrow = (events : List Event) (event : Event)
    → in_force (events ++ event ∷ []) ≡ in_force_by event (in_force events)

-- the field after a history depends on its edits in force alone
abbrev pub FieldsFollowEdits : Type 0
FieldsFollowEdits = (settings : Settings) (events others : List Event)
    → in_force events ≡ in_force others
    → (p : Point) → sample settings events p ≡ sample settings others p

-- the edits in force after lawful events are lawful
abbrev pub EditsInForceAreLawful : Type 0
EditsInForceAreLawful = (depth : ℕ) (events : List Event) → All (IsLawfulEvent depth) events
    → All (IsLawful depth) (in_force events)
