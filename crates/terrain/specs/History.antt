-- Histories: the edits in force after the events of a world, and the field that they make.
-- Source: this project's rule.
use Rattle.std.specs.Prelude.{ℕ, ◌<◌, Bool, true, false, IsTrue, List, [], ◌∷◌, drop, length}
use Rattle.lattice.specs.declared.settings.Settings.{Settings}
use Rattle.lattice.specs.Point.{IsInWorld}
use Rattle.terrain.specs.declared.brush.Brush.{Brush}
use Rattle.terrain.specs.declared.event.Event.{Event}
use Rattle.terrain.specs.declared.event.Event.TheVariants.{Edit, Camera, Away, Undo}
use Rattle.terrain.specs.declared.event.TheConstants.{MAX_EVENTS, MAX_VIEWS}
use Rattle.terrain.specs.Brushes.{IsLawful, after_brush}
use Rattle.terrain.specs.Samples.{Field, opening}

-- an event's brush is lawful, or its viewpoint is one that a world may have and its camera in the world; an undo always
-- is lawful
abbrev pub IsLawfulEvent : ℕ → Event → Type 0
IsLawfulEvent depth (Edit brush) = IsLawful depth brush
IsLawfulEvent depth (Camera view at) = (view < MAX_VIEWS) × IsInWorld depth at
IsLawfulEvent depth (Away view) = view < MAX_VIEWS
IsLawfulEvent depth Undo = Unit {0}

-- ---- the edits in force

-- the edits in force after an event, the newest of them first: an edit is one more, an undo takes the newest away if
-- there is one, a viewpoint changes none
abbrev pub in_force_by : Event → List Brush → List Brush
in_force_by (Edit brush) brushes = brush ∷ brushes
in_force_by (Camera view at) brushes = brushes
in_force_by (Away view) brushes = brushes
in_force_by Undo brushes = drop 1 brushes

-- the same after more events, the first of them first
abbrev pub in_force_after : List Event → List Brush → List Brush
in_force_after [] brushes = brushes
in_force_after (e ∷ es) brushes = in_force_after es (in_force_by e brushes)

-- the edits in force after a history, which is its events in order
abbrev pub in_force : List Event → List Brush
in_force events = in_force_after events []

-- whether an event is an undo with no edit in force before it
abbrev pub undoes_nothing : Event → List Brush → Bool
undoes_nothing (Edit brush) brushes = false
undoes_nothing (Camera view at) brushes = false
undoes_nothing (Away view) brushes = false
undoes_nothing Undo [] = true
undoes_nothing Undo (brush ∷ before) = false

-- an event is such an undo, and the journal before it isn't full
abbrev pub HasNothingToUndo : List Event → Event → Type 0
HasNothingToUndo events event =
    (length events < MAX_EVENTS) × IsTrue (undoes_nothing event (in_force events))

-- ---- the field

-- the field that edits make, the newest of them first: each works on the field of those before it
abbrev pub field_of : ℕ → List Brush → Field
field_of depth [] = opening
field_of depth (brush ∷ before) = after_brush depth brush (field_of depth before)

-- the sample after a history: the edits in force make it, and no other event counts
abbrev pub sample : Settings → List Event → Field
sample settings events = field_of settings.depth (in_force events)
