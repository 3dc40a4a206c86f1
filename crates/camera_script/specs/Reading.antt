-- What the lines of a script say: the head its settings, every later line a command. A line that
-- says neither has a first fault, in this order: it is too long; it isn't JSON; it isn't an object;
-- its command isn't known; a member is missing; a member isn't known; a value isn't of its kind or
-- out of its range. This project's rule.
use Rattle.std.specs.Prelude.{ℕ, false, List, [], ◌∷◌, codes, bytes_eq, if◌then◌else◌, Option, Some, None, ok_or, option_map, option_and_then, Result}
use Rattle.serde_json.specs.Data.{Members}
use Rattle.serde_json.specs.Find.{get_member, as_str}
use Rattle.lattice.specs.declared.settings.Settings.{Settings}
use Rattle.lattice.specs.declared.settings.TheConstants.{MAX_DEPTH, MAX_REACH}
use Rattle.terrain.specs.declared.brush.Brush.TheVariants.{Cuboid, Ball, Ground, Smooth}
use Rattle.terrain.specs.declared.event.Event.TheVariants as event
use Rattle.camera_script.specs.declared.commands.Command.{Command}
use Rattle.camera_script.specs.declared.commands.Command.TheVariants as command
use Rattle.lattice.specs.Settings.{world_side}
use Rattle.camera_script.specs.declared.fault.LineFault.{LineFault}
use Rattle.camera_script.specs.declared.fault.LineFault.TheVariants.{MissingMember, BadValue, UnknownCommand}
use Rattle.camera_script.specs.declared.reading.TheConstants.{FORMAT}
use Rattle.camera_script.specs.declared.form.Form.{Form}
use Rattle.camera_script.specs.declared.form.Form.TheVariants as form
use Rattle.camera_script.specs.declared.form.TheConstants.{LAST_VIEW}
use Rattle.camera_script.specs.declared.values.Place.{Place}
use Rattle.camera_script.specs.Line.{after, line_members}
use Rattle.camera_script.specs.Members.{exactly_named}
use Rattle.camera_script.specs.Values.{of_two, of_three, number_from, place_from, point_of, truth_of, mode_of, value_in, value_or, box_in}

-- ---- the head

-- the names of a head's members, all of them required
abbrev pub head_names : List (List ℕ)
head_names = codes "terra" ∷ codes "depth" ∷ codes "reach" ∷ []

-- the settings in the members terra, depth and reach
abbrev pub settings_in : Members → Option Settings
settings_in members =
    of_three (λ terra depth reach. record { depth = depth; reach = reach })
    (value_in (number_from FORMAT FORMAT) (codes "terra") members)
    (value_in (number_from 0 MAX_DEPTH) (codes "depth") members)
    (value_in (number_from 0 MAX_REACH) (codes "reach") members)

-- the settings that members say, or their first fault
unfoldable pub head_in : Members → Result Settings LineFault
head_in members =
    after (λ members. ok_or (settings_in members) BadValue) (exactly_named head_names [] members)

-- the settings that a head says, or its first fault
abbrev pub head_reading : List ℕ → Result Settings LineFault
head_reading line = after head_in (line_members line)

-- ---- commands

-- the forms of commands, by the text of the member do
abbrev pub form_named : List ℕ → Option Form
form_named text =
    if bytes_eq text (codes "box") then Some form.Box
    else if bytes_eq text (codes "ball") then Some form.Ball
    else if bytes_eq text (codes "ground") then Some form.Ground
    else if bytes_eq text (codes "smooth") then Some form.Smooth
    else if bytes_eq text (codes "camera") then Some form.Camera
    else if bytes_eq text (codes "away") then Some form.Away
    else if bytes_eq text (codes "undo") then Some form.Undo
    else if bytes_eq text (codes "shot") then Some form.Shot
    else if bytes_eq text (codes "stats") then Some form.Stats
    else if bytes_eq text (codes "pick") then Some form.Pick
    else None

-- the names of a form's required members
abbrev pub form_names : Form → List (List ℕ)
form_names form.Box = codes "do" ∷ codes "mode" ∷ codes "lo" ∷ codes "hi" ∷ []
form_names form.Ball = codes "do" ∷ codes "mode" ∷ codes "at" ∷ codes "r" ∷ []
form_names form.Ground = codes "do" ∷ codes "mode" ∷ codes "h" ∷ []
form_names form.Smooth = codes "do" ∷ codes "lo" ∷ codes "hi" ∷ []
form_names form.Camera = codes "do" ∷ codes "at" ∷ []
form_names form.Away = codes "do" ∷ codes "view" ∷ []
form_names form.Undo = codes "do" ∷ []
form_names form.Shot = codes "do" ∷ []
form_names form.Stats = codes "do" ∷ []
form_names form.Pick = codes "do" ∷ codes "at" ∷ []

-- the names of its members that may be absent
abbrev pub optional_names : Form → List (List ℕ)
optional_names form.Camera = codes "view" ∷ []
optional_names form.Shot = codes "normals" ∷ []
optional_names _ = []

-- the form that the member do tells; it may be missing, or none of the texts
abbrev pub form_in : Members → Result Form LineFault
form_in members =
    after (λ value. ok_or (option_and_then form_named (as_str value)) UnknownCommand)
    (ok_or (get_member (codes "do") members) MissingMember)

-- the command that a form's members say, where each value is of its kind and in its range
unfoldable pub form_command : ℕ → Form → Members → Option Command
form_command depth form.Box members =
    of_two (λ mode box. command.Event (event.Edit (Cuboid mode box.lo box.hi)))
    (value_in mode_of (codes "mode") members) (box_in depth members)
form_command depth form.Ball members =
    of_three (λ mode at r. command.Event (event.Edit (Ball mode at r)))
    (value_in mode_of (codes "mode") members)
    (value_in (point_of depth) (codes "at") members)
    (value_in (number_from 1 (world_side depth)) (codes "r") members)
form_command depth form.Ground members =
    of_two (λ mode h. command.Event (event.Edit (Ground mode h)))
    (value_in mode_of (codes "mode") members)
    (value_in (number_from 0 (world_side depth)) (codes "h") members)
form_command depth form.Smooth members =
    option_map (λ box. command.Event (event.Edit (Smooth box.lo box.hi))) (box_in depth members)
form_command depth form.Camera members =
    of_two (λ view at. command.Event (event.Camera view at))
    (value_or 0 (number_from 0 LAST_VIEW) (codes "view") members)
    (value_in (point_of depth) (codes "at") members)
form_command depth form.Away members =
    option_map (λ view. command.Event (event.Away view))
    (value_in (number_from 0 LAST_VIEW) (codes "view") members)
form_command depth form.Undo _ = Some (command.Event event.Undo)
form_command depth form.Shot members =
    option_map (λ normals. command.Shot normals) (value_or false truth_of (codes "normals") members)
form_command depth form.Stats _ = Some command.Stats
form_command depth form.Pick members =
    option_map (λ (at : Place). command.Pick at.x at.y)
    (value_in (place_from depth) (codes "at") members)

-- the command that members say, or their first fault: no known command, a missing member, an unknown member, a value
-- that isn't of its kind or out of its range, in this order
unfoldable pub command_in : ℕ → Members → Result Command LineFault
command_in depth members =
    after (λ form. after (λ members. ok_or (form_command depth form members) BadValue)
    (exactly_named (form_names form) (optional_names form) members)) (form_in members)

-- the command that a line says in a world of this depth, or its first fault
abbrev pub command_reading : ℕ → List ℕ → Result Command LineFault
command_reading depth line = after (command_in depth) (line_members line)
