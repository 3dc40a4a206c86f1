-- How a command is said: the members of an object that asks for it. This project's rule.
use Rattle.std.specs.Prelude.{ℕ, codes}
use Rattle.serde_json.specs.Data.{Data, boolean, number, unsigned, string, array, no_items, item, Members, no_members, member}
use Rattle.lattice.specs.declared.point.Point.{Point}
use Rattle.terrain.specs.declared.brush.Mode.{Mode}
use Rattle.terrain.specs.declared.brush.Mode.TheVariants.{Fill, Carve}
use Rattle.terrain.specs.declared.brush.Brush.TheVariants.{Cuboid, Ball, Ground, Smooth}
use Rattle.terrain.specs.declared.event.Event.TheVariants.{Edit, Camera, Away, Undo}
use Rattle.camera_script.specs.declared.commands.Command.{Command}
use Rattle.camera_script.specs.declared.commands.Command.TheVariants.{Event, Shot, Stats, Pick}

-- a whole number, a point as x, y and z, and a mode, as values
abbrev pub whole : ℕ → Data
whole n = number (unsigned n)

abbrev pub point_value : Point → Data
point_value p = array (item (whole p.x) (item (whole p.y) (item (whole p.z) no_items)))

abbrev pub mode_value : Mode → Data
mode_value Fill = string (codes "fill")
mode_value Carve = string (codes "carve")

-- the members that say a command
abbrev pub wording : Command → Members
wording (Event (Edit (Cuboid mode lo hi))) =
    member (codes "do") (string (codes "box"))
    (member (codes "mode") (mode_value mode)
    (member (codes "lo") (point_value lo) (member (codes "hi") (point_value hi) no_members)))
wording (Event (Edit (Ball mode at r))) =
    member (codes "do") (string (codes "ball"))
    (member (codes "mode") (mode_value mode)
    (member (codes "at") (point_value at) (member (codes "r") (whole r) no_members)))
wording (Event (Edit (Ground mode h))) =
    member (codes "do") (string (codes "ground"))
    (member (codes "mode") (mode_value mode) (member (codes "h") (whole h) no_members))
wording (Event (Edit (Smooth lo hi))) =
    member (codes "do") (string (codes "smooth"))
    (member (codes "lo") (point_value lo) (member (codes "hi") (point_value hi) no_members))
wording (Event (Camera view at)) =
    member (codes "do") (string (codes "camera"))
    (member (codes "view") (whole view) (member (codes "at") (point_value at) no_members))
wording (Event (Away view)) =
    member (codes "do") (string (codes "away")) (member (codes "view") (whole view) no_members)
wording (Event Undo) = member (codes "do") (string (codes "undo")) no_members
wording (Shot normals) =
    member (codes "do") (string (codes "shot"))
    (member (codes "normals") (boolean normals) no_members)
wording Stats = member (codes "do") (string (codes "stats")) no_members
wording (Pick x y) =
    member (codes "do") (string (codes "pick"))
    (member (codes "at") (array (item (whole x) (item (whole y) no_items))) no_members)
