-- The members that say a lawful command read to it: the law `lawful_commands_are_read`.
-- For each kind of value first: a whole number, a point and a mode read back to themselves where they are in their
-- ranges, and two points that are ordered read back as a box. Then command by command the members are computed, and
-- each value is put in by these (command_in-wording).
use Rattle.std.proofs.Common.{◌≡◌, ℕ, ◌*◌, ◌≤◌, true, ◌&&◌, nat_le, refl, ◌∙◌, arith}
use Rattle.std.specs.Prelude.{Some, None, codes, Ok}
use Rattle.std.proofs.lemmas.Bool.{and_from, le-leb, cond-true}
use Rattle.serde_json.specs.Data.{Members}
use Rattle.lattice.specs.declared.point.Point.{Point}
use Rattle.lattice.specs.declared.point.TheConstants.{UNITS}
use Rattle.terrain.specs.declared.brush.Mode.{Mode}
use Rattle.terrain.specs.declared.brush.Mode.TheVariants.{Fill, Carve}
use Rattle.terrain.specs.declared.brush.Brush.TheVariants.{Cuboid, Ball, Ground, Smooth}
use Rattle.terrain.specs.declared.event.Event.TheVariants.{Edit, Camera, Away, Undo}
use Rattle.camera_script.specs.declared.commands.Command.{Command}
use Rattle.camera_script.specs.declared.commands.Command.TheVariants.{Event, Shot, Stats, Pick}
use Rattle.lattice.specs.Settings.{world_side}
use Rattle.camera_script.specs.declared.form.TheConstants.{LAST_VIEW}
use Rattle.lattice.specs.Point.{IsInWorld}
use Rattle.lattice.specs.Region.{IsRegion}
use Rattle.camera_script.specs.Values.{number_from, point_of, mode_of, value_in, is_ordered, box_in}
use Rattle.camera_script.specs.Reading.{form_command, command_in}
use Rattle.camera_script.specs.Commands.{IsAllowedCommand}
use Rattle.camera_script.specs.Wording.{whole, point_value, mode_value, wording}

-- a whole number in its range reads back to itself
number_from-whole : (low high n : ℕ) → low ≤ n → n ≤ high → number_from low high (whole n) ≡ Some n
number_from-whole low high n least most =
    cond-true (nat_le low n && nat_le n high) (Some n) None
    (and_from (nat_le low n) (nat_le n high) (le-leb low n least) (le-leb n high most))

-- so does a point of the world
point_of-point_value : (depth : ℕ) (p : Point) → IsInWorld depth p
    → point_of depth (point_value p) ≡ Some p
point_of-point_value depth p inside =
    rw (
      number_from-whole 0 (world_side depth) p.x (omega arith) inside.x,
      number_from-whole 0
          (world_side depth) p.y (omega arith) inside.y,
      number_from-whole 0 (world_side depth) p.z
          (omega arith) inside.z,
    ) refl

-- so does a mode
mode_of-mode_value : (mode : Mode) → mode_of (mode_value mode) ≡ Some mode
mode_of-mode_value Fill = refl
mode_of-mode_value Carve = refl

-- the points of a box of the world pass the test of their order
is_ordered-from : (depth : ℕ) (lo hi : Point) → IsRegion depth (record { lo = lo; hi = hi })
    → is_ordered lo hi ≡ true
is_ordered-from depth lo hi box =
    and_from (nat_le lo.x hi.x && nat_le lo.y hi.y) (nat_le lo.z hi.z)
    (and_from (nat_le lo.x hi.x) (nat_le lo.y hi.y) (le-leb lo.x hi.x box.x)
    (le-leb lo.y hi.y box.y)) (le-leb lo.z hi.z box.z)

-- its low corner is in the world, as its high one is
low_corner-inside : (depth : ℕ) (lo hi : Point) → IsRegion depth (record { lo = lo; hi = hi })
    → IsInWorld depth lo
low_corner-inside depth lo hi box = record {
  z = let most = box.high.z in omega (arith, box.z);
  y = let most = box.high.y in omega (arith, box.y);
  x = let most = box.high.x in omega (arith, box.x);
}

-- a box is read where its two points are
box_in-points : (depth : ℕ) (members : Members) (lo hi : Point)
    → value_in (point_of depth) (codes "lo") members ≡ Some lo
    → value_in (point_of depth) (codes "hi") members ≡ Some hi
    → IsRegion depth (record { lo = lo; hi = hi })
    → box_in depth members ≡ Some (record { lo = lo; hi = hi })
unfolding box_in
box_in-points depth _ lo hi read_lo read_hi box =
    rw (read_lo, read_hi, is_ordered-from depth lo hi box) refl

-- the same where the values of the members are the two points
box_in-values : (depth : ℕ) (members : Members) (lo hi : Point)
    → value_in (point_of depth) (codes "lo") members ≡ point_of depth (point_value lo)
    → value_in (point_of depth) (codes "hi") members ≡ point_of depth (point_value hi)
    → IsRegion depth (record { lo = lo; hi = hi })
    → box_in depth members ≡ Some (record { lo = lo; hi = hi })
box_in-values depth members lo hi has_lo has_hi box =
    box_in-points depth members lo hi
    (has_lo ∙ point_of-point_value depth lo (low_corner-inside depth lo hi box))
    (has_hi ∙ point_of-point_value depth hi box.high) box

-- the members that say a lawful command read to it
pub command_in-wording : (depth : ℕ) (command : Command) → IsAllowedCommand depth command
    → command_in depth (wording command) ≡ Ok command
unfolding command_in form_command
command_in-wording depth (Event (Edit (Cuboid mode lo hi))) box =
    rw (
      mode_of-mode_value mode,
      box_in-values depth
          (wording (Event (Edit (Cuboid mode lo hi)))) lo hi refl refl box,
    ) refl
command_in-wording depth (Event (Edit (Ball mode at r))) ball =
    rw (
      mode_of-mode_value mode,
      point_of-point_value depth at ball.centre,
      number_from-whole 1
          (world_side depth) r ball.least ball.most,
    ) refl
command_in-wording depth (Event (Edit (Ground mode h))) most =
    rw (mode_of-mode_value mode, number_from-whole 0 (world_side depth) h (omega arith) most) refl
command_in-wording depth (Event (Edit (Smooth lo hi))) box =
    rw (box_in-values depth (wording (Event (Edit (Smooth lo hi)))) lo hi refl refl box) refl
command_in-wording depth (Event (Camera view at)) lawful =
    rw (
      number_from-whole 0 LAST_VIEW view (omega arith) (omega (arith, lawful.0)),
      point_of-point_value depth at lawful.1,
    ) refl
command_in-wording depth (Event (Away view)) number =
    rw (number_from-whole 0 LAST_VIEW view (omega arith) (omega (arith, number))) refl
command_in-wording depth (Event Undo) lawful = refl
command_in-wording depth (Shot normals) lawful = refl
command_in-wording depth Stats lawful = refl
command_in-wording depth (Pick x y) lawful =
    let side = UNITS * world_side depth in
    rw (
      number_from-whole 0 side x (omega arith) lawful.0,
      number_from-whole 0 side y (omega arith) lawful.1,
    ) refl
