-- What a line reads to is allowed: a head's settings (the clause `allowed` of `head`) and a command's event (the clause
-- `lawful` of `command`, and the law `readings_are_lawful`).
-- A reading is a chain of steps that each may find nothing. So first such a chain is taken apart from its end: where it
-- found something, each step did (option_map_some to ok_or_ok). Then upwards: numbers are in their ranges, points in
-- the world, boxes ordered, settings allowed (head_reading-allowed). At the end each form of a command is lawful by
-- what its values are (form_command-lawful, command_reading-lawful).
use Rattle.std.proofs.Common.{◌≡◌, ℕ, ◌*◌, ◌≤◌, false, ◌&&◌, List, [], refl, ap, subst, arith}
use Rattle.std.specs.Prelude.{Option, Some, None, option_map, option_and_then, ok_or, Result, Ok, Err, IfOk, nat_le, codes}
use Rattle.std.proofs.lemmas.Bool.{and_parts, leb-true}
use Rattle.std.proofs.lemmas.Option.{cond_some, same_Some, option_and_then_some}
use Rattle.serde_json.specs.Data.{Data, Items, no_items, item, Members}
use Rattle.serde_json.specs.Find.{get_member, as_number, as_u64, as_array}
use Rattle.lattice.specs.declared.point.Point.{Point}
use Rattle.lattice.specs.declared.point.TheConstants.{UNITS}
use Rattle.lattice.specs.declared.region.Region.{Region}
use Rattle.lattice.specs.declared.settings.Settings.{Settings}
use Rattle.lattice.specs.declared.settings.TheConstants.{MAX_DEPTH, MAX_REACH}
use Rattle.camera_script.specs.declared.reading.TheConstants.{FORMAT}
use Rattle.camera_script.specs.declared.commands.Command.{Command}
use Rattle.lattice.specs.Settings.{world_side, IsSettings}
use Rattle.lattice.specs.Point.{IsInWorld}
use Rattle.lattice.specs.Region.{IsRegion}
use Rattle.camera_script.specs.declared.fault.LineFault.{LineFault}
use Rattle.camera_script.specs.declared.fault.LineFault.TheVariants.{BadValue}
use Rattle.camera_script.specs.declared.form.Form.{Form}
use Rattle.camera_script.specs.declared.form.Form.TheVariants.{Box, Ball, Ground, Smooth, Camera, Away, Undo, Shot, Stats, Pick}
use Rattle.camera_script.specs.declared.form.TheConstants.{LAST_VIEW}
use Rattle.camera_script.specs.declared.values.Place.{Place}
use Rattle.camera_script.specs.Line.{after, line_members}
use Rattle.camera_script.specs.Members.{exactly_named}
use Rattle.camera_script.specs.Values.{of_two, of_three, number_from, two_numbers, three_numbers, place_from, point_of, truth_of, mode_of, or_absent, value_in, value_or, is_ordered, box_in}
use Rattle.camera_script.specs.Reading.{form_in, form_names, optional_names, head_names, settings_in, head_in, head_reading, form_command, command_in, command_reading}
use Rattle.camera_script.specs.Commands.{IsAllowedCommand}

-- ---- words

-- what a chain of steps found, backwards
option_map_some : {A B P : Type 0} (f : A → B) (o : Option A) (y : B) → option_map f o ≡ Some y
    → ((x : A) → o ≡ Some x → f x ≡ y → P) → P
option_map_some f None y is use_it = absurd (cc)
option_map_some f (Some x) y is use_it = use_it x refl (same_Some _ _ is)

-- the same of two values
of_two_some : {A B C P : Type 0} (f : A → B → C) (a : Option A) (b : Option B) (y : C)
    → of_two f a b ≡ Some y
    → ((x : A) (z : B) → a ≡ Some x → b ≡ Some z → f x z ≡ y → P) → P
of_two_some f None b y is use_it = absurd (cc)
of_two_some f (Some x) b y is use_it =
    option_map_some (f x) b y is (λ z found made. use_it x z refl found made)

-- the same of three values
of_three_some : {A B C D P : Type 0} (f : A → B → C → D) (a : Option A) (b : Option B)
    (c : Option C) (y : D) → of_three f a b c ≡ Some y
    → ((x : A) (z : B) (w : C) → a ≡ Some x → b ≡ Some z → c ≡ Some w → f x z w ≡ y → P) → P
of_three_some f None b c y is use_it = absurd (cc)
of_three_some f (Some x) b c y is use_it =
    of_two_some (f x) b c y is (λ z w found last made. use_it x z w refl found last made)

-- the same of readings, which have a fault in place of nothing
after_ok : {A B P : Type 0} (f : A → Result B LineFault) (r : Result A LineFault) (y : B)
    → after f r ≡ Ok y → ((x : A) → r ≡ Ok x → f x ≡ Ok y → P) → P
after_ok f (Ok x) y is use_it = use_it x refl is
after_ok f (Err fault) y is use_it = absurd (cc)

-- the same where a missing value becomes a fault
ok_or_ok : {A : Type 0} (o : Option A) (fault : LineFault) (y : A) → ok_or o fault ≡ Ok y
    → o ≡ Some y
ok_or_ok None fault y is = absurd (cc)
ok_or_ok (Some x) fault y is = let e : x ≡ y = cc in ap Some e

-- ---- values

-- a number is in a range, its ends included
record IsFrom (low high n : ℕ) : Type 0 where
  least : low ≤ n
  most : n ≤ high

-- a number that is read is in its range
number_from-bounds : (low high : ℕ) (value : Data) (n : ℕ) → number_from low high value ≡ Some n
    → IsFrom low high n
number_from-bounds low high value n is =
    option_and_then_some _ (option_and_then as_u64 (as_number value)) n is (λ m found test.
    let parts = cond_some _ m n test in
    let bounds = and_parts (nat_le low m) (nat_le m high) parts.0 in
    let of_m : IsFrom low high m =
    record { least = leb-true low m bounds.0; most = leb-true m high bounds.1 } in
    subst (IsFrom low high) parts.1 of_m)

-- so is one that is read from a member
number_in-bounds : (low high : ℕ) (name : List ℕ) (members : Members) (n : ℕ)
    → value_in (number_from low high) name members ≡ Some n → IsFrom low high n
number_in-bounds low high name members n is =
    option_and_then_some (number_from low high) (get_member name members) n is
    (λ value found read. number_from-bounds low high value n read)

-- so is one that may be absent, where the number that stands for it then is
or_absent-bounds : (absent low high : ℕ) (value : Option Data) (n : ℕ) → IsFrom low high absent
    → or_absent absent (number_from low high) value ≡ Some n → IsFrom low high n
or_absent-bounds absent low high None n fits is =
    subst (IsFrom low high) (same_Some absent n is) fits
or_absent-bounds absent low high (Some value) n fits is = number_from-bounds low high value n is

-- the same of the number that a member is
number_or-bounds : (absent low high : ℕ) (name : List ℕ) (members : Members) (n : ℕ)
    → IsFrom low high absent → value_or absent (number_from low high) name members ≡ Some n
    → IsFrom low high n
number_or-bounds absent low high name members n fits is =
    or_absent-bounds absent low high (get_member name members) n fits is

-- three numbers that are read are a point of the world
three_numbers-inside : (depth : ℕ) (items : Items) (p : Point)
    → three_numbers (world_side depth) items ≡ Some p → IsInWorld depth p
three_numbers-inside depth no_items p is = absurd (cc)
three_numbers-inside depth (item x no_items) p is = absurd (cc)
three_numbers-inside depth (item x (item y no_items)) p is = absurd (cc)
three_numbers-inside depth (item x (item y (item z no_items))) p is =
    let side = world_side depth in
    of_three_some _ (number_from 0 side x) (number_from 0 side y) (number_from 0 side z) p is
    (λ a b c read_x read_y read_z made.
    let inside : IsInWorld depth (record { z = c; y = b; x = a }) = record {
      z = (number_from-bounds 0 side z c read_z).most;
      y = (number_from-bounds 0 side y b read_y).most;
      x = (number_from-bounds 0 side x a read_x).most;
    } in
    subst (IsInWorld depth) made inside)
three_numbers-inside depth (item x (item y (item z (item more items)))) p is = absurd (cc)

-- so is a point that is read from a member
point_in-inside : (depth : ℕ) (name : List ℕ) (members : Members) (p : Point)
    → value_in (point_of depth) name members ≡ Some p → IsInWorld depth p
point_in-inside depth name members p is =
    option_and_then_some (point_of depth) (get_member name members) p is (λ value found read.
    option_and_then_some (three_numbers (world_side depth)) (as_array value) p read
    (λ items listed three. three_numbers-inside depth items p three))

-- two numbers that are read are a place over the world
two_numbers-inside : (side : ℕ) (items : Items) (at : Place) → two_numbers side items ≡ Some at
    → (at.x ≤ side) × (at.y ≤ side)
two_numbers-inside side no_items at is = absurd (cc)
two_numbers-inside side (item x no_items) at is = absurd (cc)
two_numbers-inside side (item x (item y no_items)) at is =
    of_two_some _ (number_from 0 side x) (number_from 0 side y) at is
    (λ a b read_x read_y made.
    let P : Place → Type 0 = λ p. (p.x ≤ side) × (p.y ≤ side) in
    subst P made
    ((number_from-bounds 0 side x a read_x).most, (number_from-bounds 0 side y b read_y).most))
two_numbers-inside side (item x (item y (item more items))) at is = absurd (cc)

-- so is a place that is read from a member
place_in-inside : (depth : ℕ) (name : List ℕ) (members : Members) (at : Place)
    → value_in (place_from depth) name members ≡ Some at
    → (at.x ≤ UNITS * world_side depth) × (at.y ≤ UNITS * world_side depth)
place_in-inside depth name members at is =
    option_and_then_some (place_from depth) (get_member name members) at is (λ value found read.
    option_and_then_some (two_numbers (UNITS * world_side depth)) (as_array value) at read
    (λ items listed two. two_numbers-inside (UNITS * world_side depth) items at two))

-- a box that is read is one of the world, with its points in order
box_in-lawful : (depth : ℕ) (members : Members) (box : Region) → box_in depth members ≡ Some box
    → IsRegion depth box
unfolding box_in
box_in-lawful depth members box is =
    let read_lo = value_in (point_of depth) (codes "lo") members in
    let read_hi = value_in (point_of depth) (codes "hi") members in
    option_and_then_some _ (of_two (λ lo hi. record { lo = lo; hi = hi }) read_lo read_hi) box is
    (λ found read test.
    of_two_some (λ lo hi. record { lo = lo; hi = hi }) read_lo read_hi found read
    (λ lo hi has_lo has_hi made.
    let parts = cond_some (is_ordered found.lo found.hi) found box test in
    let xyz =
    and_parts (nat_le found.lo.x found.hi.x && nat_le found.lo.y found.hi.y)
    (nat_le found.lo.z found.hi.z) parts.0 in
    let xy = and_parts (nat_le found.lo.x found.hi.x) (nat_le found.lo.y found.hi.y) xyz.0 in
    let lawful : IsRegion depth found = record {
      x = leb-true found.lo.x found.hi.x xy.0;
      y = leb-true found.lo.y found.hi.y xy.1;
      z = leb-true found.lo.z found.hi.z xyz.1;
      high =
          subst (IsInWorld depth) (ap (λ b. b.hi) made)
          (point_in-inside depth (codes "hi") members hi has_hi);
    } in
    let P : Region → Type 0 = λ b. IsRegion depth b in
    subst P parts.1 lawful))

-- ---- the head

-- settings that are read are in their ranges
settings_in-allowed : (members : Members) (settings : Settings)
    → settings_in members ≡ Some settings → IsSettings settings
settings_in-allowed members settings is =
    of_three_some _ (value_in (number_from FORMAT FORMAT) (codes "terra") members)
    (value_in (number_from 0 MAX_DEPTH) (codes "depth") members)
    (value_in (number_from 0 MAX_REACH) (codes "reach") members) settings is
    (λ terra depth reach read_terra read_depth read_reach made.
    let allowed : IsSettings (record { depth = depth; reach = reach }) = record {
      depth = (number_in-bounds 0 MAX_DEPTH (codes "depth") members depth read_depth).most;
      reach = (number_in-bounds 0 MAX_REACH (codes "reach") members reach read_reach).most;
    } in
    subst IsSettings made allowed)

-- settings that members say are allowed
pub head_in-allowed : (members : Members) (settings : Settings) → head_in members ≡ Ok settings
    → IsSettings settings
unfolding head_in
head_in-allowed members settings is =
    after_ok (λ found. ok_or (settings_in found) BadValue)
    (exactly_named head_names [] members) settings is (λ found exact read.
    settings_in-allowed found settings (ok_or_ok (settings_in found) BadValue settings read))

-- settings that a head says are allowed
pub head_reading-allowed : (line : List ℕ) (settings : Settings) → head_reading line ≡ Ok settings
    → IsSettings settings
head_reading-allowed line settings is =
    after_ok head_in (line_members line) settings is
    (λ members read head. head_in-allowed members settings head)

-- ---- commands

-- each form gives a lawful command, by what its values are
form_command-lawful : (depth : ℕ) (form : Form) (members : Members) (command : Command)
    → form_command depth form members ≡ Some command → IsAllowedCommand depth command
unfolding form_command
form_command-lawful depth Box members command is =
    of_two_some _ (value_in mode_of (codes "mode") members) (box_in depth members) command is
    (λ mode box read_mode read_box made.
    subst (IsAllowedCommand depth) made (box_in-lawful depth members box read_box))
form_command-lawful depth Ball members command is =
    of_three_some _ (value_in mode_of (codes "mode") members)
    (value_in (point_of depth) (codes "at") members)
    (value_in (number_from 1 (world_side depth)) (codes "r") members) command is
    (λ mode at r read_mode read_at read_r made.
    let bounds = number_in-bounds 1 (world_side depth) (codes "r") members r read_r in
    subst (IsAllowedCommand depth) made (record {
      centre = point_in-inside depth (codes "at") members at read_at;
      least = bounds.least;
      most = bounds.most;
    }))
form_command-lawful depth Ground members command is =
    of_two_some _ (value_in mode_of (codes "mode") members)
    (value_in (number_from 0 (world_side depth)) (codes "h") members) command is
    (λ mode h read_mode read_h made.
    subst (IsAllowedCommand depth) made
    (number_in-bounds 0 (world_side depth) (codes "h") members h read_h).most)
form_command-lawful depth Smooth members command is =
    option_map_some _ (box_in depth members) command is (λ box read_box made.
    subst (IsAllowedCommand depth) made (box_in-lawful depth members box read_box))
form_command-lawful depth Camera members command is =
    of_two_some _ (value_or 0 (number_from 0 LAST_VIEW) (codes "view") members)
    (value_in (point_of depth) (codes "at") members) command is
    (λ view at read_view read_at made.
    let bounds = number_or-bounds 0 0 LAST_VIEW (codes "view") members view
    (record { least = omega arith; most = omega arith }) read_view in
    subst (IsAllowedCommand depth) made
    (omega (arith, bounds.most), point_in-inside depth (codes "at") members at read_at))
form_command-lawful depth Away members command is =
    option_map_some _ (value_in (number_from 0 LAST_VIEW) (codes "view") members) command is
    (λ view read_view made.
    let bounds = number_in-bounds 0 LAST_VIEW (codes "view") members view read_view in
    subst (IsAllowedCommand depth) made (omega (arith, bounds.most)))
form_command-lawful depth Undo _ command is = subst (IsAllowedCommand depth) (same_Some _ _ is) tt
form_command-lawful depth Shot members command is =
    option_map_some _ (value_or false truth_of (codes "normals") members) command is
    (λ normals read made. subst (IsAllowedCommand depth) made tt)
form_command-lawful depth Stats _ command is = subst (IsAllowedCommand depth) (same_Some _ _ is) tt
form_command-lawful depth Pick members command is =
    option_map_some _ (value_in (place_from depth) (codes "at") members) command is
    (λ at read made.
    subst (IsAllowedCommand depth) made (place_in-inside depth (codes "at") members at read))

-- a command that members say is lawful
pub command_in-lawful : (depth : ℕ) (members : Members) (command : Command)
    → command_in depth members ≡ Ok command → IsAllowedCommand depth command
unfolding command_in
command_in-lawful depth members command is =
    after_ok (λ form. after (λ found. ok_or (form_command depth form found) BadValue)
    (exactly_named (form_names form) (optional_names form) members)) (form_in members) command is
    (λ form read_form then_values.
    after_ok (λ found. ok_or (form_command depth form found) BadValue)
    (exactly_named (form_names form) (optional_names form) members) command then_values
    (λ found exact read.
    form_command-lawful depth form found command
    (ok_or_ok (form_command depth form found) BadValue command read)))

-- a command that a line says is lawful
pub command_reading-lawful : (depth : ℕ) (line : List ℕ) (command : Command)
    → command_reading depth line ≡ Ok command → IsAllowedCommand depth command
command_reading-lawful depth line command is =
    after_ok (command_in depth) (line_members line) command is
    (λ members read said. command_in-lawful depth members command said)

-- a fact of each value that comes
pub IfOk-from : {A E : Type 0} (r : Result A E) (P : A → Type 0) → ((x : A) → r ≡ Ok x → P x)
    → IfOk r P
IfOk-from (Ok x) P holds = holds x refl
IfOk-from (Err fault) P holds = tt
