-- The kinds of values that members have. This project's rule.
use Rattle.std.specs.Prelude.{ℕ, ◌*◌, List, Bool, ◌&&◌, nat_le, if◌then◌else◌, codes, bytes_eq, Option, Some, None, option_map, option_and_then}
use Rattle.serde_json.specs.Data.{Data, Items, no_items, item, Members}
use Rattle.serde_json.specs.Find.{get_member, as_bool, as_number, as_u64, as_str, as_array}
use Rattle.lattice.specs.declared.point.Point.{Point}
use Rattle.lattice.specs.declared.point.TheConstants.{UNITS}
use Rattle.lattice.specs.declared.region.Region.{Region}
use Rattle.terrain.specs.declared.brush.Mode.{Mode}
use Rattle.terrain.specs.declared.brush.Mode.TheVariants.{Fill, Carve}
use Rattle.lattice.specs.Settings.{world_side}
use Rattle.camera_script.specs.declared.values.Place.{Place}

-- f of two values, or of three, where all of them are there
abbrev pub of_two : {A B C : Type 0} → (A → B → C) → Option A → Option B → Option C
of_two f a b = option_and_then (λ x. option_map (f x) b) a

abbrev pub of_three : {A B C D : Type 0} → (A → B → C → D) → Option A → Option B → Option C
    → Option D
of_three f a b c = option_and_then (λ x. of_two (f x) b c) a

-- a whole number from low to high; 1.0, 1e2, -0 and 2^64 are no whole numbers
abbrev pub number_from : ℕ → ℕ → Data → Option ℕ
number_from low high value =
    option_and_then (λ n. if nat_le low n && nat_le n high then Some n else None)
    (option_and_then as_u64 (as_number value))

-- exactly three items, each of them a whole number from 0 to the side: x, y and z
abbrev pub three_numbers : ℕ → Items → Option Point
three_numbers side no_items = None
three_numbers side (item x no_items) = None
three_numbers side (item x (item y no_items)) = None
three_numbers side (item x (item y (item z no_items))) =
    of_three (λ x y z. record { z = z; y = y; x = x }) (number_from 0 side x) (number_from 0 side y)
    (number_from 0 side z)
three_numbers side (item x (item y (item z (item more items)))) = None

-- a point of the world: an array of three such numbers
abbrev pub point_of : ℕ → Data → Option Point
point_of depth value = option_and_then (three_numbers (world_side depth)) (as_array value)

-- exactly two items, each of them a whole number from 0 to the side: x and y
abbrev pub two_numbers : ℕ → Items → Option Place
two_numbers side no_items = None
two_numbers side (item x no_items) = None
two_numbers side (item x (item y no_items)) =
    of_two (λ x y. record { x = x; y = y }) (number_from 0 side x) (number_from 0 side y)
two_numbers side (item x (item y (item more items))) = None

-- a place over the world, in units of 1/256 cell: an array of two such numbers
abbrev pub place_from : ℕ → Data → Option Place
place_from depth value =
    option_and_then (two_numbers (UNITS * world_side depth)) (as_array value)

-- a truth value
abbrev pub truth_of : Data → Option Bool
truth_of value = as_bool value

-- a mode: the text fill or carve
abbrev pub mode_named : List ℕ → Option Mode
mode_named text =
    if bytes_eq text (codes "fill") then Some Fill else if bytes_eq text (codes "carve")
    then Some Carve else None

abbrev pub mode_of : Data → Option Mode
mode_of value = option_and_then mode_named (as_str value)

-- the value of the member of this name, of the kind that a reader of values gives
abbrev pub value_in : {A : Type 0} → (Data → Option A) → List ℕ → Members → Option A
value_in kind name members = option_and_then kind (get_member name members)

-- the same of a member that may be absent, with the value that stands for it then
abbrev pub or_absent : {A : Type 0} → A → (Data → Option A) → Option Data → Option A
or_absent absent kind None = Some absent
or_absent absent kind (Some value) = kind value

abbrev pub value_or : {A : Type 0} → A → (Data → Option A) → List ℕ → Members → Option A
value_or absent kind name members = or_absent absent kind (get_member name members)

-- whether lo is at most hi on each axis
abbrev pub is_ordered : Point → Point → Bool
is_ordered lo hi = nat_le lo.x hi.x && nat_le lo.y hi.y && nat_le lo.z hi.z

-- a box of points: the members lo and hi, in this order on each axis
unfoldable pub box_in : ℕ → Members → Option Region
box_in depth members =
    option_and_then (λ box. if is_ordered box.lo box.hi then Some box else None)
    (of_two (λ lo hi. record { lo = lo; hi = hi }) (value_in (point_of depth) (codes "lo") members)
    (value_in (point_of depth) (codes "hi") members))
