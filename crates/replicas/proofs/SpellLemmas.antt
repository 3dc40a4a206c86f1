-- What was spelled is read again, each value from its own bytes: numbers and points first, since all others have them
-- (`two_again`, `four_again`, `point_again`); then nodes, events by their tags, keys with their positions, and
-- triangles. Each is an equation of records, field by field.
use Rattle.std.proofs.Common.{◌≡◌, ℕ, ◌^◌, ◌<◌, List, [], ◌∷◌, get_or, length, Some, refl, ap, ◌∙◌, arith}
use Rattle.std.specs.Option.{option_map}
use Rattle.std.proofs.lemmas.Nat.{from_le_bytes-to_le_bytes_4}
use Rattle.lattice.specs.declared.key.Key.{Key}
use Rattle.lattice.specs.declared.node.Node.{Node}
use Rattle.lattice.specs.declared.point.Axis.{Axis}
use Rattle.lattice.specs.declared.point.Axis.TheVariants.{X, Y, Z}
use Rattle.lattice.specs.declared.point.Point.{Point}
use Rattle.lattice.specs.declared.point.Pos.{Pos}
use Rattle.terrain.specs.declared.brush.Brush.TheVariants.{Cuboid, Ball, Ground, Smooth}
use Rattle.terrain.specs.declared.brush.Mode.{Mode}
use Rattle.terrain.specs.declared.brush.Mode.TheVariants.{Fill, Carve}
use Rattle.terrain.specs.declared.event.Event.{Event}
use Rattle.terrain.specs.declared.event.Event.TheVariants.{Edit, Camera, Away, Undo}
use Rattle.replicas.specs.Fits.{FitsEvent, FitsKey, FitsNode, FitsPoint, FitsPosition, FitsTriangle}
use Rattle.replicas.specs.Grammar.{axis_byte, event_fields, event_tag, four, mode_byte, node_bytes, point_bytes, triangle_bytes, two, vertex_bytes}
use Rattle.replicas.specs.Reading.{axis_read, event_read, event_size, four_at, mode_read, node_read, point_read, two_at, vertex_read}

-- ---- lists of three
-- a list of three items, each by itself
pub three-is : (xs : List ℕ) → length xs ≡ 3
    → xs ≡ get_or xs 0 0 ∷ get_or xs 1 0 ∷ get_or xs 2 0 ∷ []
three-is [] is = absurd (omega (arith, is))
three-is (a ∷ []) is = absurd (omega (arith, is))
three-is (a ∷ b ∷ []) is = absurd (omega (arith, is))
three-is (a ∷ b ∷ c ∷ []) is = refl
three-is (a ∷ b ∷ c ∷ d ∷ xs) is = absurd (omega (arith, is))

-- ---- numbers
-- a number that was put into two bytes
pub two_again : (n : ℕ) → n < 2 ^ 16 → two_at 0 (two n) ≡ n
unfolding two
two_again n small = omega arith

-- a number that was put into four
pub four_again : (n : ℕ) → n < 2 ^ 32 → four_at 0 (four n) ≡ n
unfolding four
four_again n small = omega (arith, from_le_bytes-to_le_bytes_4 n small)

-- ---- points and nodes
-- a point, wherever it comes among the bytes
pub point_again : (p : Point) → FitsPoint p → point_read 0 (point_bytes p) ≡ p
unfolding point_bytes two
point_again p fits = λ i. record {
  z = two_again p.z fits.z i;
  y = two_again p.y fits.y i;
  x = two_again p.x fits.x i;
}

-- a node
pub node_again : (n : Node) → FitsNode n → node_read (node_bytes n) ≡ n
unfolding node_bytes two
node_again n fits = λ i. record {
  level = n.level;
  k = two_again n.k fits.k i;
  j = two_again n.j fits.j i;
  i = two_again n.i fits.i i;
}

-- ---- events
-- a mode
mode_again : (mode : Mode) → mode_read (mode_byte mode) ≡ Some mode
mode_again Fill = refl
mode_again Carve = refl

-- an event, by its tag and its fields
pub event_again : (e : Event) → FitsEvent e → event_read (event_tag e) (event_fields e) ≡ Some e
unfolding event_fields point_bytes two
event_again (Edit (Cuboid Fill lo hi)) fits =
    λ i. Some (Edit (Cuboid Fill (point_again lo fits.0 i) (point_again hi fits.1 i)))
event_again (Edit (Cuboid Carve lo hi)) fits =
    λ i. Some (Edit (Cuboid Carve (point_again lo fits.0 i) (point_again hi fits.1 i)))
event_again (Edit (Ball Fill at r)) fits =
    λ i. Some (Edit (Ball Fill (point_again at fits.0 i) (two_again r fits.1 i)))
event_again (Edit (Ball Carve at r)) fits =
    λ i. Some (Edit (Ball Carve (point_again at fits.0 i) (two_again r fits.1 i)))
event_again (Edit (Ground Fill h)) fits = λ i. Some (Edit (Ground Fill (two_again h fits i)))
event_again (Edit (Ground Carve h)) fits = λ i. Some (Edit (Ground Carve (two_again h fits i)))
event_again (Edit (Smooth lo hi)) fits =
    λ i. Some (Edit (Smooth (point_again lo fits.0 i) (point_again hi fits.1 i)))
event_again (Camera view at) fits = λ i. Some (Camera view (point_again at fits.1 i))
event_again (Away view) fits = refl
event_again Undo fits = refl

-- its fields are as long as its tag says
pub event_length : (e : Event) → length (event_fields e) ≡ event_size (event_tag e)
unfolding event_fields point_bytes two
event_length (Edit (Cuboid mode lo hi)) = refl
event_length (Edit (Ball mode at r)) = refl
event_length (Edit (Ground mode h)) = refl
event_length (Edit (Smooth lo hi)) = refl
event_length (Camera view at) = refl
event_length (Away view) = refl
event_length Undo = refl

-- ---- blocks
-- an axis
axis_again : (axis : Axis) → axis_read (axis_byte axis) ≡ Some axis
axis_again X = refl
axis_again Y = refl
axis_again Z = refl

-- what is made of an axis
axis_made : {B : Type 0} (f : Axis → B) (axis : Axis)
    → option_map f (axis_read (axis_byte axis)) ≡ Some (f axis)
axis_made f axis = ap (option_map f) (axis_again axis)

-- a key with its position
pub vertex_again : (v : Key × Pos) → FitsKey v.0 → FitsPosition v.1
    → vertex_read (vertex_bytes v) ≡ Some v
unfolding vertex_bytes point_bytes two four
vertex_again v key at =
    axis_made _ v.0.axis
    ∙ (λ i. Some (
      record { level = v.0.level; at = point_again v.0.at key.at i; axis = v.0.axis },
      record {
        x = four_again v.1.x at.x i;
        y = four_again v.1.y at.y i;
        z = four_again v.1.z at.z i;
      },
    ))

-- a triangle
pub triangle_again : (places : List ℕ) → FitsTriangle places
    → four_at 0 (triangle_bytes places) ∷ four_at 4 (triangle_bytes places)
    ∷ four_at 8 (triangle_bytes places) ∷ [] ≡ places
unfolding triangle_bytes four
triangle_again [] fits = absurd (omega (arith, fits.three))
triangle_again (a ∷ []) fits = absurd (omega (arith, fits.three))
triangle_again (a ∷ b ∷ []) fits = absurd (omega (arith, fits.three))
triangle_again (a ∷ b ∷ c ∷ []) fits = λ i.
    four_again a (fits.each 0 0 (omega arith)) i ∷ four_again b (fits.each 1 0 (omega arith)) i
    ∷ four_again c (fits.each 2 0 (omega arith)) i ∷ []
triangle_again (a ∷ b ∷ c ∷ d ∷ places) fits = absurd (omega (arith, fits.three))
