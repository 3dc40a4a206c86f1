-- The faces of every cell fit together, by a test of all sign numbers. For the law `cells_are_closed`.
--
-- `is_polygon` and `is_closed` are the records `IsPolygon` and `IsClosed` as tests; `from_polygon` and `from_closed`
-- take a passed test apart into the record, field by field; and all sign numbers pass by computing (`AllSigns`).
use Rattle.std.proofs.Common.{◌≡◌, ℕ, ◌+◌, ◌<◌, Bool, true, false, ◌&&◌, ◌||◌, not, List, refl, length, eq-eqb}
use Rattle.std.specs.Prelude.{nat_lt, nat_le, ◌==◌}
use Rattle.std.specs.Bool.{beq}
use Rattle.std.specs.List.{list_all, flat_map}
use Rattle.std.proofs.lemmas.Bool.{leb-true, eqb-true, and_parts}
use Rattle.lattice.specs.declared.point.Face.{Face}
use Rattle.terrain.specs.Curves.{Polygon, corner_count, is_solid_corner, side, no_side, IsPolygon, entered, left, crossed, count_of, shared, share_at_most_one, key_numbers, IsClosed}
use Rattle.terrain.specs.Cells.{regular_faces, transition_faces}
use Rattle.cell_laws.proofs.AllSigns.{All-passing, all_below, at_below, all_regular, at_regular, all_transition, at_transition}

-- the test of the field `copies`: a side without a number goes between corners that are solid alike
copied : Polygon → ℕ → Bool
copied p t = not (side p t == no_side) || beq (is_solid_corner p t) (is_solid_corner p (t + 1))

-- the test of equal signs says that they are equal
same_solid : (a b : Bool) → beq a b ≡ true → a ≡ b
same_solid true true h = refl
same_solid true false h = absurd (cc)
same_solid false true h = absurd (cc)
same_solid false false h = refl

-- a test written as "not the one, or the other", with the one passed
implied : (a b : Bool) → (not a || b) ≡ true → a ≡ true → b ≡ true
implied true b h e = h
implied false b h e = absurd (cc)

-- what that test says
from_copied : (p : Polygon) (t : ℕ) → copied p t ≡ true → side p t ≡ no_side
    → is_solid_corner p t ≡ is_solid_corner p (t + 1)
unfolding copied
from_copied p t h e = same_solid _ _ (implied (side p t == no_side) _ h
    (eq-eqb (side p t) no_side e))

-- `IsPolygon` as a test
is_polygon : Polygon → Bool
is_polygon p = nat_le 3 (corner_count p) && (nat_le (corner_count p) 5
    && ((length p.sides == corner_count p) && all_below (corner_count p) (copied p)))

-- and back
from_polygon : (p : Polygon) → is_polygon p ≡ true → IsPolygon p
unfolding is_polygon
from_polygon p h =
    let a = and_parts _ _ h in
    let b = and_parts _ _ a.1 in
    let c = and_parts _ _ b.1 in
    record {
      at_least = leb-true 3 (corner_count p) a.0;
      at_most = leb-true (corner_count p) 5 b.0;
      as_many = eqb-true (length p.sides) (corner_count p) c.0;
      copies = λ t lt. from_copied p t (at_below (corner_count p) (copied p) c.1 t lt);
    }

-- `IsClosed` as a test
is_closed : List Polygon → Bool
is_closed faces =
    let ins = flat_map entered faces in
    let outs = flat_map left faces in
    list_all is_polygon faces
    && (list_all (λ k. nat_lt k 16) (flat_map crossed faces)
    && (list_all (λ k. nat_le (count_of k ins) 1) key_numbers
    && (list_all (λ k. count_of k ins == count_of k outs) key_numbers
    && (list_all (λ p. length (shared (entered p) (left p)) == 0) faces
    && share_at_most_one faces))))

-- and back
from_closed : (faces : List Polygon) → is_closed faces ≡ true → IsClosed faces
unfolding is_closed
from_closed faces h =
    let a = and_parts _ _ h in
    let b = and_parts _ _ a.1 in
    let c = and_parts _ _ b.1 in
    let d = and_parts _ _ c.1 in
    let e = and_parts _ _ d.1 in
    record {
      polygons = All-passing is_polygon IsPolygon from_polygon faces a.0;
      numbers = b.0;
      once = c.0;
      opposite = d.0;
      in_two = e.0;
      apart = e.1;
    }

-- by computing, for 256 regular cells
regular_pass : all_regular (λ signs. is_closed) ≡ true
unfolding all_regular is_closed is_polygon copied
regular_pass = refl

-- the faces of each regular cell are closed, by a test of all sign numbers
pub regular_closed : (signs : ℕ) → signs < 256 → IsClosed (regular_faces signs)
regular_closed signs lt =
    from_closed (regular_faces signs) (at_regular (λ signs. is_closed) regular_pass signs lt)

-- by computing, for 512 transition cells in two turns
transition_pass : all_transition (λ signs. is_closed) ≡ true
unfolding all_transition is_closed is_polygon copied
transition_pass = refl

-- the faces of each transition cell are closed, by a test of all sign numbers in both turns
pub transition_closed : (face : Face) (signs : ℕ) → signs < 512
    → IsClosed (transition_faces face signs)
transition_closed face signs lt = from_closed (transition_faces face signs)
    (at_transition (λ signs. is_closed) transition_pass face signs lt)
