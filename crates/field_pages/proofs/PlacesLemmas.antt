-- In which page and layer a point lies, and which pages a box meets: an edit goes through the numbers of the pages from
-- that of the box's low corner to that of its high one.
-- A page's number in its layer is counted by rows. A point lies in the page of its number, and in no other (in_page,
-- page_number_is); the points of the pages make up the layer (in_layer). Numbers grow with the coordinates, so the
-- pages of a box have numbers between those of its corners (page_number_most, page_number_within), and a page that
-- doesn't meet the box has no point of it (no_points).
use Rattle.std.proofs.Common.{◌≡◌, ℕ, zero, suc, ◌+◌, ◌*◌, ◌/◌, ◌%◌, ◌<◌, ◌≤◌, ◌∙◌, arith}
use Rattle.std.proofs.lemmas.Nat.{div-mul-add, mod-mul-add, mod_below, div_below, div-add-mod'}
use Rattle.std.proofs.Math.Nat.{mul-le-mul_right}
use Rattle.lattice.specs.declared.point.Point.{Point}
use Rattle.lattice.specs.declared.region.Region.{Region}
use Rattle.field_pages.specs.declared.page.TheConstants.{SIDE}
use Rattle.field_pages.specs.Places.{IsBox, IsInLayer, IsInPage, IsPoint, MeetsPage, page_number}
use Rattle.lattice.specs.Region.{IsWithin}

-- the low corner of the page of this number
abbrev pub corner_of : ℕ → ℕ → ℕ → Point
corner_of across low k = record { z = low; y = k / across * SIDE; x = k % across * SIDE }

-- a point of a layer lies in the page of its number
pub in_page : (across low : ℕ) (p : Point) → IsInLayer across low p
    → IsInPage (corner_of across low (page_number across p)) p
in_page across low p p_in =
    let column : p.x / SIDE < across = omega arith in
    let y = div-mul-add (p.y / SIDE) across (p.x / SIDE) column in
    let x = mod-mul-add (p.y / SIDE) across (p.x / SIDE) column in
    record {
      z = p_in.z;
      z_end = p_in.z_end;
      y = omega (arith, y);
      y_end = omega (arith, y);
      x = omega (arith, x);
      x_end = omega (arith, x);
    }

-- a page that doesn't meet a box has no point of it
pub no_points : (corner : Point) (box : Region) → (MeetsPage corner box → ⊥) → (p : Point)
    → IsInPage corner p → IsWithin box p → ⊥
no_points corner box apart p p_in within =
    apart (record {
      z = omega arith;
      z_end = omega arith;
      y = omega arith;
      y_end = omega arith;
      x = omega arith;
      x_end = omega arith;
    })

-- a point of a layer that lies in a page lies in the page of that number
pub page_number_is : (across low n : ℕ) (p : Point) → p.y < SIDE * across
    → IsInPage (corner_of across low n) p → page_number across p ≡ n
page_number_is across low n p y_end p_in =
    let some : 0 < across = omega arith in
    let column : n % across < across = mod_below n across some in
    let whole : n / across * across + n % across ≡ n = div-add-mod' n across in
    let y : p.y / SIDE ≡ n / across = omega arith in
    let x : p.x / SIDE ≡ n % across = omega arith in
    (λ i. y i * across + x i) ∙ whole

-- where a number is below a square, the square's root isn't 0
positive : (a k : ℕ) → k < a * a → 0 < a
positive zero k within = absurd (omega arith)
positive (suc a) k within = omega arith

-- a point of one of the layer's pages lies in the layer
pub in_layer : (across low n : ℕ) (p : Point) → n < across * across
    → IsInPage (corner_of across low n) p → IsInLayer across low p
in_layer across low n p n_in p_in =
    let some : 0 < across = positive across n n_in in
    let column : n % across < across = mod_below n across some in
    let row : n / across < across = div_below n across across some n_in in
    record { z = p_in.z; z_end = p_in.z_end; y_end = omega arith; x_end = omega arith }

-- the pages' numbers are in the order of their corners
pub page_number_most : (across : ℕ) (p q : Point) → p.y ≤ q.y → p.x ≤ q.x
    → page_number across p ≤ page_number across q
page_number_most across p q y x =
    let rows : p.y / SIDE ≤ q.y / SIDE = omega arith in
    omega (arith, mul-le-mul_right across rows)

-- the pages of a box have numbers from that of its low corner to that of its high corner
pub page_number_within : (across low n : ℕ) (box : Region) (p : Point) → IsBox across box
    → IsInPage (corner_of across low n) p → IsWithin box p
    → (page_number across box.lo ≤ n) × (n ≤ page_number across box.hi)
page_number_within across low n box p of_pages p_in within =
    let high = of_pages.high in
    let y_end : p.y < SIDE * across = omega arith in
    let n_is = page_number_is across low n p y_end p_in in
    let least = page_number_most across box.lo p within.y within.x in
    let most = page_number_most across p box.hi within.y_end within.x_end in
    (omega (arith, n_is, least), omega (arith, n_is, most))

-- the high corner of a box that isn't empty lies in it
pub last_within : (box : Region) → IsWithin box box.lo → IsWithin box box.hi
last_within box some = record {
  z = omega (arith, some.z_end);
  z_end = omega arith;
  y = omega (arith, some.y_end);
  y_end = omega arith;
  x = omega (arith, some.x_end);
  x_end = omega arith;
}

-- a point of a box of points of the world is one
pub point_in : (across : ℕ) (p : Point) (box : Region) → IsWithin box p → IsPoint across box.hi
    → IsPoint across p
point_in across p box within high = record {
  z_end = omega (arith, within.z_end, high.z_end);
  y_end = omega (arith, within.y_end, high.y_end);
  x_end = omega (arith, within.x_end, high.x_end);
}
