-- What the rows round a point say of it.
use Rattle.std.proofs.Common.{◌≡◌, ℕ, ◌+◌, ◌*◌, ◌/◌, ◌%◌, ◌<◌, List, ℤ, pos, get_or, refl, ◌∙◌, arith, w8, to_z, of_z}
use Rattle.lattice.specs.declared.point.Point.{Point}
use Rattle.field_pages.specs.declared.page.TheConstants.{SIDE}
use Rattle.field_pages.specs.Pages.{Pages, sample_at}
use Rattle.brushes.specs.Rows.{IsRowOf}
use Rattle.brushes.specs.Around.{AreRowsAround}
use Rattle.brushes.proofs.ShapeLemmas.{sample_is}
use Rattle.brushes.specs.declared.smoothing.Around.{Around}

-- the item of a point's row at its place is its sample
pub item_of : (pages : Pages) (p : Point) (row : List ℤ) (k : ℕ) → k ≡ p.x % SIDE
    → IsRowOf pages p row → to_z w8 (of_z w8 (get_or row k (pos 0))) ≡ sample_at pages p
item_of pages p row k k_is is_row =
    let within : k < SIDE = omega arith in
    let x_is : SIDE * (p.x / SIDE) + k ≡ p.x = omega arith in
    sample_is (get_or row k (pos 0)) (is_row.range k (pos 0) within)
    ∙ is_row.samples k (pos 0) within
    ∙ (λ i. sample_at pages (record { z = p.z; y = p.y; x = x_is i }))

-- a row has other points along x
IsRowOf-along : (pages : Pages) (p q : Point) (row : List ℤ) → p.z ≡ q.z → p.y ≡ q.y
    → p.x / SIDE ≡ q.x / SIDE → IsRowOf pages p row → IsRowOf pages q row
IsRowOf-along pages p q row z y x is_row = record {
  len = is_row.len;
  samples = λ t d within. is_row.samples t d within
      ∙ (λ i. sample_at pages (record { z = z i; y = y i; x = SIDE * x i + t }));
  range = is_row.range;
}

-- and so have the rows round a point
pub AreRowsAround-at : (pages : Pages) (p : Point) (x : ℕ) (around : Around)
    → p.x / SIDE ≡ x / SIDE → AreRowsAround pages p around
    → AreRowsAround pages (record p { x = x }) around
AreRowsAround-at pages p x around same are = record {
  here = IsRowOf-along pages _ _ around.here.now refl refl same are.here;
  y_low = IsRowOf-along pages _ _ around.y_low.now refl refl same are.y_low;
  y_high = IsRowOf-along pages _ _ around.y_high.now refl refl same are.y_high;
  z_low = IsRowOf-along pages _ _ around.z_low.now refl refl same are.z_low;
  z_high = IsRowOf-along pages _ _ around.z_high.now refl refl same are.z_high;
}
