-- Two cells on one square see it with opposite turns. For the laws `curves_between_regular_cells`,
-- `curves_on_coarse_squares` and `curves_on_fine_squares` (docs/rules.md, "What fits together").
--
-- Both have the curves of the square's four samples, each in its own turn (`SquareFaces`), and where the turns are
-- opposite the lists are each other's reverses (`reverses-across` of `SquareCurves`). What is to be shown is that they
-- mean the same square, and that the turns are opposite, by cases on the face.
use Rattle.std.proofs.Common.{◌≡◌, ℕ, ◌-◌, ◌^◌, ◌<◌, ◌≤◌, true, false, not, subst}
use Rattle.lattice.specs.declared.point.Point.{Point}
use Rattle.lattice.specs.declared.point.Axis.{Axis}
use Rattle.lattice.specs.declared.point.Axis.TheVariants.{X, Y, Z}
use Rattle.lattice.specs.declared.point.Face.{Face}
use Rattle.lattice.specs.declared.point.Face.TheVariants.{XLow, XHigh, YLow, YHigh, ZLow, ZHigh}
use Rattle.lattice.specs.Point.{moved}
use Rattle.terrain.specs.Samples.{Field}
use Rattle.terrain.specs.Cells.{is_straight, fine_point}
use Rattle.cell_laws.specs.Squares.{AreReverses, AreInTurn, regular_square, coarse_square, fine_square, fine_corner, low_face, high_face, opposite, corner_on, square_curves}
use Rattle.cell_laws.proofs.SquareCurves.{reverses-across, reverses-back}
use Rattle.cell_laws.proofs.SquareFaces.{moved-zero, regular-square, coarse-square, fine-square}

-- the square on a low face of a cell lies at the cell's low corner
low-square : (s : Field) (level : ℕ) (axis : Axis) (low : Point)
    → AreInTurn (is_straight (low_face axis)) (regular_square s level (low_face axis) low)
    (square_curves s level (low_face axis) low)
low-square s level X low = let P : Point → Type 0 =
    λ at. AreInTurn false (regular_square s level XLow low) (square_curves s level XLow at) in
    subst P (moved-zero X low) (regular-square s level XLow low)
low-square s level Y low = let P : Point → Type 0 =
    λ at. AreInTurn true (regular_square s level YLow low) (square_curves s level YLow at) in
    subst P (moved-zero Y low) (regular-square s level YLow low)
low-square s level Z low = let P : Point → Type 0 =
    λ at. AreInTurn false (regular_square s level ZLow low) (square_curves s level ZLow at) in
    subst P (moved-zero Z low) (regular-square s level ZLow low)

-- two regular cells side by side see the square between them with opposite turns
pub between-regular : (s : Field) (level : ℕ) (axis : Axis) (low : Point)
    → AreReverses (regular_square s level (high_face axis) low)
    (regular_square s level (low_face axis) (moved axis (2 ^ level) low))
between-regular s level X low = reverses-across true (regular_square s level XHigh low)
    (regular_square s level XLow (moved X (2 ^ level) low))
    (square_curves s level XHigh (moved X (2 ^ level) low)) (regular-square s level XHigh low)
    (low-square s level X (moved X (2 ^ level) low))
between-regular s level Y low = reverses-across false (regular_square s level YHigh low)
    (regular_square s level YLow (moved Y (2 ^ level) low))
    (square_curves s level YHigh (moved Y (2 ^ level) low)) (regular-square s level YHigh low)
    (low-square s level Y (moved Y (2 ^ level) low))
between-regular s level Z low = reverses-across true (regular_square s level ZHigh low)
    (regular_square s level ZLow (moved Z (2 ^ level) low))
    (square_curves s level ZHigh (moved Z (2 ^ level) low)) (regular-square s level ZHigh low)
    (low-square s level Z (moved Z (2 ^ level) low))

-- a coarse square has the opposite turn of the regular cell there
pub on-coarse : (s : Field) (level : ℕ) (face : Face) (low : Point) → 1 ≤ level
    → AreReverses (coarse_square s level face (corner_on level face low))
    (regular_square s level face low)
on-coarse s level face low some =
    let at = corner_on level face low in
    reverses-back (is_straight face) (coarse_square s level face at)
    (regular_square s level face low) (square_curves s level face at)
    (coarse-square s level face at some) (regular-square s level face low)

-- the square on the face of a cell on the other side
opposite-square : (s : Field) (level : ℕ) (face : Face) (low : Point)
    → AreInTurn (not (is_straight face)) (regular_square s level (opposite face) low)
    (square_curves s level face (corner_on level (opposite face) low))
opposite-square s level XLow low = regular-square s level XHigh low
opposite-square s level XHigh low = regular-square s level XLow low
opposite-square s level YLow low = regular-square s level YHigh low
opposite-square s level YHigh low = regular-square s level YLow low
opposite-square s level ZLow low = regular-square s level ZHigh low
opposite-square s level ZHigh low = regular-square s level ZLow low

-- a fine square has the opposite turn of the regular cell of the level below there
pub on-fine : (s : Field) (level : ℕ) (face : Face) (low cell : Point) (place : ℕ) → place < 4
    → corner_on (level - 1) (opposite face) cell ≡ fine_point level face low (fine_corner place)
    → AreReverses (fine_square s level face low place)
    (regular_square s (level - 1) (opposite face) cell)
on-fine s level face low cell place lt at =
    let P : Point → Type 0 = λ q. AreInTurn (not (is_straight face))
    (regular_square s (level - 1) (opposite face) cell) (square_curves s (level - 1) face q) in
    reverses-across (is_straight face) (fine_square s level face low place)
    (regular_square s (level - 1) (opposite face) cell)
    (square_curves s (level - 1) face (fine_point level face low (fine_corner place)))
    (fine-square s level face low place lt) (subst P at (opposite-square s (level - 1) face cell))
