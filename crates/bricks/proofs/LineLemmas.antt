-- Runs of a page's row: how the samples of a line along x are read page by page.
--
-- For `line.rt`. A run is what a line and one page have in common: its last place lies in the page's row (`step-le`),
-- and its samples are those of the line's next points (`run-samples`).
use Rattle.std.proofs.Common.{◌≡◌, ℕ, ◌+◌, ◌*◌, ◌-◌, ◌/◌, ◌%◌, ◌^◌, ◌<◌, ℤ, pos, ◌≤◌, List, length, take, drop, get_or, sym, ap, ◌∙◌, arith}
use Rattle.std.proofs.Math.Nat.{mul-le-mul_left}
use Rattle.std.proofs.lemmas.List.{get_or-drop, get_or-take, length-drop, length-take-le}
use Rattle.lattice.specs.declared.point.Point.{Point}
use Rattle.terrain.specs.Samples.{Field}
use Rattle.lattice.specs.declared.point.Axis.TheVariants.{X}
use Rattle.lattice.specs.Point.{coordinate, moved}
use Rattle.bricks.specs.declared.line.Line.{Line}
use Rattle.bricks.specs.Line.{IsLine, line_point}

-- a place before the last is no further
pub step-le : (most from stride run place : ℕ) → from + stride * (run - 1) < most → place < run
    → from + stride * place < most
step-le most from stride run place within before =
    let last : place ≤ run - 1 = omega arith in
    omega (arith, mul-le-mul_left stride last)

-- a point's coordinate along its line
pub along-fits : (line : Line) (depth : ℕ) → IsLine depth line → (place : ℕ) → place ≤ line.count
    → coordinate line.axis line.from + line.stride * place < 2 ^ 32
along-fits line depth is place within =
    omega (arith, is.fits, mul-le-mul_left line.stride within)

-- a line along x goes on from an x
pub line_x : (line : Line) → line.axis ≡ X → coordinate line.axis line.from ≡ line.from.x
line_x line is = ap (λ axis. coordinate axis line.from) is

-- its points
pub line_point-x : (line : Line) → line.axis ≡ X → (place : ℕ)
    → line_point line place ≡ moved X (line.stride * place) line.from
line_point-x line is place = ap (λ axis. moved axis (line.stride * place) line.from) is

-- the samples of a run of a page's row are those of the line's next points
pub run-samples : (s : Field) (line : Line) (place run : ℕ) (row : List ℤ) → line.axis ≡ X
    → ((t : ℕ) (d : ℤ) → t < 16 → get_or row t d
    ≡ s (record {
      z = line.from.z;
      y = line.from.y;
      x = 16 * ((line.from.x + line.stride * place) / 16) + t;
    }))
    → (line.from.x + line.stride * place) % 16 + line.stride * (run - 1) < 16
    → (k : ℕ) → k < run
    → get_or row ((line.from.x + line.stride * place) % 16 + line.stride * k) (pos 0)
    ≡ s (line_point line (place + k))
run-samples s line place run row axis samples within k k_in =
    let x : ℕ = line.from.x + line.stride * place in
    let at : ℕ = x % 16 + line.stride * k in
    let here : 16 * (x / 16) + at ≡ line.from.x + line.stride * (place + k) = omega arith in
    let point : ℕ → Point = λ n. record { z = line.from.z; y = line.from.y; x = n } in
    samples at (pos 0) (step-le 16 (x % 16) line.stride run k within k_in)
    ∙ ap (λ n. s (point n)) here ∙ ap s (sym (line_point-x line axis (place + k)))

-- a run of a list
pub same_run : {A : Type 0} (xs : List A) (place run k : ℕ) (d : A) → k < run
    → get_or (take (place + run - place) (drop place xs)) k d ≡ get_or xs (place + k) d
same_run xs place run k d k_in =
    let count : place + run - place ≡ run = omega arith in
    ap (λ n. get_or (take n (drop place xs)) k d) count
    ∙ get_or-take run (drop place xs) k d k_in ∙ get_or-drop place xs k d

-- a run of items has its length
pub length-run : {A : Type 0} (xs : List A) (place run : ℕ) → place + run ≤ length xs
    → length (take (place + run - place) (drop place xs)) ≡ run
length-run xs place run within =
    let count : place + run - place ≡ run = omega arith in
    ap (λ n. length (take n (drop place xs))) count
    ∙ length-take-le run (drop place xs) (omega (arith, length-drop place xs))
