-- Lines of a leaf's samples that are copied from a row of pages.
--
-- For `parts.rt`, from a whole row down to one run. The pages that a leaf meets on a row lie side by side, each with
-- `side` of its points, and the last one with a single point more (`part-fits`, `last-part`). Each page put into the
-- row keeps what holds of the others (`put-all`). The samples of a line of points, run by run, fill their piece of the
-- leaf's (`Fills-run`, `part-at`). Where each page has one row, the line of first rows is each line of the leaf
-- (`one-line`).
use Rattle.std.proofs.Common.{◌≡◌, ℕ, zero, suc, ◌+◌, ◌-◌, ◌*◌, ◌/◌, ◌%◌, ◌^◌, ◌<◌, ◌≤◌, inl, inr, true, List, [], ℤ, pos, length, get_or, map, set, refl, sym, ap, ◌∙◌, subst, arith}
use Rattle.std.specs.Prelude.{All, IsTrue}
use Rattle.std.proofs.Math.Nat.{div-add-mod, mod-lt, mul-add, mul-le-mul_left, mul_assoc, mul_comm}
use Rattle.std.proofs.lemmas.Bool.{cases_lt}
use Rattle.std.proofs.lemmas.Grind.{get_or-set_at}
use Rattle.std.proofs.lemmas.List.{get_or-map, get_or-set_other, get_or_default, length-set}
use Rattle.lattice.specs.declared.node.Node.{Node}
use Rattle.lattice.specs.declared.point.Point.{Point}
use Rattle.terrain.specs.declared.brush.TheConstants.{MAX_SAMPLE}
use Rattle.terrain.specs.Samples.{Field, IsSample}
use Rattle.field_pages.specs.declared.page_rows.PageRows.{PageRows}
use Rattle.field_pages.specs.PageRows.{IsStepped, has_steps, lent_samples}
use Rattle.bricks.specs.Slots.{point_slot}
use Rattle.lattice.specs.Steps.{point_at}
use Rattle.bricks.specs.Parts.{ArePages, AreStepped, Fills, HaveLine, HaveOneRow, HaveParts, HavePlane, IsLineAt, IsLineOf, IsPageBorder, KeepsOthers, page_samples, page_steps}
use Rattle.bricks.proofs.PartLemmas.{plane-of, step-before}

-- a page's part of a line ends before the line's last sample
pub part-fits : (stride side t : ℕ) → stride * side ≡ 16 → t < stride → side * t + side ≤ 16
part-fits stride side t whole t_in = step-before side stride t (mul_comm side stride ∙ whole) t_in

-- the last page of a row begins at the leaf's far edge
pub last-part : (stride side t : ℕ) → stride * side ≡ 16 → t ≡ stride → side * t ≡ 16
last-part stride side t whole t_is = ap (λ m. side * m) t_is ∙ mul_comm side stride ∙ whole

-- there are at most 8 pages but the last, where each of them has two points at least
pub stride-few : (stride side : ℕ) → stride * side ≡ 16 → 2 ≤ side → stride ≤ 8
stride-few stride side whole two = omega (arith, mul-le-mul_left stride two, whole)

-- each page of a row begins at a page's border
pub part-first : (level side t : ℕ) → 2 ^ level * side ≡ 16 → t ≤ 2 ^ level
    → IsPageBorder level (side * t)
part-first level side t whole t_in = record {
  few = omega (arith, mul-le-mul_left side t_in, mul_comm side (2 ^ level), whole);
  border = omega (arith, mul_assoc (2 ^ level) side t, ap (λ m. m * t) whole);
}

-- the samples of a page of a row
pub page_samples-at : (pages : List PageRows) (t : ℕ) (d : PageRows) → t < length pages
    → get_or (page_samples pages) t [] ≡ lent_samples (get_or pages t d)
page_samples-at pages t d t_in = get_or-map lent_samples pages t d [] t_in

-- what a page has that is put into a row
pub put-at : {B : Type 0} (f : PageRows → B) (e : B) (pages : List PageRows) (t : ℕ)
    (page : PageRows) → t < length pages → get_or (map f (set pages t page)) t e ≡ f page
put-at f e pages t page t_in =
    get_or-map f (set pages t page) t page e (omega (arith, t_in, length-set pages t page))
    ∙ ap f (get_or-set_at pages t t page page refl t_in)

-- and what the other pages of the row have
pub put-before : {B : Type 0} (f : PageRows → B) (e : B) (pages : List PageRows) (m t : ℕ)
    (page : PageRows) → t < length pages → t < m
    → get_or (map f (set pages m page)) t e ≡ get_or (map f pages) t e
put-before f e pages m t page t_in before =
    get_or-map f (set pages m page) t page e (omega (arith, t_in, length-set pages m page))
    ∙ ap f (get_or-set_other pages m t page page (λ same. omega (arith, same, before)))
    ∙ sym (get_or-map f pages t page e t_in)

-- what holds of the pages before, and of the one that is put, holds of them all
pub put-all : {B : Type 0} (f : PageRows → B) (e : B) (P : ℕ → B → Type 0) (pages : List PageRows)
    (m : ℕ) (page : PageRows) → m < length pages
    → ((t : ℕ) → t < m → P t (get_or (map f pages) t e)) → P m (f page)
    → (t : ℕ) → t < m + 1 → P t (get_or (map f (set pages m page)) t e)
put-all f e P pages m page m_in before here t t_in = elim (cases_lt t m) [
  | inl early ↦
      subst (P t) (sym (put-before f e pages m t page (omega (arith, early, m_in)) early))
      (before t early)
  | inr late ↦
      let t_is : m ≡ t = omega (arith, late, t_in) in
      subst (λ k. P k (get_or (map f (set pages m page)) k e)) t_is
      (subst (P m) (sym (put-at f e pages m page m_in)) here)
]

-- a page of a row whose pages lend their rows by steps
pub is-stepped : (pages : List PageRows) (last t : ℕ) (page : PageRows)
    → page ≡ get_or pages t page → t < length pages → t ≤ last
    → AreStepped last (page_steps pages) → IsStepped page
is-stepped pages last t page page_is t_in t_few steps =
    subst IsStepped (sym page_is)
    (subst IsTrue (get_or-map has_steps pages t page true t_in) (steps.each t t_few))

-- a list of samples is a row of a page, from a place on
pub record IsRowOf (page row : List ℤ) (from : ℕ) : Type 0 where
  pub range : All IsSample row
  pub same : (k : ℕ) → k < 16 → get_or row k (pos 0) ≡ get_or page (from + k) (pos 0)

-- so is the row that a page lends
pub row-of : (page row : List ℤ) (from : ℕ) → length page ≡ 4096 → All IsSample page
    → length row ≡ 16 → from + 16 ≤ 4096
    → ((k : ℕ) → k < 16 → get_or row k MAX_SAMPLE ≡ get_or page (from + k) MAX_SAMPLE)
    → IsRowOf page row from
row-of page row from page_long page_range long within samples = record {
  range = λ k d k_in.
      let k_few : k < 16 = omega (arith, k_in, long) in
      subst IsSample (sym (get_or_default row k d MAX_SAMPLE k_in ∙ samples k k_few))
      (page_range (from + k) MAX_SAMPLE (omega (arith, k_few, within, page_long)));
  same = λ k k_in.
      get_or_default row k (pos 0) MAX_SAMPLE (omega (arith, k_in, long))
      ∙ samples k k_in
      ∙ get_or_default page (from + k) MAX_SAMPLE (pos 0) (omega (arith, k_in, within, page_long));
}

-- and the row that a page of a row of pages lends
pub row-of_pages : (pages : List PageRows) (t from : ℕ) (page : PageRows) (row : List ℤ)
    → page ≡ get_or pages t page → t < length pages
    → length (get_or (page_samples pages) t []) ≡ 4096
    → All IsSample (get_or (page_samples pages) t []) → length row ≡ 16 → from + 16 ≤ 4096
    → ((k : ℕ) → k < 16
    → get_or row k MAX_SAMPLE ≡ get_or (lent_samples page) (from + k) MAX_SAMPLE)
    → IsRowOf (get_or (page_samples pages) t []) row from
row-of_pages pages t from page row page_is t_in page_long page_range long within samples =
    let lent : lent_samples page ≡ get_or (page_samples pages) t [] =
    ap lent_samples page_is ∙ sym (page_samples-at pages t page t_in) in
    row-of (get_or (page_samples pages) t []) row from page_long page_range long within
    (λ k k_in. samples k k_in ∙ ap (λ some. get_or some (from + k) MAX_SAMPLE) lent)

-- a run of a line is filled
pub Fills-run : (s : Field) (n : Node) (first : Point) (x width end to : ℕ) (now new : List ℤ)
    → end ≡ x + width → to ≡ (first.z * 17 + first.y) * 17 + x → x + width ≤ 17 → first.y < 17
    → ((k : ℕ) → k < width
    → get_or new (to + k) (pos 0) ≡ s (point_at n.level n (record first { x = x + k })))
    → KeepsOthers to width now new
    → Fills s n (record first { x = x })
    (record { z = first.z + 1; y = first.y + 1; x = end }) now new
Fills-run s n first x width end to now new end_is to_is fits y_in run others = record {
  long = others.long;
  here = λ p p_in box.
      let k : ℕ = p.x - x in
      let z_is : first.z ≡ p.z = omega (arith, box.z_low, box.z_high) in
      let y_is : first.y ≡ p.y = omega (arith, box.y_low, box.y_high) in
      let x_is : x + k ≡ p.x = omega (arith, box.x_low) in
      let slot : point_slot p ≡ to + k = omega (arith, to_is, z_is, y_is, x_is) in
      ap (λ m. get_or new m (pos 0)) slot ∙ run k (omega (arith, end_is, box.x_low, box.x_high))
      ∙ (λ i. s (point_at n.level n (record { z = z_is i; y = y_is i; x = x_is i })));
  others = λ p p_in none. others.each (point_slot p) (λ a b. none (record {
    z_low = omega (arith, a, b, end_is, to_is, fits, y_in, p_in.y, p_in.x);
    z_high = omega (arith, a, b, end_is, to_is, fits, y_in, p_in.y, p_in.x);
    y_low = omega (arith, a, b, end_is, to_is, fits, y_in, p_in.y, p_in.x);
    y_high = omega (arith, a, b, end_is, to_is, fits, y_in, p_in.y, p_in.x);
    x_low = omega (arith, a, b, end_is, to_is, fits, y_in, p_in.y, p_in.x);
    x_high = omega (arith, a, b, end_is, to_is, fits, y_in, p_in.y, p_in.x);
  }));
}

-- a line of a plane, as it is read
pub line-of : (s : Field) (n : Node) (stride side z y : ℕ) (pages : List (List ℤ))
    (from line start : ℕ) → HavePlane s n stride z y side pages from → line < side
    → start ≡ from + 16 * (stride * line) → HaveLine s n stride z (y + line) side pages start
line-of s n stride side z y pages from line start plane line_in start_is = record {
  each = λ t x t_in x_in.
      ap (λ m. get_or (get_or pages t []) (m + stride * x) (pos 0)) start_is
      ∙ (plane.each t t_in).each line x line_in x_in;
}

-- a plane of a row of parts, as it is read
pub planes-of : (s : Field) (n : Node) (stride side z y : ℕ) (pages : List (List ℤ))
    (plane from : ℕ) → 2 ^ n.level ≡ stride → HaveParts s n z y side pages → plane < side
    → from ≡ 256 * stride * plane → HavePlane s n stride (z + plane) y side pages from
planes-of s n stride side z y pages plane from level_is parts plane_in from_is = record {
  each = λ t t_in.
      plane-of s n stride side (record { z = z; y = y; x = side * t }) (get_or pages t []) plane
      from level_is (parts.each t (omega (arith, level_is, t_in))) plane_in from_is;
}

-- there is a step at least
pub stride-some : (stride side : ℕ) → stride * side ≡ 16 → 1 ≤ stride
stride-some zero side whole = absurd (omega (arith, whole))
stride-some (suc stride) side whole = omega arith

-- each point of a line is one of a page's, or the first of the last page's
pub part-at : (stride side x : ℕ) → stride * side ≡ 16 → 1 ≤ side → x ≤ 16
    → (x / side ≤ stride) × (x % side < side) × (side * (x / side) + x % side ≡ x)
part-at stride side x whole some x_in =
    let cut : side * (x / side) + x % side ≡ x = div-add-mod x side in
    let rest : x % side < side = mod-lt x (omega (arith, some)) in
    let few : x / side ≤ stride = elim (cases_lt stride (x / side)) [
      | inl more ↦
          let up : stride + 1 ≤ x / side = omega (arith, more) in
          absurd (omega (
            arith,
            cut,
            whole,
            mul-add side stride 1,
            mul_comm side stride,
            mul-le-mul_left side up,
            some,
            x_in,
          ))
      | inr within ↦ omega (arith, within)
    ] in
    (few, rest, cut)

-- where each page has one row, the first line has the samples of each line
pub one-line : (s : Field) (n : Node) (stride side z y : ℕ) (pages : List (List ℤ)) (from : ℕ)
    (line : List ℤ) → stride * side ≡ 16 → 1 ≤ side → ArePages stride pages
    → HaveOneRow stride pages → IsLineOf stride side pages 0 line 0 → from + 16 ≤ 4096
    → from % 16 ≡ 0 → HaveLine s n stride z y side pages from → IsLineAt s n z y line
one-line s n stride side z y pages from line whole some are one first fits rows have = record {
  each = λ x x_in.
      let at = part-at stride side x whole some x_in in
      let t : ℕ = x / side in
      let r : ℕ = x % side in
      let page : List ℤ = get_or pages t [] in
      let in_row : stride * r < 16 = omega (
        arith,
        step-before stride side r whole at.1,
        stride-some stride side whole,
      ) in
      let k : ℕ = from + stride * r in
      let k_in : k < 4096 = omega (arith, fits, in_row) in
      let k_is : k % 16 ≡ stride * r = omega (arith, in_row, rows) in
      let long = are.counts t at.0 in
      let place : 0 + side * t + r ≡ x = omega (arith, at.2) in
      let begin : 0 + stride * r ≡ stride * r = omega arith in
      ap (λ m. get_or line m (pos 0)) (sym place)
      ∙ first.each t r at.0 at.1 (omega (arith, at.2, x_in))
      ∙ ap (λ m. get_or page m (pos 0)) begin
      ∙ get_or_default page (stride * r) (pos 0) MAX_SAMPLE (omega (arith, in_row, long))
      ∙ ap (λ m. get_or page m MAX_SAMPLE) (sym k_is)
      ∙ sym (one.each t k at.0 k_in)
      ∙ get_or_default page k MAX_SAMPLE (pos 0) (omega (arith, k_in, long))
      ∙ have.each t r at.0 at.1
      ∙ ap (λ m. s (point_at n.level n (record { z = z; y = y; x = m }))) at.2;
}
