-- The items of a page's part are the samples of a row.
use Rattle.std.proofs.Common.{List, arith, ◌≡◌, ◌≤◌, ◌-◌, ℕ, ◌+◌, ◌%◌, ◌<◌, ℤ, length, get_or, take, drop, ap, sym, ◌∙◌, subst}
use borrow.Rule.Slice.PartMut.{put_mid}
use Rattle.lattice.specs.declared.point.Point.{Point}
use Rattle.lattice.specs.declared.point.Axis.TheVariants.{X}
use Rattle.terrain.specs.declared.brush.TheConstants.{MAX_SAMPLE}
use Rattle.terrain.specs.Samples.{IsSample}
use Rattle.lattice.specs.Point.{moved}
use Rattle.field_pages.specs.declared.page.TheConstants.{SIDE, COUNT}
use Rattle.field_pages.specs.Places.{page_at, index_in_page}
use Rattle.field_pages.specs.Changes.{Makes}
use Rattle.field_pages.proofs.SliceLemmas.{get_or-put_mid, get_or-put_mid_off, get_or-part, length-part, index_in_page-moved}
use Rattle.field_pages.proofs.page.revise_row.Goals as goal

-- a row is not past its page
row_fits : (p : Point) (count : ℕ) → p.x % SIDE + count ≤ SIDE → index_in_page p + count ≤ COUNT
row_fits p count fits = omega arith

-- the item of a row at a point's index
at_index : (items : List ℤ) (p : Point) (start t : ℕ) → start ≡ index_in_page p
    → p.x % SIDE + t < SIDE → get_or items (start + t) MAX_SAMPLE ≡ page_at items (moved X t p)
at_index items p start t start_is fits =
    ap (λ n. get_or items n MAX_SAMPLE)
    (ap (λ a. a + t) start_is ∙ sym (index_in_page-moved p t fits))

pub apply-requires-clause-in_page : goal.apply-requires-clause-in_page
apply-requires-clause-in_page g c =
    let start = c.index_in_page-start.result in
    let fits = row_fits c.args.from c.args.count c.requires.in_page in
    let n_is : (start + c.args.count) - start ≡ c.args.count = omega arith in
    let long = length-part start c.args.count ((start + c.args.count) - start)
    c.args.samples.now n_is
    (omega (arith, fits, c.index_in_page-start.ensures.value, c.requires.page))
    in
    omega (arith, long)

pub apply-requires-clause-points : goal.apply-requires-clause-points
apply-requires-clause-points g c t t_in =
    let start = c.index_in_page-start.result in
    let fits = row_fits c.args.from c.args.count c.requires.in_page in
    let n_is : (start + c.args.count) - start ≡ c.args.count = omega arith in
    let long = length-part start c.args.count ((start + c.args.count) - start)
    c.args.samples.now n_is
    (omega (arith, fits, c.index_in_page-start.ensures.value, c.requires.page))
    in
    c.requires.points t (omega (arith, long, t_in))

pub apply-requires-clause-samples : goal.apply-requires-clause-samples
apply-requires-clause-samples g c t t_in =
    let start = c.index_in_page-start.result in
    let fits = row_fits c.args.from c.args.count c.requires.in_page in
    let n_is : (start + c.args.count) - start ≡ c.args.count = omega arith in
    let long = length-part start c.args.count ((start + c.args.count) - start)
    c.args.samples.now n_is
    (omega (arith, fits, c.index_in_page-start.ensures.value, c.requires.page))
    in
    let t_below : t < c.args.count = omega (arith, long, t_in) in
    let item = get_or-part start c.args.count ((start + c.args.count) - start)
    t c.args.samples.now MAX_SAMPLE t_below n_is
    ∙ at_index c.args.samples.now c.args.from start t c.index_in_page-start.ensures.value
    (omega (arith, c.requires.in_page)) in
    subst IsSample (sym item) (c.requires.samples t t_below)

pub returns : goal.returns
returns g c =
    let start = c.index_in_page-start.result in
    let old = c.args.samples.now in
    let count = c.args.count in
    let n = (start + count) - start in
    let new = c.apply.new.row in
    let start_is = c.index_in_page-start.ensures.value in
    let in_page = c.requires.in_page in
    let fits : start + count ≤ length old =
    omega (arith, row_fits c.args.from count in_page, start_is, c.requires.page) in
    let n_is : n ≡ count = omega arith in
    let long = length-part start count n old n_is fits in
    let new_long : length new ≡ n = omega (arith, c.apply.auto.row, long) in
    let n_fits : start + n ≤ length old = omega arith in
    record {
      changed = λ t t_in.
          let in_part : t < length (take n (drop start old)) = omega arith in
          let in_row : t < n = omega arith in
          let t_fits : c.args.from.x % SIDE + t < SIDE = omega arith in
          let old_is = get_or-part start count n t old MAX_SAMPLE t_in n_is
          ∙ at_index old c.args.from start t start_is t_fits in
          let new_is = sym (get_or-put_mid start n t old new MAX_SAMPLE new_long n_fits in_row)
          ∙ at_index (put_mid start n old new) c.args.from start t start_is t_fits in
          subst (λ r. Makes (g.R.Rule.gives c.args.rule.now) (moved X t c.args.from)
          (page_at old (moved X t c.args.from)) r) new_is
          (subst (λ s. Makes (g.R.Rule.gives c.args.rule.now) (moved X t c.args.from) s
          (get_or new t MAX_SAMPLE)) old_is (c.apply.ensures t in_part));
      kept = λ k d off. get_or-put_mid_off start n k old new d new_long n_fits
          (λ after before. off (omega arith) (omega arith));
    }
