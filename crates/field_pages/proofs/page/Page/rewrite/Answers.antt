-- A row more has what the rule gives, and a page in which nothing changed is the old one.
use Rattle.std.proofs.lemmas.Bool.{iff_false}
use Rattle.std.proofs.lemmas.List.{take_at}
use Rattle.std.proofs.Common.{arith, ℕ, ◌≤◌, ◌+◌, ◌-◌, ◌/◌, ◌%◌, drop, ◌≡◌, ◌∙◌, ◌<◌, ap, sym, get_or, length, subst}
use Rattle.lattice.specs.declared.point.Point.{Point}
use Rattle.lattice.specs.declared.point.Axis.TheVariants.{X}
use Rattle.terrain.specs.Samples.{IsSample}
use Rattle.lattice.specs.Point.{moved}
use Rattle.terrain.specs.declared.brush.TheConstants.{MAX_SAMPLE}
use Rattle.field_pages.specs.declared.page.TheConstants.{COUNT, SIDE}
use Rattle.field_pages.specs.Even.{IsWorldPlace}
use Rattle.field_pages.specs.Places.{IsInPage, index_in_page, page_at}
use Rattle.field_pages.specs.Changes.{Changes, Makes}
use Rattle.lattice.specs.Region.{IsWithin}
use Rattle.field_pages.proofs.ChangesBefore.{ChangesBefore, ChangesBefore-row, order, ChangesBefore-start, ChangesBefore-move, Changes-from}
use Rattle.field_pages.proofs.page.Page.rewrite.Goals as goal

pub loop-z-init : goal.loop-z-init
loop-z-init g c =
    let same : c.in_ok-samples.samples.items ≡ c.args.self.now = c.in_ok-samples.ensures.value in
    let long : length c.in_ok-samples.samples.items ≡ COUNT = c.in_ok-samples.ensures.len in
    ChangesBefore-start c.args.region (Makes (g.R.Rule.gives c.args.rule.now)) c.args.corner
    (order (record { z = c.max-low.result; y = c.args.corner.y; x = c.args.corner.x }))
    c.args.self.now
    c.in_ok-samples.samples.items long same (λ p p_in p_within. omega arith)

pub loop-y-init : goal.loop-y-init
loop-y-init g c =
    ChangesBefore-move _ _ _ _ _ _ _ (λ p p_in p_within before. omega arith)
    (λ p p_in p_within after. omega arith) c.loop-z.invariant

pub revise_row-requires-clause-samples : goal.revise_row-requires-clause-samples
revise_row-requires-clause-samples g c t t_in =
    let q : Point = record { z = c.loop-z.z; y = c.loop-y.y; x = c.max-x.result + t } in
    let q_in : IsInPage c.args.corner q = record {
      z = omega arith;
      z_end = omega arith;
      y = omega arith;
      y_end = omega arith;
      x = omega arith;
      x_end = omega arith;
    } in
    let kept = ap (λ items. page_at items q) c.deref_mut.ensures.value
    ∙ c.loop-y.invariant.kept q q_in (λ w. omega arith) in
    subst IsSample (sym kept) (c.requires.samples q q_in)

pub loop-y-preserved : goal.loop-y-preserved
loop-y-preserved g c =
    let corner = c.args.corner in
    let from : Point = record { z = c.loop-z.z; y = c.loop-y.y; x = c.max-x.result } in
    let count : ℕ = c.min.result - c.max-x.result in
    let from_in : IsInPage corner from = record {
      z = omega arith;
      z_end = omega arith;
      y = omega arith;
      y_end = omega arith;
      x = omega arith;
      x_end = omega arith;
    } in
    let items = c.deref_mut.result.now in
    let new = c.revise_row.new.samples in
    let same_length : length new ≡ length items = omega arith in
    let items_is : items ≡ c.loop-y.samples.items = c.deref_mut.ensures.value in
    let in_row : (p : Point) → IsInPage corner p → IsWithin c.args.region p → p.z ≡ from.z
    → p.y ≡ from.y → (from.x ≤ p.x) × (p.x < from.x + count) =
    λ p p_in p_within z y. (omega arith, omega arith) in
    let within : (t : ℕ) → t < count → IsWithin c.args.region (moved X t from) = λ t t_in.
    record {
      z = omega arith;
      z_end = omega arith;
      y = omega arith;
      y_end = omega arith;
      x = omega arith;
      x_end = omega arith;
    }
    in
    let start = ChangesBefore-move c.args.region (Makes (g.R.Rule.gives c.args.rule.now)) corner
    (order (record { z = c.loop-z.z; y = c.loop-y.y; x = corner.x })) (order from)
    c.args.self.now c.loop-y.samples.items
    (λ p p_in p_within before. omega arith) (λ p p_in p_within after. omega arith)
    c.loop-y.invariant in
    let row = ChangesBefore-row c.args.region (Makes (g.R.Rule.gives c.args.rule.now))
    corner from count c.args.self.now items new
    c.requires.corner from_in (omega arith)
    same_length in_row c.revise_row.ensures.changed c.revise_row.ensures.kept within
    (subst (λ l. ChangesBefore c.args.region (Makes (g.R.Rule.gives c.args.rule.now)) corner
    (order from) c.args.self.now l) (sym items_is) start) in
    let next = ChangesBefore-move c.args.region (Makes (g.R.Rule.gives c.args.rule.now)) corner
    (order from + count) (order (record { z = c.loop-z.z; y = c.loop-y.y + 1; x = corner.x }))
    c.args.self.now new (λ p p_in p_within before. omega arith)
    (λ p p_in p_within after. omega arith) row in
    let whole = take_at new (drop (length new) c.loop-y.samples.items) c.loop-y.samples.len
    (same_length ∙ c.deref_mut.ensures.len) in
    subst (λ l. ChangesBefore c.args.region (Makes (g.R.Rule.gives c.args.rule.now)) corner
    (order (record { z = c.loop-z.z; y = c.loop-y.y + 1; x = corner.x })) c.args.self.now l)
    (sym whole) next

pub loop-z-preserved : goal.loop-z-preserved
loop-z-preserved g c =
    ChangesBefore-move _ _ _ _ _ _ _ (λ p p_in p_within before. omega arith)
    (λ p p_in p_within after. omega arith) c.loop-y.invariant

pub has-requires-clause-planes : goal.has-requires-clause-planes
has-requires-clause-planes g c = (omega arith, omega arith)

-- off the region's planes nothing has changed
pub has-requires-clause-others : goal.has-requires-clause-others
has-requires-clause-others g c k k_in off =
    let corner = c.args.corner in
    let q : Point = record {
      z = corner.z + k / 256;
      y = corner.y + k / SIDE % SIDE;
      x = corner.x + k % SIDE;
    } in
    let q_in : IsInPage corner q = record {
      z = omega arith;
      z_end = omega arith;
      y = omega arith;
      y_end = omega arith;
      x = omega arith;
      x_end = omega arith;
    } in
    let at = c.requires.corner in
    let index : index_in_page q ≡ k = omega (arith, at.z, at.y, at.x, k_in) in
    let changes = Changes-from c.args.region (Makes (g.R.Rule.gives c.args.rule.now)) corner
    (order (record { z = c.loop-z.z; y = corner.y; x = corner.x })) c.args.self.now
    c.loop-z.samples.items (λ p p_in p_within. omega arith) c.loop-z.invariant in
    ap (λ l. get_or l k MAX_SAMPLE) c.deref.ensures.value
    ∙ ap (λ n. get_or c.loop-z.samples.items n MAX_SAMPLE) (sym index)
    ∙ changes.kept q q_in (λ within. off (omega arith) (omega arith))
    ∙ ap (λ n. get_or c.args.self.now n MAX_SAMPLE) index

-- past the world's end nothing has changed
pub of-requires-clause-padding : goal.of-requires-clause-padding
of-requires-clause-padding g c k k_in past =
    let corner = c.args.corner in
    let q : Point = record {
      z = corner.z + k / 256;
      y = corner.y + k / SIDE % SIDE;
      x = corner.x + k % SIDE;
    } in
    let q_in : IsInPage corner q = record {
      z = omega arith;
      z_end = omega arith;
      y = omega arith;
      y_end = omega arith;
      x = omega arith;
      x_end = omega arith;
    } in
    let at = c.requires.corner in
    let index : index_in_page q ≡ k = omega (arith, at.z, at.y, at.x, k_in) in
    let told = c.requires.padding q q_in
    (λ inside. past (subst (IsWorldPlace c.args.extent) index inside)) in
    let changes = Changes-from c.args.region (Makes (g.R.Rule.gives c.args.rule.now)) corner
    (order (record { z = c.loop-z.z; y = corner.y; x = corner.x })) c.args.self.now
    c.loop-z.samples.items (λ p p_in p_within. omega arith) c.loop-z.invariant in
    ap (λ n. get_or c.loop-z.samples.items n MAX_SAMPLE) (sym index)
    ∙ changes.kept q q_in told.1 ∙ told.0

pub returns-clause-changes : goal.returns-clause-changes
returns-clause-changes g c =
    let changes = Changes-from c.args.region (Makes (g.R.Rule.gives c.args.rule.now)) c.args.corner
    (order (record { z = c.loop-z.z; y = c.args.corner.y; x = c.args.corner.x })) c.args.self.now
    c.loop-z.samples.items (λ p p_in p_within. omega arith) c.loop-z.invariant in
    subst (λ l. Changes c.args.region (Makes (g.R.Rule.gives c.args.rule.now))
    (IsInPage c.args.corner) (page_at c.args.self.now) (page_at l)) (sym c.in_ok-of.ensures) changes

-- a sample has changed there
pub returns-clause-differs : goal.returns-clause-differs
returns-clause-differs g c = λ same.
    iff_false c.has.ensures c.if-has.false
    (c.deref.ensures.value ∙ sym c.in_ok-of.ensures ∙ same)

-- the page is the old one where no sample has changed
pub returns-then-has-clause-changes : goal.returns-then-has-clause-changes
returns-then-has-clause-changes g c =
    let changes = Changes-from c.args.region (Makes (g.R.Rule.gives c.args.rule.now)) c.args.corner
    (order (record { z = c.loop-z.z; y = c.args.corner.y; x = c.args.corner.x })) c.args.self.now
    c.loop-z.samples.items (λ p p_in p_within. omega arith) c.loop-z.invariant in
    let items_is : c.loop-z.samples.items ≡ c.args.self.now =
    sym c.deref.ensures.value ∙ c.has.ensures.0 c.if-has.true in
    subst (λ l. Changes c.args.region (Makes (g.R.Rule.gives c.args.rule.now))
    (IsInPage c.args.corner) (page_at c.args.self.now) (page_at l)) items_is changes
