-- The samples are compared one after another.
use Rattle.std.proofs.Common.{◌≡◌, ℕ, ℤ, pos, get_or, refl, sym, ap, ◌∙◌, arith, rules, SFits, w8, to_z, of_z, below_more}
use Rattle.std.proofs.lemmas.Int.{to_z-of_z}
use Rattle.std.proofs.lemmas.Bool.{false≢true}
use Rattle.field_pages.specs.Pages.{sample_at}
use Rattle.bricks.specs.Line.{line_point}
use Rattle.lattice.proofs.RowLemmas.{singles_are, get_or-singles}
use Rattle.bricks.proofs.LineLemmas.{along-fits}
use Rattle.bricks.proofs.line.Line.has_samples.Goals as goal

pub overflow_mul-self : goal.overflow_mul-self
overflow_mul-self c =
    omega (
      arith,
      along-fits c.args.self.now c.args.version.now.depth c.requires.line c.loop-place.place
          (omega arith),
    )

pub moved-point-requires : goal.moved-point-requires
moved-point-requires c =
    along-fits c.args.self.now c.args.version.now.depth c.requires.line c.loop-place.place
    (omega arith)

pub returns-then-sample-samples : goal.returns-then-sample-samples
returns-then-sample-samples c =
    let f : ℕ → ℤ = λ k. sample_at c.args.version.now (line_point c.args.self.now k) in
    let place = c.loop-place.place in (
      (λ t. absurd (false≢true t)),
      (λ same. absurd (c.if-sample-samples.true (ap (of_z w8) (
          c.sample.ensures.value ∙ ap (sample_at c.args.version.now) c.moved-point.ensures
          ∙ sym (get_or-singles c.args.self.now.count f place (pos 0) (omega arith))
          ∙ ap (λ xs. get_or xs place (pos 0)) (sym same))))),
    )

pub loop-place-preserved : goal.loop-place-preserved
loop-place-preserved c =
    let place = c.loop-place.place in
    let item : ℤ = get_or c.args.samples.now place (pos 0) in
    let item_fits : SFits w8 item = search rules in
    let sample_fits : SFits w8 c.sample.result = record { sfits = c.sample.type_inv } in
    let same : item ≡ c.sample.result =
    sym (to_z-of_z w8 item item_fits) ∙ ap (to_z w8) (sym c.if-sample-samples.false)
    ∙ to_z-of_z w8 c.sample.result sample_fits in
    below_more _ _ c.loop-place.invariant
    (same ∙ c.sample.ensures.value ∙ ap (sample_at c.args.version.now) c.moved-point.ensures)

pub returns : goal.returns
returns c =
    let f : ℕ → ℤ = λ k. sample_at c.args.version.now (line_point c.args.self.now k) in (
      (λ _. singles_are c.args.self.now.count f c.args.samples.now (pos 0) c.requires.count
          (λ k k_in.
          c.loop-place.invariant k (omega arith))),
      (λ _. refl),
    )
