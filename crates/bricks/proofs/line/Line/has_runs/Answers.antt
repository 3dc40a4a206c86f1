-- The runs are compared page by page.
use Rattle.std.proofs.Common.{◌≡◌, ℕ, ◌+◌, ◌*◌, ◌-◌, ◌%◌, ◌<◌, ◌≤◌, ℤ, pos, get_or, length, subst, refl, sym, ap, ◌∙◌, arith, take, drop, true, false}
use Rattle.std.proofs.Math.Nat.{mul-le-mul_left}
use Rattle.std.proofs.Common.{inl, inr}
use Rattle.std.proofs.lemmas.Bool.{cases_lt, false≢true}
use Rattle.field_pages.specs.Pages.{sample_at}
use Rattle.bricks.specs.Line.{line_point}
use Rattle.lattice.proofs.RowLemmas.{singles_are, get_or-singles}
use Rattle.bricks.proofs.LineLemmas.{along-fits, line_x, run-samples, same_run, length-run}
use Rattle.bricks.proofs.line.Line.has_runs.Goals as goal
use Rattle.bricks.proofs.line.Line.has_runs.Goals.{After-is_run}

pub overflow_mul-x : goal.overflow_mul-x
overflow_mul-x c =
    omega (
      arith,
      along-fits c.args.self.now c.args.version.now.depth c.requires.line c.loop-place.place
          (omega arith),
    )

pub overflow_add-x : goal.overflow_add-x
overflow_add-x c =
    omega (
      arith,
      along-fits c.args.self.now c.args.version.now.depth c.requires.line c.loop-place.place
          (omega arith),
      line_x c.args.self.now c.requires.axis,
    )

-- the items of a run are those of the list
run-items : (c : After-is_run) → (k : ℕ) → k < c.min-run.result
    → get_or (take (c.loop-place.place + c.min-run.result - c.loop-place.place)
    (drop c.loop-place.place c.args.samples.now)) k (pos 0)
    ≡ get_or c.args.samples.now (c.loop-place.place + k) (pos 0)
run-items c k k_in =
    same_run c.args.samples.now c.loop-place.place c.min-run.result k (pos 0) k_in

-- the items of the row are the samples of the line
row-items : (c : After-is_run) → (k : ℕ) → k < c.min-run.result
    → get_or c.row-row.result.now
    ((c.args.self.now.from.x + c.args.self.now.stride * c.loop-place.place) % 16
    + c.args.self.now.stride * k) (pos 0)
    ≡ sample_at c.args.version.now (line_point c.args.self.now (c.loop-place.place + k))
row-items c =
    let line = c.args.self.now in
    let place = c.loop-place.place in
    let run = c.min-run.result in
    let few : run ≤ c.run_length.result = omega (arith, c.min-run.ensures) in
    let last : run - 1 ≤ c.run_length.result - 1 = omega arith in
    run-samples (sample_at c.args.version.now) line place run c.row-row.result.now
    c.requires.axis c.row-row.ensures.samples
    (omega (arith, c.run_length.ensures.within, mul-le-mul_left line.stride last))

-- a run has so many items
run-length : (c : After-is_run) → length (take (c.loop-place.place + c.min-run.result
    - c.loop-place.place) (drop c.loop-place.place c.args.samples.now)) ≡ c.min-run.result
run-length c = length-run c.args.samples.now c.loop-place.place c.min-run.result
    (omega (arith, c.min-run.ensures, c.requires.count))

pub returns-then-not-is_run : goal.returns-then-not-is_run
returns-then-not-is_run c =
    let d = (goal.at.returns-then-not-is_run c).After-is_run in
    let f : ℕ → ℤ = λ k. sample_at c.args.version.now (line_point c.args.self.now k) in
    let off : c.is_run.result ≡ false = c.if-not-is_run.true in (
      (λ t. absurd (false≢true t)),
      (λ same. sym off ∙ c.is_run.ensures.1 (λ k k_in.
          let at : k < c.min-run.result = omega (arith, run-length d) in
          run-items d k at
          ∙ ap (λ xs. get_or xs (c.loop-place.place + k) (pos 0)) same
          ∙ get_or-singles c.args.self.now.count f (c.loop-place.place + k) (pos 0)
          (omega (arith, c.min-run.ensures))
          ∙ sym (row-items d k at))),
    )

pub loop-place-preserved : goal.loop-place-preserved
loop-place-preserved c =
    let d = (goal.at.loop-place-preserved c).After-is_run in
    let on : c.is_run.result ≡ true = c.if-not-is_run.false in
    let f : ℕ → ℤ = λ k. sample_at c.args.version.now (line_point c.args.self.now k) in
    record {
      within = omega (arith, c.min-run.ensures);
      same = λ k k_in. elim (cases_lt k c.loop-place.place) [
        | inl early ↦ c.loop-place.invariant.same k early
        | inr late ↦
            let j : ℕ = k - c.loop-place.place in
            let at : j < c.min-run.result = omega arith in
            let here : c.loop-place.place + j ≡ k = omega arith in
            let P : ℕ → Type 0 = λ i. get_or c.args.samples.now i (pos 0) ≡ f i in
            subst P here (sym (run-items d j at)
            ∙ c.is_run.ensures.0 on j (omega (arith, run-length d)) ∙ row-items d j at)
      ];
    }

pub returns : goal.returns
returns c =
    let f : ℕ → ℤ = λ k. sample_at c.args.version.now (line_point c.args.self.now k) in (
      (λ _. singles_are c.args.self.now.count f c.args.samples.now (pos 0) c.requires.count
          (λ k k_in.
          c.loop-place.invariant.same k (omega arith))),
      (λ _. refl),
    )
