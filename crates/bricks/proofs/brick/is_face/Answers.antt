-- The rows of a face are compared one after another.
use Rattle.std.proofs.Common.{◌≡◌, ℕ, List, ℤ, true, false, refl, sym, ap, ◌∙◌, subst, arith, below_more}
use Rattle.std.proofs.lemmas.Bool.{false≢true}
use Rattle.lattice.specs.declared.settings.TheConstants.{MAX_DEPTH}
use Rattle.field_pages.specs.Pages.{sample_at}
use Rattle.bricks.specs.Brick.{fine_line}
use Rattle.bricks.specs.Line.{IsLine, line_samples}
use Rattle.bricks.proofs.BrickLemmas.{face_samples-rows, length-line}
use Rattle.bricks.proofs.FaceLemmas.{face-line}
use Rattle.lattice.proofs.RowLemmas.{row-of, row-slice, same-rows}
use Rattle.bricks.proofs.brick.is_face.Goals as goal

pub has_samples-requires-clause-line : goal.has_samples-requires-clause-line
has_samples-requires-clause-line c =
    let depth = c.args.version.now.depth in
    let leaf = c.args.leaf in
    let laws = c.nodes_of_worlds.ensures in
    let here = laws.corner depth leaf c.requires.leaf in
    let there = laws.corner MAX_DEPTH leaf (laws.node depth leaf c.requires.depth c.requires.leaf)
    in
    subst (IsLine depth) (sym c.fine_line.ensures)
    (face-line depth leaf here there c.requires.level c.args.face c.loop-v.v (omega arith))

pub returns-then-not-has_samples : goal.returns-then-not-has_samples
returns-then-not-has_samples c =
    let s = sample_at c.args.version.now in
    let row : ℕ → List ℤ = λ k. line_samples s (fine_line c.args.leaf c.args.face k) in
    let at = c.loop-v.v in
    let xs = c.args.samples.now in
    let off : c.has_samples.result ≡ false = c.if-not-has_samples.true in (
      (λ t. absurd (false≢true t)),
      (λ same. sym off ∙ c.has_samples.ensures.1 (row-slice 33 at xs
          ∙ row-of 33 33 row xs (λ k k_in. length-line s (fine_line c.args.leaf c.args.face k))
          (same ∙ face_samples-rows s c.args.leaf c.args.face) at (omega arith)
          ∙ ap (line_samples s) (sym c.fine_line.ensures))),
    )

pub loop-v-preserved : goal.loop-v-preserved
loop-v-preserved c =
    let s = sample_at c.args.version.now in
    let at = c.loop-v.v in
    let on : c.has_samples.result ≡ true = c.if-not-has_samples.false in
    below_more _ _ c.loop-v.invariant (sym (row-slice 33 at c.args.samples.now)
    ∙ c.has_samples.ensures.0 on ∙ ap (line_samples s) c.fine_line.ensures)

pub returns : goal.returns
returns c =
    let s = sample_at c.args.version.now in
    let row : ℕ → List ℤ = λ k. line_samples s (fine_line c.args.leaf c.args.face k) in (
      (λ _. same-rows 33 33 row c.args.samples.now (omega arith)
          (λ k k_in. length-line s (fine_line c.args.leaf c.args.face k)) c.requires.count
          (λ k k_in.
          c.loop-v.invariant k (omega arith))
          ∙ sym (face_samples-rows s c.args.leaf c.args.face)),
      (λ _. refl),
    )
