-- One sample more is there: that of a page's corner, which is the leaf's point.
use Rattle.std.proofs.Common.{◌≡◌, ◌<◌, ◌/◌, pos, length, get_or, refl, sym, ap, ◌∙◌, inl, inr, subst, w8, arith}
use Rattle.std.proofs.lemmas.Bool.{cases_lt}
use Rattle.std.proofs.lemmas.Grind.{get_or-set_at}
use Rattle.std.proofs.lemmas.Int.{to_z-of_z}
use Rattle.std.proofs.lemmas.List.{get_or-set_other, get_or_default, length-set}
use Rattle.lattice.specs.declared.point.Point.{Point}
use Rattle.lattice.specs.declared.settings.TheConstants.{MAX_DEPTH}
use Rattle.lattice.specs.Point.{IsInWorld, point_from}
use Rattle.lattice.specs.Steps.{AreAtMost, point_at}
use Rattle.terrain.specs.declared.brush.TheConstants.{MAX_SAMPLE}
use Rattle.field_pages.specs.Places.{pages_across}
use Rattle.field_pages.specs.Pages.{sample_at}
use Rattle.bricks.proofs.PartLemmas.{at-page_corner, in-leaf}
use Rattle.bricks.proofs.RunLemmas.{sample-fits}
use Rattle.bricks.proofs.points.line_of.Goals as goal

pub loop-x-init : goal.loop-x-init
loop-x-init c = record { long = refl; each = λ k k_in. absurd (omega (arith, k_in)) }

pub point_after-point-requires-clause-world : goal.point_after-point-requires-clause-world
point_after-point-requires-clause-world c =
    let leaf = c.args.leaf in
    let laws = c.nodes_of_worlds.ensures in
    let node = laws.node c.args.version.now.depth leaf c.requires.depth c.requires.leaf in
    let steps : Point = record { z = c.args.z; y = c.args.y; x = c.loop-x.x } in
    let few : AreAtMost 16 steps = record {
      z = omega (arith, c.requires.z);
      y = omega (arith, c.requires.y);
      x = omega (arith, c.loop-x-test.true);
    } in
    subst (λ p. IsInWorld MAX_DEPTH (point_from p leaf.level steps)) (sym c.low_corner-low.ensures)
    (in-leaf MAX_DEPTH leaf steps (laws.corner MAX_DEPTH leaf node) few)

pub loop-x-preserved : goal.loop-x-preserved
loop-x-preserved c =
    let s = sample_at c.args.version.now in
    let depth = c.args.version.now.depth in
    let leaf = c.args.leaf in
    let now = c.loop-x.line in
    let x = c.loop-x.x in
    let corners = c.corners-corners.result.now in
    let place = c.point_after-point.result.x / 16 in
    let first : Point = record { z = c.args.z; y = c.args.y; x = 0 } in
    let steps : Point = record first { x = x } in
    let few : AreAtMost 16 steps = record {
      z = omega (arith, c.requires.z);
      y = omega (arith, c.requires.y);
      x = omega (arith, c.loop-x-test.true);
    } in
    let q : Point = point_at leaf.level leaf steps in
    let q_in : IsInWorld depth q =
    in-leaf depth leaf steps (c.nodes_of_worlds.ensures.corner depth leaf c.requires.leaf) few in
    let point_is : c.point_after-point.result ≡ q =
    c.point_after-point.ensures
    ∙ ap (λ p. point_from p leaf.level steps) c.low_corner-low.ensures in
    let first_is : c.point_after.result ≡ point_at leaf.level leaf first =
    c.point_after.ensures ∙ ap (λ p. point_from p leaf.level first) c.low_corner-low.ensures in
    let place_is : place ≡ q.x / 16 = ap (λ p. p.x / 16) point_is in
    let column : q.x / 16 < pages_across depth = omega (arith, q_in.x) in
    let within : place < pages_across depth = omega (arith, place_is, column) in
    let there : place < length corners = omega (arith, within, c.corners-corners.ensures.len) in
    let sample_is : get_or corners place (pos 0) ≡ s q =
    get_or_default corners place (pos 0) MAX_SAMPLE there
    ∙ ap (λ k. get_or corners k MAX_SAMPLE) place_is
    ∙ c.corners-corners.ensures.samples q (ap (λ p. p.z / 16) (sym first_is))
    (ap (λ p. p.y / 16) (sym first_is)) column
    ∙ ap s (at-page_corner leaf steps c.requires.level) in
    let room : x < length now = omega (arith, c.loop-x.invariant.long, c.loop-x-test.true) in
    record {
      long = length-set now x _ ∙ c.loop-x.invariant.long;
      each = λ k k_in. elim (cases_lt k x) [
        | inl before ↦
            get_or-set_other now x k _ (pos 0) (λ e. omega (arith, e, before))
            ∙ c.loop-x.invariant.each k before
        | inr after ↦
            let here : x ≡ k = omega arith in
            get_or-set_at now x k _ (pos 0) (sym here) room
            ∙ to_z-of_z w8 (get_or corners place (pos 0))
            (sample-fits _ (c.corners-corners.ensures.range place (pos 0) within))
            ∙ sample_is
            ∙ ap (λ m. s (point_at leaf.level leaf (record steps { x = m }))) here
      ];
    }
