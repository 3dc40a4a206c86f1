-- The rule makes what the brush does in a box about its region, and off its region the brush does nothing.
use Rattle.lattice.specs.Point.{IsInWorld}
use Rattle.std.specs.Prelude.{◌≡◌}
use Rattle.field_pages.specs.Changes.{Changes}
use Rattle.field_pages.specs.Pages.{sample_at}
use Rattle.brushes.specs.Brushed.{IsBrushed}
use Rattle.brushes.proofs.BrushedLemmas.{both_ok, brushed}
use Rattle.brushes.proofs.editing.version_after.Goals as goal

pub returns-clause-brushed : goal.returns-clause-brushed
returns-clause-brushed g c =
    let old = c.args.version.now in
    let gives = g.R.Rule.gives c.args.rule.now in
    both_ok c.revise_kept.result (λ made. made.0.depth ≡ old.depth)
    (λ made. Changes c.args.area gives (IsInWorld old.depth) (sample_at old) (sample_at made.0))
    (λ made. IsBrushed c.args.brush.now old made.0)
    (λ made depth changes. brushed c.args.brush.now c.args.area old made.0 gives
    c.points_of_regions.ensures.test c.brushes_read_only_the_world.ensures
    c.brushes_keep_samples_off_their_region.ensures c.requires.lawful c.revise_kept.ensures.range
    c.requires.whole c.requires.gives depth changes)
    c.revise_kept.ensures.depth c.revise_kept.ensures.changes
