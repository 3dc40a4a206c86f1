-- The samples of the leaf are from -127 to 127, as all of a version are.
use Rattle.std.proofs.Common.{◌≡◌, length, sym, ap, ◌∙◌, subst}
use Rattle.std.specs.Prelude.{All}
use Rattle.std.proofs.lemmas.Result.{on_ok_weaker}
use Rattle.terrain.specs.Samples.{IsSample}
use Rattle.field_pages.specs.Pages.{sample_at}
use Rattle.bricks.proofs.BrickLemmas.{length-leaf}
use Rattle.bricks.proofs.PartLemmas.{leaf-range, taken-whole}
use Rattle.bricks.proofs.room.Lists.fill.Goals as goal

pub returns-clause-leaf_range : goal.returns-clause-leaf_range
returns-clause-leaf_range c =
    let depth = c.args.version.now.depth in
    let s = sample_at c.args.version.now in
    let long : length c.fill_leaf.new.samples ≡ c.resize.new.self.len =
    ap length c.fill_leaf.ensures ∙ length-leaf s c.args.leaf ∙ sym c.in_ok-resize.ensures.len in
    on_ok_weaker c.push_faces.result (λ _. subst (All IsSample)
    (sym (taken-whole c.fill_leaf.new.samples _ c.resize.new.self.len long
    ∙ c.fill_leaf.ensures))
    (leaf-range depth s c.args.leaf
    (c.nodes_of_worlds.ensures.corner depth c.args.leaf c.requires.leaf) c.sample.ensures.samples))
    c.push_faces.ensures.added
