-- The samples are filled in behind those that were there.
use Rattle.std.proofs.Common.{◌≡◌, ◌++◌, length, replicate, ℤ, to_z, of_z, w8, subst, sym, ap, ◌∙◌, arith}
use Rattle.std.specs.Prelude.{All}
use Rattle.std.proofs.lemmas.List.{length-replicate}
use Rattle.std.proofs.lemmas.List.Elements.{All-append}
use Rattle.lattice.specs.declared.settings.TheConstants.{MAX_DEPTH}
use Rattle.terrain.specs.Blocks.{face_samples}
use Rattle.terrain.specs.Samples.{IsSample}
use Rattle.field_pages.specs.Pages.{sample_at}
use Rattle.bricks.proofs.BrickLemmas.{length-face}
use Rattle.bricks.proofs.FaceLemmas.{face-range}
use Rattle.bricks.proofs.PartLemmas.{part-behind}
use Rattle.bricks.proofs.brick.push_face.Goals as goal

pub returns-clause-added : goal.returns-clause-added
returns-clause-added c =
    let filler : ℤ = to_z w8 (of_z w8 c.sample.result) in
    let start : c.len-start.result ≡ length c.args.samples.now.items =
    omega (arith, c.len-start.ensures, c.well_formed) in
    let long : length c.fill_face.new.samples ≡ 1089 =
    ap length c.fill_face.ensures
    ∙ length-face (sample_at c.args.version.now) c.args.leaf c.args.face in
    let len : c.push_even.new.samples.len ≡ length c.deref_mut.result.now =
    sym c.deref_mut.ensures.len in
    part-behind c.args.samples.now.items (replicate 1089 filler) c.fill_face.new.samples
    c.deref_mut.result.now _ c.len-start.result c.push_even.new.samples.len
    (c.deref_mut.ensures.value ∙ c.in_ok-push_even.ensures) start
    (long ∙ sym (length-replicate {A = ℤ} 1089 filler)) len
    ∙ ap (λ xs. c.args.samples.now.items ++ xs) c.fill_face.ensures

pub returns-clause-range : goal.returns-clause-range
returns-clause-range c =
    let s = sample_at c.args.version.now in
    let depth = c.args.version.now.depth in
    let leaf = c.args.leaf in
    let laws = c.nodes_of_worlds.ensures in
    let here = laws.corner depth leaf c.requires.leaf in
    let there = laws.corner MAX_DEPTH leaf (laws.node depth leaf c.requires.depth c.requires.leaf)
    in
    λ h. subst (All IsSample) (sym (returns-clause-added c))
    (All-append IsSample c.args.samples.now.items (face_samples s leaf c.args.face) h
    (face-range depth s leaf here there c.requires.level c.args.face c.sample.ensures.samples))
