-- One page more is looked up, and then the samples are filled.
use Rattle.std.proofs.Common.{◌≡◌, ◌*◌, ◌%◌, ◌^◌, ◌<◌, ◌≤◌, [], true, length, get_or, refl, sym, ap, subst, ◌∙◌, arith}
use Rattle.std.specs.Prelude.{All, IsTrue}
use Rattle.std.proofs.lemmas.Bool.{and_parts}
use Rattle.std.proofs.lemmas.List.{length-set}
use Rattle.std.proofs.lemmas.Nat.{one_shl}
use Rattle.lattice.specs.declared.point.Point.{Point}
use Rattle.lattice.specs.declared.settings.TheConstants.{MAX_DEPTH}
use Rattle.lattice.specs.Point.{IsInWorld, point_from}
use Rattle.terrain.specs.declared.brush.TheConstants.{MAX_SAMPLE}
use Rattle.terrain.specs.Samples.{IsSample}
use Rattle.field_pages.specs.PageRows.{has_steps, lent_samples}
use Rattle.field_pages.specs.Pages.{sample_at}
use Rattle.bricks.specs.Parts.{HasPart}
use Rattle.bricks.proofs.PageRowLemmas.{part-first, put-all, stride-few}
use Rattle.bricks.proofs.PartLemmas.{in-leaf, part-of}
use Rattle.bricks.proofs.parts.fill_row.Goals as goal

pub loop-number-init : goal.loop-number-init
loop-number-init c = record {
  long = refl;
  counts = λ t t_in. absurd (omega (arith, t_in));
  range = λ t t_in. absurd (omega (arith, t_in));
  parts = λ t t_in. absurd (omega (arith, t_in));
  steps = λ all t t_in. absurd (omega (arith, t_in));
  one_row = λ all t k t_in k_in. absurd (omega (arith, t_in));
}

pub point_after-requires-clause-world : goal.point_after-requires-clause-world
point_after-requires-clause-world c =
    let leaf = c.args.leaf in
    let node = c.nodes_of_worlds.ensures.node c.args.version.now.depth leaf c.requires.depth
    c.requires.leaf in
    let stride_is = one_shl leaf.level 32 (omega (arith, node.level)) in
    let t = c.loop-number.number in
    let t_in : t ≤ 2 ^ leaf.level = omega (arith, stride_is, c.loop-number-test.true) in
    let first : Point = record { z = c.args.z; y = c.args.y; x = c.args.side * t } in
    subst (λ p. IsInWorld MAX_DEPTH (point_from p leaf.level first)) (sym c.low_corner-low.ensures)
    (in-leaf MAX_DEPTH leaf first
    (c.nodes_of_worlds.ensures.corner MAX_DEPTH leaf node) (record {
      z = c.requires.z.few;
      y = c.requires.y.few;
      x = (part-first leaf.level c.args.side t c.requires.side t_in).few;
    }))

pub page-page-requires : goal.page-page-requires
page-page-requires c =
    let depth = c.args.version.now.depth in
    let leaf = c.args.leaf in
    let node = c.nodes_of_worlds.ensures.node depth leaf c.requires.depth c.requires.leaf in
    let stride_is = one_shl leaf.level 32 (omega (arith, node.level)) in
    let t = c.loop-number.number in
    let t_in : t ≤ 2 ^ leaf.level = omega (arith, stride_is, c.loop-number-test.true) in
    let first : Point = record { z = c.args.z; y = c.args.y; x = c.args.side * t } in
    subst (IsInWorld depth)
    (sym (c.point_after.ensures ∙ ap (λ p. point_from p leaf.level first) c.low_corner-low.ensures))
    (in-leaf depth leaf first
    (c.nodes_of_worlds.ensures.corner depth leaf c.requires.leaf) (record {
      z = c.requires.z.few;
      y = c.requires.y.few;
      x = (part-first leaf.level c.args.side t c.requires.side t_in).few;
    }))

pub loop-number-preserved : goal.loop-number-preserved
loop-number-preserved c =
    let depth = c.args.version.now.depth in
    let s = sample_at c.args.version.now in
    let leaf = c.args.leaf in
    let side = c.args.side in
    let node = c.nodes_of_worlds.ensures.node depth leaf c.requires.depth c.requires.leaf in
    let stride_is = one_shl leaf.level 32 (omega (arith, node.level)) in
    let t = c.loop-number.number in
    let t_in : t ≤ 2 ^ leaf.level = omega (arith, stride_is, c.loop-number-test.true) in
    let few = stride-few (2 ^ leaf.level) side c.requires.side c.requires.two in
    let pages = c.loop-number.pages in
    let page = c.page-page.result in
    let room : t < length pages = omega (arith, c.loop-number.invariant.long, t_in, few) in
    let first : Point = record { z = c.args.z; y = c.args.y; x = side * t } in
    record {
      long = length-set pages t page ∙ c.loop-number.invariant.long;
      counts = put-all lent_samples [] (λ k samples. length samples ≡ 4096) pages t page room
          c.loop-number.invariant.counts c.page-page.ensures.len;
      range = put-all lent_samples [] (λ k samples. All IsSample samples) pages t page room
          c.loop-number.invariant.range c.page-page.ensures.range;
      parts = put-all lent_samples [] (λ k samples. HasPart s leaf
          (record { z = c.args.z; y = c.args.y; x = side * k }) side samples) pages t page room
          c.loop-number.invariant.parts
          (part-of s leaf side first c.point_after.result (lent_samples page) c.requires.side
          c.requires.z c.requires.y (part-first leaf.level side t c.requires.side t_in)
          (c.point_after.ensures
          ∙ ap (λ p. point_from p leaf.level first) c.low_corner-low.ensures)
          c.page-page.ensures.len c.page-page.ensures.samples);
      steps = λ all.
          let parts = and_parts c.loop-number.by_steps c.is_stepped-by_steps.result all in
          put-all has_steps true (λ k by_steps. IsTrue by_steps) pages t page room
          (c.loop-number.invariant.steps parts.0) (c.is_stepped-by_steps.ensures.0 parts.1);
      one_row = λ all t k t_in k_in.
          let parts = and_parts c.loop-number.have_one_row c.has_one_row-have_one_row.result all in
          put-all lent_samples []
          (λ m samples. get_or samples k MAX_SAMPLE ≡ get_or samples (k % 16) MAX_SAMPLE) pages
          c.loop-number.number page room
          (λ m m_in. c.loop-number.invariant.one_row parts.0 m k m_in k_in)
          (c.has_one_row-have_one_row.ensures.rows parts.1 k k_in) t t_in;
    }

pub returns-then-have_one_row : goal.returns-then-have_one_row
returns-then-have_one_row c =
    let leaf = c.args.leaf in
    let node = c.nodes_of_worlds.ensures.node c.args.version.now.depth leaf c.requires.depth
    c.requires.leaf in
    let stride_is = one_shl leaf.level 32 (omega (arith, node.level)) in
    c.fill_parts.ensures (sample_at c.args.version.now) leaf (sym stride_is) (record {
      each = λ t t_in. c.loop-number.invariant.parts t
          (omega (arith, stride_is, t_in, c.loop-number-test.false));
    })

pub returns : goal.returns
returns c =
    let leaf = c.args.leaf in
    let node = c.nodes_of_worlds.ensures.node c.args.version.now.depth leaf c.requires.depth
    c.requires.leaf in
    let stride_is = one_shl leaf.level 32 (omega (arith, node.level)) in
    c.fill_parts-2.ensures (sample_at c.args.version.now) leaf (sym stride_is) (record {
      each = λ t t_in. c.loop-number.invariant.parts t
          (omega (arith, stride_is, t_in, c.loop-number-test.false));
    })
