-- A point lies in a layer of pages before, or in the next one.
use Rattle.std.proofs.Common.{◌≡◌, ◌+◌, ◌*◌, ◌^◌, sym, ap, ◌∙◌, inl, inr, subst, arith}
use Rattle.std.proofs.lemmas.Bool.{cases_lt}
use Rattle.lattice.specs.declared.point.Point.{Point}
use Rattle.lattice.specs.Node.{low_corner}
use Rattle.bricks.specs.Even.{IsInPageLayer}
use Rattle.bricks.proofs.EvenLemmas.{begins-page, pages-are}
use Rattle.bricks.proofs.even.has_alike_pages.Goals as goal

pub loop-page-init : goal.loop-page-init
loop-page-init c = λ p cube before.
    let z : c.low_corner-low.result.z ≡ (low_corner c.args.leaf).z =
    ap (λ (q : Point). q.z) c.low_corner-low.ensures in
    absurd (omega (arith, z, cube.z, before))

pub loop-page-preserved : goal.loop-page-preserved
loop-page-preserved c = λ p cube next.
    let n = c.args.leaf in
    let low = low_corner n in
    let few = (c.nodes_of_worlds.ensures.node c.args.version.now.depth n c.requires.depth
    c.requires.leaf).level in
    let z : c.low_corner-low.result.z ≡ low.z = ap (λ (q : Point). q.z) c.low_corner-low.ensures in
    let from : Point = record low { z = low.z + 16 * c.loop-page.page } in
    let from_is : c.moved-from.result ≡ from =
    c.moved-from.ensures ∙ ap (λ (q : Point). record q { z = q.z + 16 * c.loop-page.page })
    c.low_corner-low.ensures in
    elim (cases_lt p.z (c.low_corner-low.result.z + 16 * c.loop-page.page)) [
      | inl before ↦ c.loop-page.invariant p cube before
      | inr here ↦
          let count = pages-are n few in
          let layer : IsInPageLayer from (2 ^ n.level + 1) p = record {
            z = omega (arith, z, here, next, begins-page n.k n.level);
            y_low = cube.y;
            y_high = omega (arith, cube.y_end);
            x_low = cube.x;
            x_high = omega (arith, cube.x_end);
          } in
          c.is_alike_layer.ensures c.if-not-is_alike_layer.false p
          (subst (λ m. IsInPageLayer c.moved-from.result m p) (sym count)
          (subst (λ q. IsInPageLayer q (2 ^ n.level + 1) p) (sym from_is) layer))
    ]

pub returns : goal.returns
returns c = λ _ p cube.
    let n = c.args.leaf in
    let few = (c.nodes_of_worlds.ensures.node c.args.version.now.depth n c.requires.depth
    c.requires.leaf).level in
    let z : c.low_corner-low.result.z ≡ (low_corner n).z =
    ap (λ (q : Point). q.z) c.low_corner-low.ensures in
    c.loop-page.invariant p cube
    (omega (arith, z, cube.z_end, pages-are n few, c.loop-page-test.false))
