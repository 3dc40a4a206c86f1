-- Each row is one more of the plane.
use Rattle.std.proofs.Common.{◌≡◌, ℕ, ◌+◌, ◌-◌, ◌^◌, ◌<◌, ◌↔◌, true, ap, sym, ◌∙◌, subst, arith}
use Rattle.lattice.specs.Node.{nodes_across}
use Rattle.octree.specs.Growing.{IsAboveSplit}
use Rattle.octree.specs.Layers.{LayerOf}
use Rattle.octree.specs.SplitBits.{IsRow, row_bit}
use Rattle.octree.proofs.GainsLemmas.{gains_nothing}
use Rattle.octree.proofs.GrownLemmas.{needed-all_rows, needed-row}
use Rattle.octree.proofs.choosing.split_above_plane.Goals as goal

pub loop-j-init : goal.loop-j-init
loop-j-init c = gains_nothing _ c.args.levels.now (λ n h. omega (arith, h.2))

pub loop-j-preserved : goal.loop-j-preserved
loop-j-preserved c =
    let levels = c.loop-j.levels in
    let level = c.args.level in
    let k = c.args.k in
    let j = c.loop-j.j in
    let bits = c.above_row-bits.result in
    let depth = c.loop-j.invariant.depth in
    let all = c.nodes_across-j-end.ensures ∙ ap (λ d. nodes_across d level) c.depth.ensures.value in
    let row : IsRow levels.depth level k j =
    subst (λ d. IsRow d level k j) (sym depth) (record {
      low = c.requires.low;
      high = c.requires.high;
      k_in = c.requires.k;
      j_in = omega (arith, all, c.loop-j-test.true);
    }) in
    let P : LayerOf → Type 0 = λ l. (bits < 2 ^ nodes_across l.levels.depth (l.level + 1))
    × ((i : ℕ) → i < nodes_across l.levels.depth (l.level + 1) → (row_bit bits i ≡ true)
    ↔ IsAboveSplit l.levels (record { level = l.level + 1; k = k; j = j; i = i })) in
    let below : P (record { levels = levels; level = level - 1 }) =
    subst P c.layer.ensures (c.above_row-bits.ensures.fits, c.above_row-bits.ensures.each) in
    let up : level - 1 + 1 ≡ level = omega (arith, c.requires.low) in
    let here = subst (λ m. (bits < 2 ^ nodes_across levels.depth m)
    × ((i : ℕ) → i < nodes_across levels.depth m → (row_bit bits i ≡ true)
    ↔ IsAboveSplit levels (record { level = m; k = k; j = j; i = i }))) up below in
    needed-row level k j bits c.args.levels.now levels c.split_row.new.self row here.0 here.1
    c.loop-j.invariant c.split_row.ensures

pub returns : goal.returns
returns c =
    let all = c.nodes_across-j-end.ensures
    ∙ ap (λ d. nodes_across d c.args.level) c.depth.ensures.value in
    needed-all_rows c.args.level c.args.k c.loop-j.j c.args.levels.now c.loop-j.levels
    (omega (arith, all, c.loop-j-test.false)) c.loop-j.invariant
