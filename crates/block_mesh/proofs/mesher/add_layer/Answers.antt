-- A layer between plain rows has no triangles; else its rows of cells are added one after another.
use Rattle.std.proofs.Common.{◌≡◌, ℕ, ◌+◌, ◌-◌, ◌*◌, ◌<◌, ◌∙◌, [], List, ap, drop, get_or, length, sym, subst, take, arith}
use Rattle.std.proofs.lemmas.List.{get_or-drop, get_or-take, length-drop, length-take}
use Rattle.lattice.specs.Lists.{joined}
use Rattle.block_mesh.specs.Builder.{AddsTriangles}
use Rattle.block_mesh.proofs.BuilderLemmas.{AddsTriangles-begun, AddsTriangles-next, AddsTriangles-none, AddsTriangles-same}
use Rattle.block_mesh.proofs.OneSignLemmas.{plain_layer}
use Rattle.block_mesh.proofs.mesher.add_layer.Invariants.{row}
use Rattle.block_mesh.proofs.mesher.add_layer.Goals as goal

-- an item of a part of a list
part-item : (rows : List ℕ) (from to k : ℕ) → from + k < to
    → get_or (take (to - from) (drop from rows)) k 0 ≡ get_or rows (from + k) 0
part-item rows from to k k_in =
    get_or-take (to - from) (drop from rows) k 0 (omega arith) ∙ get_or-drop from rows k 0

pub returns-then-are_plain-clause-adds : goal.returns-then-are_plain-clause-adds
returns-then-are_plain-clause-adds c =
    let b = c.args.brick.now in
    let n = b.node in
    let z = c.args.z in
    let rows = c.args.rows.now in
    let from : ℕ = z * 17 in
    let part : List ℕ = take (from + 34 - from) (drop from rows) in
    let long : 34 ≡ length part =
    omega (
      arith,
      length-take (from + 34 - from) (drop from rows),
      length-drop from rows,
      c.requires.count,
      c.requires.z,
    ) in
    let first : ℕ = get_or part 0 0 in
    let same : (k : ℕ) → k < 34 → get_or rows (from + k) 0 ≡ first =
    λ k k_in. sym (part-item rows from (from + 34) k (omega (arith, k_in)))
    ∙ c.are_plain.ensures.same c.if-are_plain.true k (omega (arith, k_in, long)) in
    let there : (y : ℕ) → (z + 1) * 17 + y ≡ from + (17 + y) = λ y. omega arith in
    AddsTriangles-same b (λ _. []) (λ s. joined 16 (row n s z)) c.args.builder.now
    c.args.builder.now
    (λ s has. sym (plain_layer s n z first
    (λ y y_in. sym (c.requires.rows s has z y (omega (arith, c.requires.z)) y_in)
    ∙ same y (omega (arith, y_in)))
    (λ y y_in. sym (c.requires.rows s has (z + 1) y (omega (arith, c.requires.z)) y_in)
    ∙ ap (λ k. get_or rows k 0) (there y) ∙ same (17 + y) (omega (arith, y_in)))
    (c.are_plain.ensures.plain c.if-are_plain.true)))
    (AddsTriangles-none b c.args.builder.now c.requires.builds)

pub loop-y-init : goal.loop-y-init
loop-y-init c =
    let b = c.args.brick.now in
    record {
      few = omega arith;
      adds = AddsTriangles-begun b (λ s. row b.node s c.args.z) c.args.builder.now
          c.requires.builds;
    }

pub add_row-requires-clause-builds : goal.add_row-requires-clause-builds
add_row-requires-clause-builds c = c.loop-y.invariant.adds.builds

pub add_row-requires-clause-room : goal.add_row-requires-clause-room
add_row-requires-clause-room c =
    omega (arith, c.requires.room, c.loop-y.invariant.few, c.loop-y-test.true)

pub loop-y-preserved : goal.loop-y-preserved
loop-y-preserved c =
    let b = c.args.brick.now in
    let y = c.loop-y.y in
    record {
      few = omega (arith, c.in_ok-add_row.ensures.few, c.loop-y.invariant.few);
      adds = AddsTriangles-next b (λ s. row b.node s c.args.z) y c.args.builder.now
          c.loop-y.builder c.add_row.new.builder c.loop-y.invariant.adds
          c.in_ok-add_row.ensures.adds;
    }

pub returns-clause-few : goal.returns-clause-few
returns-clause-few c = omega (arith, c.loop-y.invariant.few, c.loop-y.auto.y-end)

pub returns-clause-adds : goal.returns-clause-adds
returns-clause-adds c =
    let b = c.args.brick.now in
    let last : c.loop-y.y ≡ 16 = omega (arith, c.loop-y.auto.y-end, c.loop-y-test.false) in
    subst (λ k. AddsTriangles b (λ s. joined k (row b.node s c.args.z)) c.args.builder.now
    c.loop-y.builder) last c.loop-y.invariant.adds
