-- The cells between those of two signs have no triangles.
use Rattle.std.proofs.Common.{◌≡◌, ℕ, ◌+◌, ◌<◌, ◌≤◌, List, inl, inr, refl, sym, ap, ◌∙◌, subst, arith}
use Rattle.std.proofs.lemmas.Bool.{cases_lt}
use Rattle.std.specs.Int.{bit_at}
use Rattle.lattice.specs.declared.key.Key.{Key}
use Rattle.lattice.specs.declared.node.Node.{Node}
use Rattle.lattice.specs.declared.point.Point.{Point}
use Rattle.lattice.specs.Lists.{joined}
use Rattle.terrain.specs.Blocks.{cell_corner}
use Rattle.terrain.specs.Cells.{regular_triangles}
use Rattle.terrain.specs.Samples.{Field}
use Rattle.block_mesh.specs.Builder.{AddsTriangles}
use Rattle.block_mesh.proofs.BuilderLemmas.{AddsTriangles-begun, AddsTriangles-next, AddsTriangles-same}
use Rattle.block_mesh.proofs.SetBitLemmas.{first-after}
use Rattle.block_mesh.proofs.SurfaceCellLemmas.{row-skip}
use Rattle.block_mesh.proofs.mesher.add_row.Goals as goal
use Rattle.block_mesh.proofs.mesher.add_row.Goals.{After-first_set-x-in-loop-x}

abbrev cell : Node → ℕ → ℕ → Field → ℕ → List (List Key)
cell n z y s x = regular_triangles s n.level (cell_corner n z y x)

pub loop-x-init : goal.loop-x-init
loop-x-init c =
    let b = c.args.brick.now in
    let n = b.node in
    let z = c.args.z in
    let y = c.args.y in
    let x = c.first_set-x.result in
    record {
      within = c.first_set-x.ensures.within;
      end = c.surface_cells-cells.ensures.end;
      rest = λ k after k_in. refl;
      none = c.first_set-x.ensures.before;
      few = omega arith;
      adds = AddsTriangles-same b (λ s. joined 0 (cell n z y s)) (λ s. joined x (cell n z y s))
          c.args.builder.now c.args.builder.now
          (λ s has. row-skip s n z y c.surface_cells-cells.result 0 x
          (omega arith) c.first_set-x.ensures.within
          (λ k k_in none. c.surface_cells-cells.ensures.plain k k_in none s n z y
          (c.requires.rows s has)) (λ k after. c.first_set-x.ensures.before k))
          (AddsTriangles-begun b (cell n z y) c.args.builder.now c.requires.builds);
    }

pub add_cell-requires-clause-builds : goal.add_cell-requires-clause-builds
add_cell-requires-clause-builds c = c.loop-x.invariant.adds.builds

pub add_cell-requires-clause-room : goal.add_cell-requires-clause-room
add_cell-requires-clause-room c =
    omega (arith, c.requires.room, c.loop-x.invariant.few, c.loop-x-test.true)

pub first_set-x-requires-in-loop-x : goal.first_set-x-requires-in-loop-x
first_set-x-requires-in-loop-x c =
    c.without-rest.ensures.kept 16 (omega arith) (λ same. omega (arith, same, c.loop-x-test.true))
    ∙ c.loop-x.invariant.end

-- no bit is left up to the cell that was added
none-left : (c : After-first_set-x-in-loop-x) → (k : ℕ) → k < c.loop-x.x + 1
    → bit_at c.without-rest.result k ≡ 0
none-left c k k_in =
    elim (cases_lt k c.loop-x.x) [
      | inl before ↦
          c.without-rest.ensures.kept k (omega (arith, before, c.loop-x-test.true))
          (λ same. omega (arith, same, before))
          ∙ c.loop-x.invariant.none k before
      | inr here ↦
          let same : k ≡ c.loop-x.x = omega (arith, here, k_in) in
          ap (bit_at c.without-rest.result) same ∙ c.without-rest.ensures.gone
    ]

-- after it the bits are those of the cells
still-left : (c : After-first_set-x-in-loop-x) → (k : ℕ) → c.loop-x.x + 1 ≤ k → k ≤ 16
    → bit_at c.without-rest.result k ≡ bit_at c.surface_cells-cells.result k
still-left c k after k_in =
    c.without-rest.ensures.kept k k_in (λ same. omega (arith, same, after))
    ∙ c.loop-x.invariant.rest k (omega (arith, after)) k_in

pub loop-x-preserved : goal.loop-x-preserved
loop-x-preserved c =
    let d = (goal.at.loop-x-preserved c).After-first_set-x-in-loop-x in
    let b = c.args.brick.now in
    let n = b.node in
    let z = c.args.z in
    let y = c.args.y in
    let x = c.loop-x.x in
    let next = c.first_set-x-in-loop-x.result in
    let found = c.first_set-x-in-loop-x.ensures in
    let after : x + 1 ≤ next =
    first-after c.without-rest.result (x + 1) next (none-left d) found.set in
    let corner : (p : Point) → Point = λ p. cell_corner n p.z p.y p.x in
    record {
      within = found.within;
      end = still-left d 16 (omega (arith, c.loop-x-test.true)) (omega arith)
          ∙ c.surface_cells-cells.ensures.end;
      rest = λ k k_after. still-left d k (omega (arith, after, k_after));
      none = found.before;
      few = omega (arith, c.in_ok-add_cell.ensures.few, c.loop-x.invariant.few, after);
      adds = AddsTriangles-same b (λ s. joined (x + 1) (cell n z y s))
          (λ s. joined next (cell n z y s)) c.args.builder.now c.add_cell.new.builder
          (λ s has. row-skip s n z y c.surface_cells-cells.result (x + 1) next after found.within
          (λ k k_in none. c.surface_cells-cells.ensures.plain k k_in none s n z y
          (c.requires.rows s has))
          (λ k k_after before.
          sym (still-left d k k_after (omega (arith, before, found.within)))
          ∙ found.before k before))
          (AddsTriangles-next b (cell n z y) x c.args.builder.now c.loop-x.builder
          c.add_cell.new.builder c.loop-x.invariant.adds
          (AddsTriangles-same b (λ s. regular_triangles s n.level (corner c.new.result))
          (λ s. cell n z y s x) c.loop-x.builder c.add_cell.new.builder
          (λ s has. ap (λ (p : Point). regular_triangles s n.level (corner p)) c.new.ensures)
          c.in_ok-add_cell.ensures.adds));
    }

pub returns-clause-few : goal.returns-clause-few
returns-clause-few c = omega (arith, c.loop-x.invariant.few, c.loop-x.invariant.within)

pub returns-clause-adds : goal.returns-clause-adds
returns-clause-adds c =
    let last : c.loop-x.x ≡ 16 =
    omega (arith, c.loop-x.invariant.within, c.loop-x-test.false) in
    let b = c.args.brick.now in
    subst (λ k. AddsTriangles b (λ s. joined k (cell b.node c.args.z c.args.y s))
    c.args.builder.now c.loop-x.builder) last c.loop-x.invariant.adds
