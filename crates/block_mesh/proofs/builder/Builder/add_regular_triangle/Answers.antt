-- Three keys are asked for, and their triangle goes behind the others.
use Rattle.std.proofs.Common.{ℕ, ◌+◌, ◌∷◌, [], List, map, refl, ap, sym, ◌∙◌, subst, arith}
use Rattle.std.proofs.lemmas.Result.{on_ok_weaker}
use Rattle.terrain.specs.Cells.{IsPresent}
use Rattle.lattice.specs.declared.key.Key.{Key}
use Rattle.block_mesh.specs.MeshEdges.{IsEdgeSlot, key_at_slot}
use Rattle.block_mesh.proofs.BuilderLemmas.{AddsTriangles-same, AddsTriangles-three}
use Rattle.block_mesh.proofs.LeafCellLemmas.{item-at, item-of, three}
use Rattle.block_mesh.proofs.builder.Builder.add_regular_triangle.Goals as goal

pub slot_index-requires-clause-slot : goal.slot_index-requires-clause-slot
slot_index-requires-clause-slot c =
    subst (λ step. IsEdgeSlot (c.args.first + step)) (sym c.from.ensures)
    (item-at (λ step. IsEdgeSlot (c.args.first + step)) c.args.triangle.now 0 c.requires.slots
    (omega (arith, c.told-triangle)))

pub slot_index-requires-clause-present : goal.slot_index-requires-clause-present
slot_index-requires-clause-present c = λ s has.
    subst (λ step. IsPresent s (key_at_slot c.args.brick.now (c.args.first + step)))
    (sym c.from.ensures)
    (item-of (IsPresent s) (λ step. key_at_slot c.args.brick.now (c.args.first + step))
    c.args.triangle.now 0 (c.requires.present s has) (omega (arith, c.told-triangle)))

pub slot_index-requires-2-clause-slot : goal.slot_index-requires-2-clause-slot
slot_index-requires-2-clause-slot c =
    subst (λ step. IsEdgeSlot (c.args.first + step)) (sym c.from-2.ensures)
    (item-at (λ step. IsEdgeSlot (c.args.first + step)) c.args.triangle.now 1 c.requires.slots
    (omega (arith, c.told-triangle)))

pub slot_index-requires-2-clause-present : goal.slot_index-requires-2-clause-present
slot_index-requires-2-clause-present c = λ s has.
    subst (λ step. IsPresent s (key_at_slot c.args.brick.now (c.args.first + step)))
    (sym c.from-2.ensures)
    (item-of (IsPresent s) (λ step. key_at_slot c.args.brick.now (c.args.first + step))
    c.args.triangle.now 1 (c.requires.present s has) (omega (arith, c.told-triangle)))

pub slot_index-requires-2-clause-builds : goal.slot_index-requires-2-clause-builds
slot_index-requires-2-clause-builds c = c.in_ok-slot_index.ensures.adds.builds

pub slot_index-requires-3-clause-slot : goal.slot_index-requires-3-clause-slot
slot_index-requires-3-clause-slot c =
    subst (λ step. IsEdgeSlot (c.args.first + step)) (sym c.from-3.ensures)
    (item-at (λ step. IsEdgeSlot (c.args.first + step)) c.args.triangle.now 2 c.requires.slots
    (omega (arith, c.told-triangle)))

pub slot_index-requires-3-clause-present : goal.slot_index-requires-3-clause-present
slot_index-requires-3-clause-present c = λ s has.
    subst (λ step. IsPresent s (key_at_slot c.args.brick.now (c.args.first + step)))
    (sym c.from-3.ensures)
    (item-of (IsPresent s) (λ step. key_at_slot c.args.brick.now (c.args.first + step))
    c.args.triangle.now 2 (c.requires.present s has) (omega (arith, c.told-triangle)))

pub slot_index-requires-3-clause-builds : goal.slot_index-requires-3-clause-builds
slot_index-requires-3-clause-builds c = c.in_ok-slot_index-2.ensures.adds.builds

pub returns-clause-few : goal.returns-clause-few
returns-clause-few c =
    on_ok_weaker c.push.result
    (λ _. omega (
      arith,
      c.in_ok-slot_index.ensures.few,
      c.in_ok-slot_index-2.ensures.few,
      c.in_ok-slot_index-3.ensures.few,
    )) c.push.ensures

pub returns-clause-adds : goal.returns-clause-adds
returns-clause-adds c =
    let b = c.args.brick.now in
    let f : ℕ → Key = λ step. key_at_slot b (c.args.first + step) in
    let t : List ℕ = c.args.triangle.now in
    let triangle : List Key =
    f c.from.result ∷ f c.from-2.result ∷ f c.from-3.result ∷ [] in
    let new = record c.slot_index-3.new.self { triangles = c.push.new.self } in
    let builds = c.in_ok-slot_index-3.ensures.adds.builds in
    on_ok_weaker c.push.result
    (λ pushed. AddsTriangles-same b (λ _. triangle ∷ []) (λ _. map f t ∷ []) c.args.self.now new
    (λ s has. ap (λ row. map f row ∷ [])
    ((λ i. c.from.ensures i ∷ c.from-2.ensures i ∷ c.from-3.ensures i ∷ [])
    ∙ three t c.told-triangle))
    (AddsTriangles-three b _ _ _ c.args.self.now c.slot_index.new.self c.slot_index-2.new.self
    c.slot_index-3.new.self new _ _ _ c.in_ok-slot_index.ensures.adds
    c.in_ok-slot_index-2.ensures.adds c.in_ok-slot_index-3.ensures.adds refl pushed
    (record {
      edges = builds.edges;
      spare = record { coarse = builds.spare.coarse; fine = builds.spare.fine };
      coarse = builds.coarse;
      fine = builds.fine;
      low = builds.low;
      moves = builds.moves;
    }))) c.push.ensures
