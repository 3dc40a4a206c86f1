-- The number at the slot is the entry of the key there.
use Rattle.std.proofs.Common.{◌≡◌, ◌-◌, ◌/◌, ◌<◌, List, get_or, length, map, refl, ap, sym, ◌∙◌, arith}
use Rattle.std.proofs.lemmas.List.{get_or_read}
use Rattle.lattice.specs.declared.key.Key.{Key}
use Rattle.lattice.specs.declared.point.Axis.{Axis}
use Rattle.lattice.specs.declared.point.Point.{Point}
use Rattle.block_mesh.specs.KeyTable.{entry}
use Rattle.block_mesh.specs.MeshEdges.{axis_at_slot, key_at_slot, mesh_key, point_at_slot}
use Rattle.block_mesh.proofs.KeyTableLemmas.{entry-known}
use Rattle.block_mesh.proofs.MeshEdgeLemmas.{slot-of_edge}
use Rattle.vertex_places.proofs.LeafKeyLemmas.{AreAtMost-before}
use Rattle.block_mesh.proofs.builder.Builder.slot_index.Goals as goal

pub returns-then-known-gt0-clause-adds : goal.returns-then-known-gt0-clause-adds
returns-then-known-gt0-clause-adds c =
    let b = c.args.brick.now in
    let slot = c.args.slot in
    let at : Point = point_at_slot (slot / 3) in
    let axis : Axis = axis_at_slot slot in
    let keys : List Key = map (mesh_key b) c.args.self.now.edges in
    let table = c.args.self.now.coarse.items in
    let builds = c.requires.builds in
    let slot_in : slot < length table =
    omega (arith, c.requires.slot.within, builds.spare.coarse.whole) in
    let base = c.args.self.now.base in
    let is : c.saturating_sub-known.result ≡ entry (key_at_slot b slot) keys =
    c.saturating_sub-known.ensures
    ∙ ap (λ e. e - base) (get_or_read table slot c.index.result.now slot_in c.index.ensures 0)
    ∙ ap (λ k. get_or table k 0 - base) (sym (slot-of_edge slot))
    ∙ builds.coarse.each at axis (AreAtMost-before 16 axis at c.requires.slot.end) in
    let there = entry-known (key_at_slot b slot) keys c.saturating_sub-known.result is
    c.if-known-gt0.true in
    record {
      keys = there.keys_stay;
      at_is = there.at_is;
      triangles = refl;
      builds = record {
        edges = builds.edges;
        spare = builds.spare;
        coarse = builds.coarse;
        fine = builds.fine;
        low = builds.low;
        moves = builds.moves;
      };
    }
