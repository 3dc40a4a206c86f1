-- A coarse key that isn't in the table goes behind the others.
use Rattle.std.proofs.Common.{◌≡◌, ℕ, ◌+◌, ◌/◌, ◌<◌, List, [], ◌∷◌, ◌++◌, ◌-◌, ◌≢◌, set, ℤ, pos, get_or, length, map, refl, sym, ap, ◌∙◌, subst, arith, true}
use Rattle.std.proofs.lemmas.List.{length-map, length_push}
use Rattle.std.proofs.lemmas.List.Elements.{All-push}
use Rattle.lattice.specs.declared.key.Key.{Key}
use Rattle.lattice.specs.declared.point.Axis.{Axis}
use Rattle.lattice.specs.declared.point.Point.{Point}
use Rattle.lattice.specs.Key.{is_same_key}
use Rattle.terrain.specs.Samples.{Field, IsSample}
use Rattle.bricks.specs.Brick.{HasSamples}
use Rattle.bricks.specs.Slots.{point_step}
use Rattle.block_mesh.specs.Mesh.{index_among}
use Rattle.block_mesh.specs.KeyTable.{HasEntries, IsEdgeTable, IsOnBorder, edge_slot, entry, fine_slot}
use Rattle.vertex_places.specs.LeafEdges.{AreEndSamples}
use Rattle.block_mesh.specs.Builder.{AreEdgesOf, IsEdgeOf}
use Rattle.block_mesh.specs.MeshEdges.{axis_at_slot, edge_at_slot, leaf_edge_of, mesh_key, point_at_slot}
use Rattle.block_mesh.specs.declared.mesh_edge.MeshEdge.{MeshEdge}
use Rattle.block_mesh.specs.declared.mesh_edge.MeshEdge.TheVariants.{Coarse}
use Rattle.lattice.specs.Steps.{AreAtMost, key_at}
use Rattle.block_mesh.proofs.KeyTableLemmas.{HasEntries-more, HasEntries-other, IsEdgeTable-later, IsEdgeTable-more, entry-new, point_slot-next, slot-from}
use Rattle.block_mesh.proofs.EdgeLemmas.{coarse-samples, coarse_edge, keys-more, sample-at}
use Rattle.block_mesh.proofs.MeshEdgeLemmas.{slot-of_edge, slot-of_point}
use Rattle.vertex_places.proofs.LeafKeyLemmas.{AreAtMost-before}
use Rattle.block_mesh.proofs.builder.Builder.add_coarse.Goals as goal
use Rattle.block_mesh.proofs.builder.Builder.add_coarse.Goals.{In_ok-push}

-- where the edge begins, and its axis
at_of : (c : In_ok-push) → Point
at_of c = point_at_slot (c.args.slot / 3)

axis_of : (c : In_ok-push) → Axis
axis_of c = axis_at_slot c.args.slot

-- the samples at the ends of the edge
near_of : (c : In_ok-push) → ℤ
near_of c = get_or c.args.brick.now.samples (c.args.slot / 3) (pos 0)

far_of : (c : In_ok-push) → ℤ
far_of c =
    get_or c.args.brick.now.samples (c.args.slot / 3 + point_step (axis_of c)) (pos 0)

ends : (c : In_ok-push) → (s : Field) → HasSamples s c.args.brick.now
    → AreEndSamples s
    (key_at c.args.brick.now.node.level c.args.brick.now.node (at_of c) (axis_of c))
    (near_of c) (far_of c)
unfolding at_of axis_of near_of far_of
ends c =
    let samples = c.args.brick.now.samples in
    let here = slot-of_point (c.args.slot / 3) in
    coarse-samples c.args.brick.now (at_of c) (axis_of c) _ _ c.requires.slot.end
    (ap (λ k. get_or samples k (pos 0)) (sym here))
    (ap (λ k. get_or samples k (pos 0)) (sym (ap (λ k. k + point_step (axis_of c)) here)
    ∙ point_slot-next (at_of c) (axis_of c)))

is_edge : (c : In_ok-push) → IsEdgeOf c.args.brick.now (edge_at_slot c.args.brick.now c.args.slot)
unfolding at_of axis_of near_of far_of
is_edge c =
    let b = c.args.brick.now in
    let range = subst (λ xs. (k : ℕ) → IsSample (get_or xs k (pos 0))) c.samples.ensures.value
    (λ k. sample-at c.samples.result.now k c.samples.ensures.range) in
    coarse_edge b (at_of c) (axis_of c) (near_of c) (far_of c) c.requires.slot.end
    (range (c.args.slot / 3)) (range (c.args.slot / 3 + point_step (axis_of c)))
    (ends c) c.requires.present c.samples.ensures.field

pub returns-clause-adds : goal.returns-clause-adds
returns-clause-adds c =
    let d = (goal.at.returns-clause-adds c).In_ok-push in
    let b = c.args.brick.now in
    let n = b.node in
    let at : Point = point_at_slot (c.args.slot / 3) in
    let axis : Axis = axis_at_slot c.args.slot in
    let key : Key = key_at n.level n at axis in
    let edge : MeshEdge = Coarse c.args.slot in
    let edges = c.args.self.now.edges in
    let keys : List Key = map (mesh_key b) edges in
    let table = c.args.self.now.coarse.items in
    let base = c.args.self.now.base in
    let builds = c.requires.builds in
    let at_in = AreAtMost-before 16 axis at c.requires.slot.end in
    let slot_is : c.args.slot ≡ edge_slot at axis = sym (slot-of_edge c.args.slot) in
    let slot_in : c.args.slot < length table =
    omega (arith, c.requires.slot.within, builds.spare.coarse.whole) in
    let none : entry key keys ≡ 0 =
    sym (builds.coarse.each at axis at_in) ∙ ap (λ k. get_or table k 0 - base) (sym slot_is)
    ∙ c.requires.new in
    let new = entry-new key keys none in
    let added : c.push.new.self ≡ edges ++ edge ∷ [] = c.in_ok-push.ensures in
    let pushed : map (mesh_key b) c.push.new.self ≡ keys ++ key ∷ [] =
    ap (map (mesh_key b)) added ∙ keys-more b edges edge in
    let count : c.len-place.result ≡ length keys =
    c.len-place.ensures ∙ sym (length-map edges (mesh_key b)) in
    let longer : length edges + 1 ≡ length c.push.new.self =
    omega (arith, ap length added, length_push edges edge) in
    let tells : (x y : Key) → is_same_key x y ≡ true → x ≡ y =
    λ x y. (c.keys_are_told_apart.ensures x y).0 in
    let more : HasEntries n n.level (AreAtMost 16) edge_slot base
    (set table (edge_slot at axis) (base + length keys + 1)) (keys ++ key ∷ []) =
    HasEntries-more n n.level (AreAtMost 16) edge_slot base table keys at axis tells
    (λ p q a b p_in q_in. slot-from p q a b p_in q_in) at_in
    (subst (λ k. k < length table) slot_is slot_in) builds.coarse none in
    let P : ℕ → ℕ → List Key → Type 0 = λ i x ks.
    HasEntries n n.level (AreAtMost 16) edge_slot base (set table i (base + x + 1)) ks in
    record {
      keys = pushed ∙ new.keys_more;
      at_is = count ∙ new.at_is ∙ ap (index_among key) (sym pushed);
      triangles = refl;
      builds = record {
        edges = subst (AreEdgesOf b) (sym added)
            (All-push (λ e. IsEdgeOf b (leaf_edge_of b e)) edges edge builds.edges (is_edge d));
        spare = record {
          coarse = subst (λ k. IsEdgeTable 14739 base k
              (set table c.args.slot (base + c.len-place.result + 1))) longer
              (subst (λ x. IsEdgeTable 14739 base (length edges + 1)
              (set table c.args.slot (base + x + 1))) (sym c.len-place.ensures)
              (IsEdgeTable-more 14739 base (length edges) table c.args.slot slot_in
              builds.spare.coarse));
          fine = subst (λ k. IsEdgeTable 19602 base k c.args.self.now.fine.items) longer
              (IsEdgeTable-later 19602 base (length edges) c.args.self.now.fine.items
              builds.spare.fine);
        };
        coarse =
            let all : List Key = map (mesh_key b) c.push.new.self in
            subst (λ i. P i c.len-place.result all) (sym slot_is)
            (subst (λ x. P (edge_slot at axis) x all) (sym count)
            (subst (P (edge_slot at axis) (length keys)) (sym pushed) more));
        fine = λ some.
            let other : key.level ≢ n.level - 1 = omega arith in
            subst (HasEntries n (n.level - 1) IsOnBorder fine_slot base c.args.self.now.fine.items)
            (sym pushed)
            (HasEntries-other n (n.level - 1) IsOnBorder fine_slot base c.args.self.now.fine.items
            keys key tells other (builds.fine some));
        low = builds.low;
        moves = builds.moves;
      };
    }
