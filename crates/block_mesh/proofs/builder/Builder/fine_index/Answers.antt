-- The table tells where a fine key is, and one that it doesn't have goes behind the others.
use Rattle.std.proofs.Common.{◌≡◌, ℕ, ◌+◌, ◌-◌, ◌*◌, ◌<◌, ◌≢◌, List, [], ◌∷◌, ◌++◌, ℤ, pos, get_or, length, map, set, refl, sym, true, ap, ◌∙◌, subst, arith, rules, SFits, w8}
use Rattle.std.proofs.lemmas.Int.{to_z-of_z}
use Rattle.std.proofs.lemmas.List.{get_or_read, length-map, length_push}
use Rattle.std.proofs.lemmas.List.Elements.{All-push}
use Rattle.lattice.specs.declared.key.Key.{Key}
use Rattle.lattice.specs.declared.point.Axis.{Axis}
use Rattle.lattice.specs.declared.point.Point.{Point}
use Rattle.lattice.specs.Face.{axis_along}
use Rattle.lattice.specs.Key.{is_same_key}
use Rattle.lattice.specs.Point.{moved}
use Rattle.terrain.specs.Samples.{Field}
use Rattle.cells.specs.Edges.{face_axis}
use Rattle.vertex_places.specs.declared.leaf_edge.LeafEdge.{LeafEdge}
use Rattle.bricks.specs.Brick.{HasSamples}
use Rattle.block_mesh.specs.KeyTable.{HasEntries, IsEdgeTable, IsOnBorder, edge_slot, entry, fine_slot}
use Rattle.vertex_places.specs.LeafEdges.{AreEndSamples, edge_at}
use Rattle.block_mesh.specs.Builder.{AreEdgesOf, IsEdgeOf}
use Rattle.block_mesh.specs.MeshEdges.{leaf_edge_of, mesh_key}
use Rattle.block_mesh.specs.declared.mesh_edge.MeshEdge.{MeshEdge}
use Rattle.block_mesh.specs.declared.mesh_edge.MeshEdge.TheVariants.{Fine}
use Rattle.lattice.specs.Steps.{AreAtMost, face_steps, key_at}
use Rattle.block_mesh.specs.Mesh.{index_among}
use Rattle.block_mesh.proofs.BorderLemmas.{face-border, fine-from}
use Rattle.block_mesh.proofs.FaceStepLemmas.{ends-within, fine-samples, slot_step}
use Rattle.block_mesh.proofs.KeyTableLemmas.{HasEntries-more, HasEntries-other, IsEdgeTable-later, IsEdgeTable-more, entry-known, entry-new}
use Rattle.block_mesh.proofs.EdgeLemmas.{fine_edge, keys-more, sample-at}
use Rattle.block_mesh.proofs.builder.Builder.fine_index.Goals as goal
use Rattle.block_mesh.proofs.builder.Builder.fine_index.Goals.{After-fine_slot-slot, In_ok-push, in-Lower, in-Higher}

-- where the edge begins, and its axis
at_of : (c : After-fine_slot-slot) → Point
at_of c = face_steps c.args.face 32 c.args.v c.args.u

axis_of : (c : After-fine_slot-slot) → Axis
axis_of c = axis_along c.args.face (face_axis c.args.along)

-- the place that is looked up is that of the edge
slot_is : (c : After-fine_slot-slot) → c.fine_slot-slot.result ≡ fine_slot (at_of c) (axis_of c)
unfolding at_of axis_of
slot_is c =
    c.fine_slot-slot.ensures.value
    ∙ (λ i. fine_slot (c.face_steps-at.ensures i) (c.axis-axis.ensures i))

-- the number that is found is the entry of the edge's key
entry_is : (c : After-fine_slot-slot)
    → get_or c.args.self.now.fine.items c.fine_slot-slot.result 0 - c.args.self.now.base
    ≡ entry (key_at (c.args.brick.now.node.level - 1) c.args.brick.now.node (at_of c) (axis_of c))
    (map (mesh_key c.args.brick.now) c.args.self.now.edges)
unfolding at_of axis_of
entry_is c =
    ap (λ k. get_or c.args.self.now.fine.items k 0 - c.args.self.now.base) (slot_is c)
    ∙ (c.requires.builds.fine c.requires.face.level).each (at_of c) (axis_of c)
    (face-border c.args.face c.args.v c.args.u c.args.along c.requires.end)

pub fine_slot-slot-requires : goal.fine_slot-slot-requires
fine_slot-slot-requires c =
    let from = face-border c.args.face c.args.v c.args.u c.args.along c.requires.end in
    subst (AreAtMost 32) (sym c.face_steps-at.ensures) from.within

pub returns-then-known-gt0-clause-adds : goal.returns-then-known-gt0-clause-adds
unfolding at_of axis_of
returns-then-known-gt0-clause-adds c =
    let d = (goal.at.returns-then-known-gt0-clause-adds c).After-fine_slot-slot in
    let n = c.args.brick.now.node in
    let builds = c.requires.builds in
    let table = c.args.self.now.fine.items in
    let base = c.args.self.now.base in
    let keys : List Key = map (mesh_key c.args.brick.now) c.args.self.now.edges in
    let key : Key = key_at (n.level - 1) n (at_of d) (axis_of d) in
    let slot_in : c.fine_slot-slot.result < length table =
    omega (arith, c.fine_slot-slot.ensures.within, builds.spare.fine.whole) in
    let is : c.saturating_sub-known.result ≡ entry key keys =
    c.saturating_sub-known.ensures
    ∙ ap (λ e. e - base) (get_or_read table c.fine_slot-slot.result c.index.result.now slot_in
    c.index.ensures 0)
    ∙ entry_is d in
    let there = entry-known key keys c.saturating_sub-known.result is c.if-known-gt0.true in
    record {
      keys = there.keys_stay;
      at_is = there.at_is;
      triangles = refl;
      builds = record {
        edges = builds.edges;
        spare = builds.spare;
        coarse = builds.coarse;
        fine = builds.fine;
        low = builds.low;
        moves = builds.moves;
      };
    }

-- ---- a key that the table doesn't have

-- it ends on the face
within : (c : In_ok-push) → AreAtMost 32 (moved (axis_along c.args.face (face_axis c.args.along)) 1
    (face_steps c.args.face 32 c.args.v c.args.u))
within c = ends-within c.args.face c.args.v c.args.u c.args.along c.requires.end

-- the samples at its ends
near_of : (c : In_ok-push) → ℤ
near_of c = get_or c.args.fines.now (c.args.v * 33 + c.args.u) (pos 0)

far_of : (c : In_ok-push) → ℤ
far_of c = get_or c.args.fines.now (c.args.v * 33 + c.args.u + c.match-along.step) (pos 0)

step-is : (c : In_ok-push) → c.match-along.step ≡ slot_step c.args.along
step-is c = elim c.match-along.branch [
  | in-Lower w ↦ w.step-is ∙ ap slot_step (sym w.in-Lower.is)
  | in-Higher w ↦ w.step-is ∙ ap slot_step (sym w.in-Higher.is)
]

ends : (c : In_ok-push) → (s : Field) → HasSamples s c.args.brick.now
    → AreEndSamples s (key_at (c.args.brick.now.node.level - 1) c.args.brick.now.node
    (face_steps c.args.face 32 c.args.v c.args.u)
    (axis_along c.args.face (face_axis c.args.along))) (near_of c) (far_of c)
unfolding near_of far_of
ends c =
    fine-samples c.args.brick.now c.args.face c.args.fines.now c.args.v c.args.u c.args.along _ _
    c.requires.face c.requires.end refl
    (ap (λ k. get_or c.args.fines.now (c.args.v * 33 + c.args.u + k) (pos 0)) (step-is c))

-- the edge at hand
the_edge : (c : In_ok-push) → LeafEdge
the_edge c =
    edge_at (c.args.brick.now.node.level - 1) (face_steps c.args.face 32 c.args.v c.args.u)
    (axis_along c.args.face (face_axis c.args.along)) (near_of c) (far_of c)

is_edge : (c : In_ok-push) → IsEdgeOf c.args.brick.now (the_edge c)
unfolding the_edge near_of far_of
is_edge c =
    let range = c.requires.face.range in
    fine_edge c.args.brick.now (face_steps c.args.face 32 c.args.v c.args.u)
    (axis_along c.args.face (face_axis c.args.along)) (near_of c) (far_of c)
    c.requires.face.level (within c)
    (sample-at c.args.fines.now (c.args.v * 33 + c.args.u) range)
    (sample-at c.args.fines.now (c.args.v * 33 + c.args.u + c.match-along.step) range)
    (ends c) c.requires.present c.requires.face.field

edge_is : (c : In_ok-push) → c.new-edge.result ≡ the_edge c
unfolding the_edge near_of far_of
edge_is c =
    let near : ℤ = near_of c in
    let far : ℤ = far_of c in
    let near_fits : SFits w8 near = search rules in
    let far_fits : SFits w8 far = search rules in
    c.new-edge.ensures
    ∙ (λ i. edge_at ((c.node.ensures.value i).level - 1) (c.face_steps-at.ensures i)
    (c.axis-axis.ensures i) (to_z-of_z w8 near near_fits i) (to_z-of_z w8 far far_fits i))

pub returns-clause-adds : goal.returns-clause-adds
unfolding the_edge at_of axis_of
returns-clause-adds c =
    let d = (goal.at.returns-clause-adds c).In_ok-push in
    let e = (goal.at.returns-clause-adds c).After-fine_slot-slot in
    let b = c.args.brick.now in
    let n = b.node in
    let level = n.level - 1 in
    let at : Point = at_of e in
    let axis : Axis = axis_of e in
    let key : Key = key_at level n at axis in
    let edge : MeshEdge = Fine (the_edge d) in
    let edges = c.args.self.now.edges in
    let keys : List Key = map (mesh_key b) edges in
    let table = c.args.self.now.fine.items in
    let base = c.args.self.now.base in
    let builds = c.requires.builds in
    let slot : ℕ = c.fine_slot-slot.result in
    let slot_in : slot < length table =
    omega (arith, c.fine_slot-slot.ensures.within, builds.spare.fine.whole) in
    let read : c.saturating_sub-known.result ≡ get_or table slot 0 - base =
    c.saturating_sub-known.ensures
    ∙ ap (λ x. x - base) (get_or_read table slot c.index.result.now slot_in c.index.ensures 0) in
    let zero : c.saturating_sub-known.result ≡ 0 = omega (arith, c.if-known-gt0.false) in
    let none : entry key keys ≡ 0 = sym (entry_is e) ∙ sym read ∙ zero in
    let new = entry-new key keys none in
    let added : c.push.new.self ≡ edges ++ edge ∷ [] =
    c.in_ok-push.ensures ∙ ap (λ x. edges ++ Fine x ∷ []) (edge_is d) in
    let pushed : map (mesh_key b) c.push.new.self ≡ keys ++ key ∷ [] =
    ap (map (mesh_key b)) added ∙ keys-more b edges edge in
    let count : c.len-place.result ≡ length keys =
    c.len-place.ensures ∙ sym (length-map edges (mesh_key b)) in
    let longer : length edges + 1 ≡ length c.push.new.self =
    omega (arith, ap length added, length_push edges edge) in
    let tells : (x y : Key) → is_same_key x y ≡ true → x ≡ y =
    λ x y. (c.keys_are_told_apart.ensures x y).0 in
    let begins = face-border c.args.face c.args.v c.args.u c.args.along c.requires.end in
    let more : HasEntries n level IsOnBorder fine_slot base
    (set table (fine_slot at axis) (base + length keys + 1)) (keys ++ key ∷ []) =
    HasEntries-more n level IsOnBorder fine_slot base table keys at axis tells
    (λ p q a b p_in q_in. fine-from p q a b p_in q_in) begins
    (subst (λ k. k < length table) (slot_is e) slot_in) (builds.fine c.requires.face.level) none in
    let P : ℕ → ℕ → List Key → Type 0 = λ i x ks.
    HasEntries n level IsOnBorder fine_slot base (set table i (base + x + 1)) ks in
    record {
      keys = pushed ∙ new.keys_more;
      at_is = count ∙ new.at_is ∙ ap (index_among key) (sym pushed);
      triangles = refl;
      builds = record {
        edges = subst (AreEdgesOf b) (sym added)
            (All-push (λ e. IsEdgeOf b (leaf_edge_of b e)) edges edge builds.edges (is_edge d));
        spare = record {
          coarse = subst (λ k. IsEdgeTable 14739 base k c.args.self.now.coarse.items) longer
              (IsEdgeTable-later 14739 base (length edges) c.args.self.now.coarse.items
              builds.spare.coarse);
          fine = subst (λ k. IsEdgeTable 19602 base k
              (set table slot (base + c.len-place.result + 1))) longer
              (subst (λ x. IsEdgeTable 19602 base (length edges + 1)
              (set table slot (base + x + 1))) (sym c.len-place.ensures)
              (IsEdgeTable-more 19602 base (length edges) table slot slot_in builds.spare.fine));
        };
        coarse =
            let other : key.level ≢ n.level = omega (arith, c.requires.face.level) in
            subst (HasEntries n n.level (AreAtMost 16) edge_slot base c.args.self.now.coarse.items)
            (sym pushed)
            (HasEntries-other n n.level (AreAtMost 16) edge_slot base
            c.args.self.now.coarse.items keys key tells other builds.coarse);
        fine = λ _.
            subst (λ i. P i c.len-place.result (map (mesh_key b) c.push.new.self)) (sym (slot_is e))
            (subst (λ x. P (fine_slot at axis) x (map (mesh_key b) c.push.new.self)) (sym count)
            (subst (P (fine_slot at axis) (length keys)) (sym pushed) more));
        low = builds.low;
        moves = builds.moves;
      };
    }
