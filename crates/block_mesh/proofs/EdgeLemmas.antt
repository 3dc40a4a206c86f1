-- Edges of a brick's leaf: the samples at their ends, and their keys.
--
-- For the builder's places of keys. An edge that is added has the brick's samples at its ends (`coarse-samples`; for
-- the level below `fine-samples` of `FaceStepLemmas`), which aren't both 0, as its key is present (`some-end`). So it
-- is an edge of the leaf, coarse or fine (`coarse_edge`, `fine_edge`).
use Rattle.std.proofs.Common.{◌≡◌, ℕ, ◌+◌, ◌<◌, true, List, [], ◌∷◌, length, get_or, ℤ, pos, negsuc, sym, ap, ◌∙◌, subst, arith, ◌-◌, ◌≤◌, ◌++◌, map, inl, inr, refl}
use Rattle.std.specs.Prelude.{unsigned_abs, not, All}
use Rattle.std.specs.Bool.{beq}
use Rattle.std.proofs.Math.Logic.{∥∥₁_elim}
use Rattle.std.proofs.Math.Bridge.{le_prop}
use Rattle.std.proofs.lemmas.Bool.{false≢true, cases_lt}
use Rattle.lattice.specs.declared.key.Key.{Key}
use Rattle.lattice.specs.declared.point.Axis.{Axis}
use Rattle.lattice.specs.declared.point.Point.{Point}
use Rattle.lattice.specs.Key.{far_end}
use Rattle.lattice.specs.Point.{moved}
use Rattle.terrain.specs.Samples.{Field, is_solid, IsSample}
use Rattle.terrain.specs.Cells.{IsPresent}
use Rattle.terrain.specs.Levels.{LevelMap}
use Rattle.terrain.specs.Blocks.{Brick}
use Rattle.bricks.specs.Brick.{HasBrick, HasSamples}
use Rattle.bricks.specs.Slots.{point_slot}
use Rattle.vertex_places.specs.LeafEdges.{AreEndSamples, edge_at}
use Rattle.lattice.specs.Steps.{AreAtMost, key_at}
use Rattle.vertex_places.specs.Moves.{IsLeafOf}
use Rattle.bricks.proofs.BrickLemmas.{brick-rim}
use Rattle.bricks.proofs.SampleLemmas.{leaf_samples-at}
use Rattle.vertex_places.proofs.LeafKeyLemmas.{AreAtMost-before, far_end-key_at}
use Rattle.std.proofs.lemmas.List.{get_or_past, map-append}
use Rattle.std.proofs.lemmas.List.Elements.{All-get_or}
use Rattle.block_mesh.specs.Builder.{IsEdgeOf}
use Rattle.block_mesh.specs.MeshEdges.{mesh_key}
use Rattle.block_mesh.specs.declared.mesh_edge.MeshEdge.{MeshEdge}

-- the samples at two places of a brick are those at the ends of a coarse key
pub coarse-samples : (b : Brick) (at : Point) (axis : Axis) (near far : ℤ)
    → AreAtMost 16 (moved axis 1 at) → near ≡ get_or b.samples (point_slot at) (pos 0)
    → far ≡ get_or b.samples (point_slot (moved axis 1 at)) (pos 0) → (s : Field) → HasSamples s b
    → AreEndSamples s (key_at b.node.level b.node at axis) near far
coarse-samples b at axis near far within near_is far_is s has = record {
  near_is = near_is ∙ ap (λ xs. get_or xs (point_slot at) (pos 0)) has.leaf
      ∙ leaf_samples-at s b.node at (pos 0) (AreAtMost-before 16 axis at within);
  far_is = far_is ∙ ap (λ xs. get_or xs (point_slot (moved axis 1 at)) (pos 0)) has.leaf
      ∙ leaf_samples-at s b.node (moved axis 1 at) (pos 0) within
      ∙ ap s (sym (far_end-key_at b.node.level b.node at axis));
}

-- one of them isn't 0 where the key is present
some-of : (a b : ℤ) → not (beq (is_solid a) (is_solid b)) ≡ true
    → 0 < unsigned_abs a + unsigned_abs b
some-of (pos m) (pos n) h = absurd (false≢true h)
some-of (pos m) (negsuc n) h = omega arith
some-of (negsuc m) (pos n) h = omega arith
some-of (negsuc m) (negsuc n) h = absurd (false≢true h)

-- the samples at the ends of a present key are not both 0
pub some-end : (b : Brick) (key : Key) (near far : ℤ)
    → ((s : Field) → HasSamples s b → AreEndSamples s key near far)
    → ((s : Field) → HasSamples s b → IsPresent s key) → ∥ ((s : Field) × HasSamples s b) ∥₁
    → 0 < unsigned_abs near + unsigned_abs far
some-end b key near far ends present field =
    ∥∥₁_elim field le_prop (λ given.
    let e = ends given.0 given.1 in
    let P : ℤ → ℤ → Type 0 = λ x y. 0 < unsigned_abs x + unsigned_abs y in
    subst (λ x. P x far) (sym e.near_is) (subst (P (given.0 key.at)) (sym e.far_is)
    (some-of (given.0 key.at) (given.0 (far_end key)) (present given.0 given.1))))

-- the keys of edges with one more
pub keys-more : (b : Brick) (edges : List MeshEdge) (e : MeshEdge)
    → map (mesh_key b) (edges ++ e ∷ []) ≡ map (mesh_key b) edges ++ mesh_key b e ∷ []
keys-more b edges e = map-append (mesh_key b) edges (e ∷ [])

-- each number that is read from samples is one
pub sample-at : (xs : List ℤ) (k : ℕ) → All IsSample xs → IsSample (get_or xs k (pos 0))
sample-at xs k all = elim (cases_lt k (length xs)) [
  | inl within ↦ All-get_or IsSample xs k (pos 0) within all
  | inr past ↦
      let none : IsSample (pos 0) = search arith in
      subst IsSample (sym (get_or_past xs k (pos 0) past)) none
]

-- an edge of a leaf's cells
pub coarse_edge : (b : Brick) (at : Point) (axis : Axis) (near far : ℤ)
    → AreAtMost 16 (moved axis 1 at) → IsSample near → IsSample far
    → ((s : Field) → HasSamples s b
    → AreEndSamples s (key_at b.node.level b.node at axis) near far)
    → ((s : Field) → HasSamples s b → IsPresent s (key_at b.node.level b.node at axis))
    → ∥ ((s : Field) × HasSamples s b) ∥₁ → IsEdgeOf b (edge_at b.node.level at axis near far)
coarse_edge b at axis near far within is_near is_far ends present field = record {
  leaf = record {
    lies = inl (record { level = refl; end = within });
    near = is_near;
    far = is_far;
    some = some-end b (key_at b.node.level b.node at axis) near far ends present field;
  };
  samples = ends;
}

-- an edge of the level below
pub fine_edge : (b : Brick) (at : Point) (axis : Axis) (near far : ℤ) → 1 ≤ b.node.level
    → AreAtMost 32 (moved axis 1 at) → IsSample near → IsSample far
    → ((s : Field) → HasSamples s b
    → AreEndSamples s (key_at (b.node.level - 1) b.node at axis) near far)
    → ((s : Field) → HasSamples s b → IsPresent s (key_at (b.node.level - 1) b.node at axis))
    → ∥ ((s : Field) × HasSamples s b) ∥₁
    → IsEdgeOf b (edge_at (b.node.level - 1) at axis near far)
fine_edge b at axis near far one within is_near is_far ends present field = record {
  leaf = record {
    lies = inr (record { some = one; level = refl; end = within });
    near = is_near;
    far = is_far;
    some = some-end b (key_at (b.node.level - 1) b.node at axis) near far ends present field;
  };
  samples = ends;
}

-- a level map that has a brick has its leaf with its rim
pub has-leaf : (s : Field) (m : LevelMap) (b : Brick) → HasBrick s m b
    → IsLeafOf m (record { depth = b.depth; node = b.node; rim = b.rim })
has-leaf s m b has = record { node = has.leaf; bits = sym (brick-rim b b.depth s m has.same) }
