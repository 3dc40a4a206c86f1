-- What is added to a builder, one thing after another.
--
-- For `builder.rt` and `mesher.rt`. `AddsTriangles` says that the mesh so far is that of some triangles, and after it
-- that of these and more. One triangle is three keys (`AddsTriangles-three`, by `KeyLemmas`); nothing, one after the
-- other, and a loop that adds a list each time keep it (`AddsTriangles-none`, `AddsTriangles-then`,
-- `AddsTriangles-begun`, `AddsTriangles-next`). So the functions of the mesher follow the definition's loops over
-- cells.
use Rattle.std.proofs.Common.{◌≡◌, ℕ, ◌+◌, List, [], ◌∷◌, ◌++◌, map, sym, ap, ◌∙◌, subst}
use Rattle.std.proofs.lemmas.List.{append-nil, append_assoc}
use Rattle.lattice.proofs.JoinedLemmas.{joined-more}
use Rattle.lattice.specs.declared.key.Key.{Key}
use Rattle.lattice.specs.Lists.{joined}
use Rattle.terrain.specs.Samples.{Field}
use Rattle.terrain.specs.Blocks.{Brick}
use Rattle.bricks.specs.Brick.{HasSamples}
use Rattle.block_mesh.specs.Builder.{Adds, AddsTriangles, HoldsTriangles, Builds, keys_in}
use Rattle.block_mesh.specs.MeshEdges.{mesh_key}
use Rattle.block_mesh.specs.declared.builder.Builder.{Builder}
use Rattle.lattice.proofs.RowLemmas.{joined-none}
use Rattle.block_mesh.proofs.KeyLemmas.{triangle-step}

-- three keys and the triangle of their places
pub AddsTriangles-three : (b : Brick) (ka kb kc : Key) (s0 s1 s2 s3 new : Builder) (p q r : ℕ)
    → Adds b ka s0 s1 p → Adds b kb s1 s2 q → Adds b kc s2 s3 r
    → new.edges ≡ s3.edges
    → new.triangles ≡ s3.triangles ++ (p ∷ q ∷ r ∷ []) ∷ [] → Builds b new
    → AddsTriangles b (λ _. (ka ∷ kb ∷ kc ∷ []) ∷ []) s0 new
AddsTriangles-three b ka kb kc s0 s1 s2 s3 new p q r a1 a2 a3 edges triangles builds =
    record {
      holds = λ s added has held.
          let step = triangle-step added ka kb kc (keys_in b s0) (keys_in b s1) (keys_in b s2)
          (keys_in b s3) held.keys a1.keys a2.keys a3.keys in
          let kept : s3.triangles ≡ s0.triangles =
          a3.triangles ∙ a2.triangles ∙ a1.triangles in
          record {
            keys = ap (map (mesh_key b)) edges ∙ step.0;
            triangles = triangles
                ∙ (λ i. (kept ∙ held.triangles) i
                ++ (a1.at_is i ∷ a2.at_is i ∷ a3.at_is i ∷ []) ∷ [])
                ∙ step.1;
          };
      builds = builds;
    }

-- nothing was added
pub AddsTriangles-none : (b : Brick) (old : Builder) → Builds b old
    → AddsTriangles b (λ _. []) old old
AddsTriangles-none b old builds = record {
  holds = λ s added has held. subst (λ ts. HoldsTriangles b ts old) (sym (append-nil added)) held;
  builds = builds;
}

-- first these, then those
pub AddsTriangles-then : (b : Brick) (f g : Field → List (List Key)) (old mid new : Builder)
    → AddsTriangles b f old mid → AddsTriangles b g mid new
    → AddsTriangles b (λ s. f s ++ g s) old new
AddsTriangles-then b f g old mid new first then = record {
  holds = λ s added has held.
      subst (λ ts. HoldsTriangles b ts new) (append_assoc added (f s) (g s))
      (then.holds s (added ++ f s) has (first.holds s added has held));
  builds = then.builds;
}

-- the same triangles, where a field has the brick's samples
pub AddsTriangles-same : (b : Brick) (f g : Field → List (List Key)) (old new : Builder)
    → ((s : Field) → HasSamples s b → f s ≡ g s) → AddsTriangles b f old new
    → AddsTriangles b g old new
AddsTriangles-same b f g old new same adds = record {
  holds = λ s added has held.
      subst (λ more. HoldsTriangles b (added ++ more) new) (same s has)
      (adds.holds s added has held);
  builds = adds.builds;
}

-- none of them yet, and one more
pub AddsTriangles-begun : (b : Brick) (f : Field → ℕ → List (List Key)) (old : Builder)
    → Builds b old → AddsTriangles b (λ s. joined 0 (f s)) old old
AddsTriangles-begun b f old builds =
    AddsTriangles-same b (λ _. []) (λ s. joined 0 (f s)) old old
    (λ s has. sym (joined-none (f s))) (AddsTriangles-none b old builds)

-- one more list of triangles goes behind the others
pub AddsTriangles-next : (b : Brick) (f : Field → ℕ → List (List Key)) (n : ℕ)
    (old mid new : Builder) → AddsTriangles b (λ s. joined n (f s)) old mid
    → AddsTriangles b (λ s. f s n) mid new → AddsTriangles b (λ s. joined (n + 1) (f s)) old new
AddsTriangles-next b f n old mid new first then =
    AddsTriangles-same b (λ s. joined n (f s) ++ f s n) (λ s. joined (n + 1) (f s)) old new
    (λ s has. sym (joined-more n (f s)))
    (AddsTriangles-then b (λ s. joined n (f s)) (λ s. f s n) old mid new first then)
