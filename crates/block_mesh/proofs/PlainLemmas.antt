-- Plain leaves, whose samples have one sign: their bricks, and that these have no triangles.
--
-- For `Block::plain`. The lists of such a leaf's brick have one sign (`HasOneSign-leaf`, by the lemmas of plain leaves
-- in `bricks`), and a brick whose lists have one sign has no triangles (`MeshLemmas`). The brick isn't gathered; that
-- it keeps what every brick keeps is shown from the field and the level map (`IsBrick-leaf`).
use Rattle.std.proofs.Common.{◌≡◌, ℕ, true, refl, sym, ap, subst, arith}
use Rattle.std.specs.Prelude.{All}
use Rattle.lattice.specs.declared.node.Node.{Node}
use Rattle.lattice.specs.declared.point.Point.{Point}
use Rattle.lattice.specs.Node.{cube, high_corner}
use Rattle.lattice.specs.Point.{IsInWorld}
use Rattle.lattice.specs.Region.{IsWithin}
use Rattle.lattice.specs.Settings.{IsDepth}
use Rattle.terrain.specs.Blocks.{Brick, brick, face_samples}
use Rattle.terrain.specs.Levels.{IsBalanced, IsLeaf, LevelMap, rim}
use Rattle.terrain.specs.Samples.{Field, IsSample}
use Rattle.bricks.specs.Brick.{IsBrick, over_rim}
use Rattle.bricks.specs.Even.{IsPlainLeaf}
use Rattle.block_mesh.specs.Done.{IsDone}
use Rattle.terrain.specs.MeshLists.{MeshLists, no_lists}
use Rattle.block_mesh.specs.Signs.{have_one_sign}
use Rattle.bricks.proofs.CubeLemmas.{faces-all, leaf-all}
use Rattle.bricks.proofs.PlainLemmas.{plain-faces-test, plain-leaf-test}
use Rattle.bricks.proofs.RimLemmas.{IsRim-rim, over_rim-is}
use Rattle.block_mesh.proofs.MeshLemmas.{HasOneSign, IsMesh-none, IsMeshOf-none}

-- the leaf of a leaf's brick
pub node-of : (s : Field) (m : LevelMap) (depth : ℕ) (n : Node) (b : Brick) → b ≡ brick depth s m n
    → n ≡ b.node
unfolding brick
node-of s m depth n b is = ap (λ (other : Brick). other.node) (sym is)

-- the brick of a leaf of a balanced level map, in a field whose samples are in range
module _ (depth : ℕ) (s : Field) (m : LevelMap) (n : Node) (balanced : IsBalanced depth m)
    (leaf : IsLeaf depth m n) where
  -- its finer samples are those of the faces whose bits are set
  faces-are : over_rim (rim depth m n) (face_samples s n) ≡ (brick depth s m n).faces
  unfolding brick
  faces-are = over_rim-is depth m n (face_samples s n)

  -- it keeps what every brick keeps
  pub IsBrick-leaf : IsDepth depth → IsInWorld depth (high_corner n)
      → ((p : Point) → IsInWorld depth p → IsSample (s p)) → IsBrick (brick depth s m n)
  unfolding brick
  IsBrick-leaf allowed corner range =
      let rim_is = IsRim-rim depth m n balanced in
      let each : (p : Point) → IsWithin (cube n) p → IsSample (s p) = λ p on.
      range p (record {
        z = omega (arith, corner.z, on.z_end);
        y = omega (arith, corner.y, on.y_end);
        x = omega (arith, corner.x, on.x_end);
      }) in
      record {
        depth = allowed;
        node = leaf.node;
        rim = rim_is;
        leaf_range = leaf-all IsSample s n each;
        face_range = subst (All IsSample) faces-are
            (faces-all IsSample s n each (rim depth m n) rim_is.level);
        source = ∣ (s, m, record { balanced = balanced; leaf = leaf; same = refl }) ∣₁;
      }

  -- where all points of the leaf's cube have samples of one sign, its lists have
  pub HasOneSign-leaf : IsPlainLeaf s n → HasOneSign (brick depth s m n)
  unfolding brick
  HasOneSign-leaf plain = record {
    leaf = plain-leaf-test s n plain;
    faces = subst (λ samples. have_one_sign samples ≡ true) faces-are
        (plain-faces-test s n (rim depth m n) (IsRim-rim depth m n balanced).level plain);
  }

  -- and the leaf's block has no triangles
  pub IsDone-plain : IsDepth depth → IsInWorld depth (high_corner n)
      → ((p : Point) → IsInWorld depth p → IsSample (s p)) → IsPlainLeaf s n
      → (b : Brick) (lists : MeshLists) → b ≡ brick depth s m n → lists ≡ no_lists
      → IsDone (record { brick = b; mesh = lists })
  IsDone-plain allowed corner range plain b lists b_is lists_are =
      let is : IsBrick (brick depth s m n) = IsBrick-leaf allowed corner range in
      let empty : IsDone (record { brick = brick depth s m n; mesh = no_lists }) = record {
        brick = is;
        of = IsMeshOf-none (brick depth s m n) is (HasOneSign-leaf plain);
        mesh = IsMesh-none no_lists refl refl refl;
      } in
      subst IsDone (λ i. record { brick = sym b_is i; mesh = sym lists_are i }) empty
