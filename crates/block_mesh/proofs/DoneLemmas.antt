-- A brick has one mesh, for the law `equal_bricks_have_equal_meshes` (docs/rules.md, "Bricks and moves").
--
-- The brick is that of a leaf in some field and map, and there both lists are the definition's mesh. Which field it is
-- isn't known, only that there is one; so the equality must be a mere fact, which equality of lists of numbers is:
-- first a code in numbers for each type that a mesh is made of, then `one-mesh` and `one-done`.
use Rattle.std.proofs.Common.{◌≡◌, ℕ, zero, suc, List, refl, sym, ◌∙◌, subst}
use Rattle.std.proofs.Math.Logic.{∥∥₁_elim}
use Rattle.std.specs.Coded.{Coded, Coded-set, code_by, coded×, coded_list, coded_ℕ}
use Rattle.lattice.specs.declared.key.Key.{Key}
use Rattle.lattice.specs.declared.point.Axis.{Axis}
use Rattle.lattice.specs.declared.point.Axis.TheVariants.{X, Y, Z}
use Rattle.lattice.specs.declared.point.Point.{Point}
use Rattle.lattice.specs.declared.point.Pos.{Pos}
use Rattle.terrain.specs.Blocks.{Brick}
use Rattle.bricks.specs.Brick.{IsBrick}
use Rattle.block_mesh.specs.Done.{DoneState, IsDone}
use Rattle.block_mesh.specs.Mesh.{IsMeshOf}
use Rattle.terrain.specs.MeshLists.{MeshLists}

-- ---- codes, by which the lists of meshes are told apart

-- an axis as a number
axis_number : Axis → ℕ
axis_number X = 0
axis_number Y = 1
axis_number Z = 2

-- and back
numbered_axis : ℕ → Axis
numbered_axis zero = X
numbered_axis (suc zero) = Y
numbered_axis (suc (suc n)) = Z

-- the axis is the one that it was
axis_back : (axis : Axis) → numbered_axis (axis_number axis) ≡ axis
unfolding axis_number numbered_axis
axis_back X = refl
axis_back Y = refl
axis_back Z = refl

-- a code of axes
axis_code : Coded Axis
axis_code = code_by ℕ coded_ℕ axis_number numbered_axis axis_back

-- of points
point_code : Coded Point
point_code =
    code_by (ℕ × (ℕ × ℕ)) (coded× coded_ℕ (coded× coded_ℕ coded_ℕ)) (λ p. (p.z, (p.y, p.x)))
    (λ t. record { z = t.0; y = t.1.0; x = t.1.1 }) (λ _. refl)

-- of positions
pos_code : Coded Pos
pos_code =
    code_by (ℕ × (ℕ × ℕ)) (coded× coded_ℕ (coded× coded_ℕ coded_ℕ)) (λ p. (p.x, (p.y, p.z)))
    (λ t. record { x = t.0; y = t.1.0; z = t.1.1 }) (λ _. refl)

-- of keys
key_code : Coded Key
key_code =
    code_by (ℕ × (Point × Axis)) (coded× coded_ℕ (coded× point_code axis_code))
    (λ key. (key.level, (key.at, key.axis)))
    (λ t. record { level = t.0; at = t.1.0; axis = t.1.1 }) (λ _. refl)

-- and of the lists of a mesh
lists_code : Coded MeshLists
lists_code =
    code_by (List Key × (List Pos × List (List ℕ)))
    (coded× (coded_list key_code) (coded× (coded_list pos_code) (coded_list (coded_list coded_ℕ))))
    (λ lists. (lists.keys, (lists.positions, lists.triangles)))
    (λ t. record { keys = t.0; positions = t.1.0; triangles = t.1.1 }) (λ _. refl)

-- ---- one mesh

-- two lists are equal that are both the mesh of a brick
pub one-mesh : (b : Brick) (p q : MeshLists) → IsBrick b → IsMeshOf b p → IsMeshOf b q → p ≡ q
one-mesh b p q is of_p of_q =
    ∥∥₁_elim is.source (Coded-set lists_code p q) (λ given.
    let first = of_p.shows given.0 given.1 given.2 in
    let second = of_q.shows given.0 given.1 given.2 in
    λ i. record {
      keys = (first.keys ∙ sym second.keys) i;
      positions = (first.positions ∙ sym second.positions) i;
      triangles = (first.triangles ∙ sym second.triangles) i;
    })

-- so are two bricks with their meshes, where the bricks are equal
pub one-done : (p q : DoneState) → IsDone p → IsDone q → p.brick ≡ q.brick → p ≡ q
one-done p q is_p is_q same =
    let of : IsMeshOf p.brick q.mesh = subst (λ b. IsMeshOf b q.mesh) (sym same) is_q.of in
    let mesh : p.mesh ≡ q.mesh = one-mesh p.brick p.mesh q.mesh is_p.brick is_p.of of in
    λ i. record { brick = same i; mesh = mesh i }
