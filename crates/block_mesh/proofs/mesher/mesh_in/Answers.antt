-- The regular cells come first, then the transition cells.
use Rattle.std.proofs.Common.{◌≡◌, ◌≤◌, ◌∙◌, ◌++◌, [], List, Ok, Err, ap, arith, length, map, sym, subst, rules}
use Rattle.std.proofs.Math.Logic.{∥∥₁_elim}
use Rattle.std.proofs.lemmas.List.{length-map}
use Rattle.std.proofs.lemmas.Result.{IfOk-weaker}
use Rattle.std.specs.Prelude.{IfOk, Result}
use Rattle.lattice.specs.declared.node.Node.{Node}
use Rattle.terrain.specs.Blocks.{Brick, mesh, over_cells, place}
use Rattle.terrain.specs.Cells.{regular_triangles}
use Rattle.terrain.specs.Levels.{LevelMap}
use Rattle.terrain.specs.Samples.{Field}
use Rattle.lattice.specs.declared.key.Key.{Key}
use Rattle.bricks.specs.Brick.{HasBrick, over_rim}
use Rattle.block_mesh.specs.Builder.{IsSpare, lists_in}
use Rattle.block_mesh.specs.MeshEdges.{mesh_key}
use Rattle.block_mesh.specs.Mesh.{IsMeshOf, ShowsMesh}
use Rattle.terrain.specs.MeshLists.{MeshLists}
use Rattle.block_mesh.specs.declared.mesher.TheConstants.{MAX_KEYS}
use Rattle.block_mesh.proofs.BuilderLemmas.{AddsTriangles-then}
use Rattle.block_mesh.proofs.MeshLemmas.{IsMesh-from, IsMesh-prop, Shows-from, block-is, squares}
use Rattle.bricks.proofs.SampleLemmas.{has-samples}
use Rattle.block_mesh.proofs.mesher.mesh_in.Goals as goal

-- the triangles of the regular cells of a leaf
abbrev cells : Node → Field → List (List Key)
cells n s = over_cells n (regular_triangles s n.level)

-- those of its transition cells
abbrev faces : Brick → Field → List (List Key)
faces b s = over_rim b.rim (squares b.node s)

-- what two facts on a success tell of it
by-both : {T E : Type 0} (r : Result T E) (P Q R : T → Type 0)
    → ((x : T) → P x → Q x → R x) → IfOk r P → IfOk r Q → IfOk r R
by-both (Ok x) P Q R tells p q = tells x p q
by-both (Err e) P Q R tells p q = tt

pub finish-requires-clause-mesh : goal.finish-requires-clause-mesh
finish-requires-clause-mesh c = λ positions long.
    let b = c.args.brick.now in
    let built = c.add_faces.new.builder in
    let added = AddsTriangles-then b (cells b.node) (faces b) c.args.builder.now
    c.add_cells.new.builder built c.in_ok-add_cells.ensures.adds
    c.in_ok-add_faces.ensures.adds in
    let few : length built.edges ≤ MAX_KEYS = search rules in
    ∥∥₁_elim c.requires.brick.source (IsMesh-prop (lists_in b built positions)) (λ given.
    IsMesh-from b (cells b.node given.0 ++ faces b given.0) built positions
    (added.holds given.0 [] (has-samples given.0 given.1 b given.2)
    c.requires.holds) few long)

pub returns-clause-shows : goal.returns-clause-shows
returns-clause-shows c =
    let b = c.args.brick.now in
    let built = c.add_faces.new.builder in
    let added = AddsTriangles-then b (cells b.node) (faces b) c.args.builder.now
    c.add_cells.new.builder built c.in_ok-add_cells.ensures.adds
    c.in_ok-add_faces.ensures.adds in
    by-both c.finish.result (λ made. made ≡ lists_in b built made.positions)
    (λ made. (s : Field) (m : LevelMap) → HasBrick s m b
    → made.positions ≡ map (place b.depth s m) made.keys) (IsMeshOf b)
    (λ made mesh_is placed. record {
      shows = λ s m has.
          subst (λ lists. ShowsMesh lists (mesh b.depth s m b.node)) (sym mesh_is)
          (Shows-from b s m (cells b.node s ++ faces b s) built made.positions
          (added.holds s [] (has-samples s m b has) c.requires.holds)
          (block-is b s m has)
          (placed s m has
          ∙ ap (λ (lists : MeshLists). map (place b.depth s m) lists.keys) mesh_is));
    }) c.finish.ensures.lists c.finish.ensures.placed

pub returns-clause-few : goal.returns-clause-few
returns-clause-few c =
    let b = c.args.brick.now in
    let built = c.add_faces.new.builder in
    IfOk-weaker c.finish.result (λ made. made ≡ lists_in b built made.positions)
    (λ made. length made.keys ≤ MAX_KEYS)
    (λ made is. subst (λ (lists : MeshLists). length lists.keys ≤ MAX_KEYS) (sym is) (omega (
      arith,
      length-map built.edges (mesh_key b),
      c.in_ok-add_faces.ensures.few,
      c.in_ok-add_cells.ensures.few,
      c.requires.none,
    ))) c.finish.ensures.lists

pub returns-clause-spare : goal.returns-clause-spare
returns-clause-spare c =
    let built = c.add_faces.new.builder in
    IfOk-weaker c.finish.result
    (λ made. made ≡ lists_in c.args.brick.now built made.positions) (λ _. IsSpare built)
    (λ made is. c.in_ok-add_faces.ensures.adds.builds.spare) c.finish.ensures.lists
