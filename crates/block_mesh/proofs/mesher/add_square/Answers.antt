-- A square of one sign has no triangle.
use Rattle.std.proofs.Common.{◌≡◌, [], sym, subst, inl, inr, ◌⊎◌}
use Rattle.std.specs.List.{AllByRecursion}
use Rattle.terrain.specs.Blocks.{square_corner}
use Rattle.terrain.specs.Cells.{IsPresent, transition_triangles}
use Rattle.terrain.specs.Samples.{Field}
use Rattle.bricks.specs.Brick.{HasSamples}
use Rattle.block_mesh.specs.LeafCells.{square_triangles}
use Rattle.block_mesh.proofs.BuilderLemmas.{AddsTriangles-none, AddsTriangles-same}
use Rattle.block_mesh.proofs.CellTriangleLemmas.{transition-are}
use Rattle.block_mesh.proofs.OneSignLemmas.{transition-none}
use Rattle.block_mesh.proofs.mesher.add_square.Goals as goal
use Rattle.block_mesh.proofs.mesher.add_square.Goals.{After-transition_triangles-triangles, then-signs-eq0-via-then-signs-eq0, then-signs-eq0-via-else-signs-eq0+then-signs}

pub returns-then-signs-eq0-clause-adds : goal.returns-then-signs-eq0-clause-adds
returns-then-signs-eq0-clause-adds c =
    let b = c.args.brick.now in
    let n = b.node in
    let at = c.args.square in
    let signs = c.transition_signs-signs.result in
    let one : (signs ≡ 0) ⊎ (signs ≡ 511) = elim c.then-signs-eq0.branch [
      | then-signs-eq0-via-then-signs-eq0 w ↦ inl w.if-signs-eq0.true
      | then-signs-eq0-via-else-signs-eq0+then-signs w ↦ inr w.if-signs.true
    ] in
    AddsTriangles-same b (λ _. [])
    (λ s. transition_triangles s n.level at.face (square_corner n at.face at.v at.u))
    c.args.builder.now c.args.builder.now
    (λ s has.
    sym (transition-none s n.level at.face (square_corner n at.face at.v at.u)
    (subst (λ g. (g ≡ 0) ⊎ (g ≡ 511))
    (c.transition_signs-signs.ensures.exact s n at.face at.v c.requires.face.level
    (c.requires.rows s has)) one)))
    (AddsTriangles-none b c.args.builder.now c.requires.builds)

are : (c : After-transition_triangles-triangles) → (s : Field) → HasSamples s c.args.brick.now
    → square_triangles c.args.brick.now.node c.args.square.face c.args.square.v c.args.square.u
    c.transition_triangles-triangles.result.now
    ≡ transition_triangles s c.args.brick.now.node.level c.args.square.face
    (square_corner c.args.brick.now.node c.args.square.face c.args.square.v c.args.square.u)
are c s has =
    let n = c.args.brick.now.node in
    let at = c.args.square in
    transition-are s n at.face at.v at.u c.transition_signs-signs.result
    c.transition_triangles-triangles.result.now
    (c.transition_signs-signs.ensures.exact s n at.face at.v c.requires.face.level
    (c.requires.rows s has))
    c.transition_triangles-triangles.ensures.exact

pub add_transition-requires-clause-present : goal.add_transition-requires-clause-present
add_transition-requires-clause-present c = λ s has.
    let d =
    (goal.at.add_transition-requires-clause-present c).After-transition_triangles-triangles in
    let n = c.args.brick.now.node in
    let at = c.args.square in
    subst (AllByRecursion (AllByRecursion (IsPresent s))) (sym (are d s has))
    (c.keys_of_cells_are_present.ensures.transition s n.level at.face
    (square_corner n at.face at.v at.u) c.requires.face.level)

pub returns-clause-adds : goal.returns-clause-adds
returns-clause-adds c =
    let d = (goal.at.returns-clause-adds c).After-transition_triangles-triangles in
    let b = c.args.brick.now in
    let n = b.node in
    let at = c.args.square in
    let lent = c.transition_triangles-triangles.result.now in
    AddsTriangles-same b (λ _. square_triangles n at.face at.v at.u lent)
    (λ s. transition_triangles s n.level at.face (square_corner n at.face at.v at.u))
    c.args.builder.now c.add_transition.new.self (are d) c.in_ok-add_transition.ensures.adds
