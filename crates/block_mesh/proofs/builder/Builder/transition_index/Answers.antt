-- The key of an edge of a transition cell is a coarse or a fine key of the leaf.
use Rattle.std.proofs.Common.{◌≡◌, ◌+◌, ◌-◌, ◌*◌, ◌/◌, ◌%◌, ap, sym, ◌∙◌, subst, true, false}
use Rattle.std.specs.Prelude.{IfOk}
use Rattle.lattice.specs.declared.key.Key.{Key}
use Rattle.lattice.specs.Face.{axis_along}
use Rattle.terrain.specs.Cells.{IsPresent}
use Rattle.cells.specs.Edges.{face_axis, transition_edge}
use Rattle.block_mesh.specs.Builder.{Adds}
use Rattle.block_mesh.specs.LeafCells.{square_key}
use Rattle.lattice.specs.Steps.{face_steps, key_at}
use Rattle.block_mesh.proofs.SquareKeyLemmas.{edge-fits, edge_key-coarse, edge_key-fine}
use Rattle.block_mesh.proofs.builder.Builder.transition_index.Goals as goal
use Rattle.block_mesh.proofs.builder.Builder.transition_index.Goals.{After-face_steps-at, Else-edge}

-- the key of a coarse edge, and of a fine one
coarse_is : (c : After-face_steps-at) → key_at c.args.brick.now.node.level c.args.brick.now.node
    c.face_steps-at.result c.axis-axis.result
    ≡ square_key c.args.brick.now.node c.args.square.face c.args.square.v c.args.square.u
    c.args.edge
coarse_is c =
    let n = c.args.brick.now.node in
    let q = c.args.square in
    let edge = transition_edge c.args.edge in
    let point_v : c.from-v.result ≡ edge.point / 3 =
    c.from-v.ensures ∙ ap (λ p. p / 3) c.transition_edge-edge.ensures.point in
    let point_u : c.from-u.result ≡ edge.point % 3 =
    c.from-u.ensures ∙ ap (λ p. p % 3) c.transition_edge-edge.ensures.point in
    let axis_is = ap (axis_along q.face) c.transition_edge-edge.ensures.along in
    let coarse : edge.is_coarse ≡ true = sym c.transition_edge-edge.ensures.coarse
    ∙ c.if-edge.true in
    let at : c.face_steps-at.result
    ≡ face_steps q.face 16 (q.v + edge.point / 3 / 2) (q.u + edge.point % 3 / 2) =
    c.face_steps-at.ensures
    ∙ (λ i. face_steps q.face 16 (q.v + point_v i / 2) (q.u + point_u i / 2)) in
    (λ i. key_at n.level n (at i) ((c.axis-axis.ensures ∙ axis_is) i))
    ∙ sym (edge_key-coarse n q.face q.v q.u edge c.requires.face.level coarse
    ((edge-fits c.args.edge c.requires.edge).outer coarse))

fine_is : (c : Else-edge) → key_at (c.args.brick.now.node.level - 1) c.args.brick.now.node
    (face_steps c.args.square.face 32 (2 * c.args.square.v + c.from-v.result)
    (2 * c.args.square.u + c.from-u.result))
    (axis_along c.args.square.face (face_axis c.transition_edge-edge.result.along))
    ≡ square_key c.args.brick.now.node c.args.square.face c.args.square.v c.args.square.u
    c.args.edge
fine_is c =
    let n = c.args.brick.now.node in
    let q = c.args.square in
    let edge = transition_edge c.args.edge in
    let point_v : c.from-v.result ≡ edge.point / 3 =
    c.from-v.ensures ∙ ap (λ p. p / 3) c.transition_edge-edge.ensures.point in
    let point_u : c.from-u.result ≡ edge.point % 3 =
    c.from-u.ensures ∙ ap (λ p. p % 3) c.transition_edge-edge.ensures.point in
    let axis_is = ap (axis_along q.face) c.transition_edge-edge.ensures.along in
    let fine : edge.is_coarse ≡ false = sym c.transition_edge-edge.ensures.coarse
    ∙ c.if-edge.false in
    (λ i. key_at (n.level - 1) n
    (face_steps q.face 32 (2 * q.v + point_v i) (2 * q.u + point_u i)) (axis_is i))
    ∙ sym (edge_key-fine n q.face q.v q.u edge c.requires.face.level fine)

pub coarse_index-requires-clause-present : goal.coarse_index-requires-clause-present
coarse_index-requires-clause-present c =
    let d = (goal.at.coarse_index-requires-clause-present c).After-face_steps-at in
    λ s has.
    subst (IsPresent s) (sym (coarse_is d)) (c.requires.present s has)

pub fine_index-requires-clause-present : goal.fine_index-requires-clause-present
fine_index-requires-clause-present c =
    let d = (goal.at.fine_index-requires-clause-present c).Else-edge in
    λ s has.
    subst (IsPresent s) (sym (fine_is d)) (c.requires.present s has)

pub returns-then-edge-clause-adds : goal.returns-then-edge-clause-adds
returns-then-edge-clause-adds c =
    let d = (goal.at.returns-then-edge-clause-adds c).After-face_steps-at in
    subst (λ (key : Key). IfOk c.coarse_index.result
    (Adds c.args.brick.now key c.args.self.now c.coarse_index.new.self)) (coarse_is d)
    c.coarse_index.ensures.adds

pub returns-else-edge-clause-adds : goal.returns-else-edge-clause-adds
returns-else-edge-clause-adds c =
    let d = (goal.at.returns-else-edge-clause-adds c).Else-edge in
    subst (λ (key : Key). IfOk c.fine_index.result
    (Adds c.args.brick.now key c.args.self.now c.fine_index.new.self)) (fine_is d)
    c.fine_index.ensures.adds
