-- An edge's ends are lattice points of the leaf, at which the moves are the shifts.
use Rattle.std.proofs.Common.{◌≡◌, ℕ, ◌∙◌, sym, ap, subst, w8, ℤ, SFits, rules}
use Rattle.std.proofs.lemmas.Int.{to_z-of_z}
use Rattle.lattice.specs.declared.key.Key.{Key}
use Rattle.lattice.specs.declared.node.Node.{Node}
use Rattle.lattice.specs.declared.point.Point.{Point}
use Rattle.lattice.specs.declared.settings.TheConstants.{MAX_DEPTH}
use Rattle.lattice.specs.Key.{IsKey, far_end}
use Rattle.lattice.specs.Point.{moved}
use Rattle.terrain.specs.Levels.{LevelMap}
use Rattle.terrain.specs.Samples.{Field}
use Rattle.vertex_places.specs.declared.moves.Move.{Move}
use Rattle.lattice.specs.Steps.{key_at, point_at}
use Rattle.vertex_places.specs.Moves.{IsShift}
use Rattle.vertex_places.specs.Places.{AreStill}
use Rattle.vertex_places.proofs.LeafEdgeLemmas.{edge_key}
use Rattle.vertex_places.proofs.LeafKeyLemmas.{AreEnds, coarse_ends}
use Rattle.vertex_places.proofs.leaf_places.edge_position.Goals as goal

pub still_position-requires-clause-key : goal.still_position-requires-clause-key
still_position-requires-clause-key c =
    subst (IsKey MAX_DEPTH) (sym c.requires.key)
    (edge_key MAX_DEPTH c.args.moves.now.node c.args.edge.now c.requires.node
    c.requires.edge.lies)

pub position-requires-clause-key : goal.position-requires-clause-key
position-requires-clause-key c =
    subst (IsKey MAX_DEPTH) (sym c.requires.key)
    (edge_key MAX_DEPTH c.args.moves.now.node c.args.edge.now c.requires.node
    c.requires.edge.lies)

pub returns-then-is_still : goal.returns-then-is_still
returns-then-is_still c s m balanced leaf ends =
    let edge = c.args.edge.now in
    let near_fits : SFits w8 edge.near = search rules in
    let far_fits : SFits w8 edge.far = search rules in
    let still = subst (AreStill c.args.moves.now.depth m) (sym c.requires.key)
    (c.is_still.ensures.still c.if-is_still.true m balanced leaf) in
    c.still_position.ensures c.args.moves.now.depth s m
    (to_z-of_z w8 edge.near near_fits ∙ ends.near_is)
    (to_z-of_z w8 edge.far far_fits ∙ ends.far_is) still.begins still.ends

-- the ends of the key, as the calls of `at` say
key_ends : (depth : ℕ) (s : Field) (m : LevelMap) (key : Key) (n : Node) (at end : Point)
    (from to : Move) (near far seen_near seen_far : ℤ)
    → key ≡ key_at n.level n at key.axis → end ≡ moved key.axis 1 at
    → IsShift depth m n.level (point_at n.level n at) from
    → IsShift depth m n.level (point_at n.level n end) to
    → seen_near ≡ near → seen_far ≡ far → near ≡ s key.at → far ≡ s (far_end key)
    → AreEnds depth s m key (record { by = from; sample = seen_near })
    (record { by = to; sample = seen_far })
key_ends depth s m key n at end from to near far seen_near seen_far is further start stop
    read_near read_far here there =
    coarse_ends depth s m key n at _ _ is start
    (subst (λ p. IsShift depth m n.level (point_at n.level n p) to) further stop)
    (read_near ∙ here) (read_far ∙ there)

pub returns : goal.returns
returns c s m balanced leaf ends =
    let moves = c.args.moves.now in
    let n = moves.node in
    let edge = c.args.edge.now in
    let key = c.args.key.now in
    let at = c.at-at.result in
    let near_fits : SFits w8 edge.near = search rules in
    let far_fits : SFits w8 edge.far = search rules in
    let coarse = c.is_still.ensures.coarse c.if-is_still.false in
    let axis : edge.axis ≡ key.axis = ap (λ (k : Key). k.axis) (sym c.requires.key) in
    let is : key ≡ key_at n.level n at key.axis =
    c.requires.key ∙ (λ i. key_at (coarse.level i) n (sym c.at-at.ensures i) (axis i)) in
    let further : c.moved-end.result ≡ moved key.axis 1 at =
    c.moved-end.ensures ∙ ap (λ a. moved a 1 at) axis in
    let both =
    key_ends moves.depth s m key n at c.moved-end.result c.at.result c.at-2.result
    edge.near edge.far _ _ is further (c.at.ensures.shift m leaf) (c.at-2.ensures.shift m leaf)
    (to_z-of_z w8 edge.near near_fits) (to_z-of_z w8 edge.far far_fits) ends.near_is
    ends.far_is in
    c.position.ensures.place moves.depth s m both.begins both.ends
