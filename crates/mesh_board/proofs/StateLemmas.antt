-- What a state of a leaf says.
use Rattle.std.proofs.Common.{◌≡◌, false, refl}
use Rattle.block_mesh.specs.Done.{DoneState}
use Rattle.mesh_board.specs.LeafStates.{LeafState, fresh, is_leaf_state, no_leaf, out, recalled, wanted}

-- a state that isn't a leaf's is that of no leaf
pub not_a_leaf : (state : LeafState) → is_leaf_state state ≡ false → state ≡ no_leaf
not_a_leaf no_leaf h = refl
not_a_leaf wanted h = absurd (cc)
not_a_leaf out h = absurd (cc)
not_a_leaf (fresh done) h = absurd (cc)

-- a leaf that is fresh has one block
pub same_fresh : (done other : DoneState) → fresh done ≡ fresh other → done ≡ other
same_fresh done other h = cc

-- recalling makes no leaf, and lets none go
pub recalled-leaf : (state : LeafState) → is_leaf_state (recalled state) ≡ is_leaf_state state
recalled-leaf no_leaf = refl
recalled-leaf wanted = refl
recalled-leaf out = refl
recalled-leaf (fresh done) = refl
