-- The leaves of blocks whose bricks are those of some leaves.
use Rattle.std.proofs.Common.{◌≡◌, List, ap, map, sym, ◌∙◌}
use Rattle.std.proofs.lemmas.List.{map-id}
use Rattle.std.proofs.lemmas.Simd.{map-map}
use Rattle.lattice.specs.declared.node.Node.{Node}
use Rattle.lattice.specs.declared.settings.Settings.{Settings}
use Rattle.terrain.specs.declared.event.Event.{Event}
use Rattle.terrain.specs.Blocks.{brick}
use Rattle.event_laws.specs.Changes.{brick_after}
use Rattle.block_mesh.specs.Done.{DoneState}

-- the nodes of some leaves' bricks are these leaves
nodes_of_bricks : (settings : Settings) (history : List Event) (nodes : List Node)
    → map (λ brick. brick.node) (map (brick_after settings history) nodes) ≡ nodes
unfolding brick
nodes_of_bricks settings history nodes =
    map-map (λ brick. brick.node) (brick_after settings history) nodes ∙ map-id nodes

-- so blocks with the bricks of some leaves are of these leaves
pub nodes_of_blocks : {A : Type 0} (value : A → DoneState) (settings : Settings)
    (history : List Event) (blocks : List A) (nodes : List Node)
    → map (λ x. (value x).brick) blocks ≡ map (brick_after settings history) nodes
    → map (λ x. (value x).brick.node) blocks ≡ nodes
nodes_of_blocks value settings history blocks nodes same =
    sym (map-map (λ brick. brick.node) (λ x. (value x).brick) blocks)
    ∙ ap (map (λ brick. brick.node)) same ∙ nodes_of_bricks settings history nodes
