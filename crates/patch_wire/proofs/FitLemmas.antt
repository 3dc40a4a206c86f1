-- What is of a world has a spelling, since its numbers are small: points, nodes, events and keys (`point_fits`,
-- `node_fits`, `event_fits`, `key_fits`), and the counts of triangles and of nodes. Then the condition of a patch that
-- is put, by its parts as lists: it follows from them (`taken_from`), and they from it (`few_from`, `all_from`).
use Rattle.std.proofs.Common.{◌≡◌, ℕ, ◌+◌, ◌^◌, ◌<◌, ◌≤◌, List, length, All, Global, ap, subst, sym, arith, map}
use Rattle.std.proofs.Math.Bridge.{le_prop}
use Rattle.std.proofs.Math.ListN.{get_or-map}
use Rattle.std.proofs.Math.Logic.{∥∥₁_elim}
use Rattle.std.proofs.lemmas.List.{length-map}
use Rattle.std.proofs.lemmas.List.Elements.{All-map}
use Rattle.std.specs.Arc.{arc_value}
use Rattle.std.specs.declared.sync.Arc.{Arc}
use Rattle.cell_laws.specs.Laws.{LeavesHaveFewTriangles}
use Rattle.lattice.specs.declared.key.Key.{Key}
use Rattle.lattice.specs.declared.node.Node.{Node}
use Rattle.lattice.specs.declared.point.Axis.{Axis}
use Rattle.lattice.specs.declared.point.Axis.TheVariants.{X, Y, Z}
use Rattle.lattice.specs.declared.point.Point.{Point}
use Rattle.lattice.specs.Key.{IsKey}
use Rattle.lattice.specs.Node.{IsNode, nodes}
use Rattle.lattice.specs.Point.{IsInWorld, moved}
use Rattle.lattice.specs.Region.{IsRegion}
use Rattle.lattice.specs.Settings.{IsDepth}
use Rattle.lattice.proofs.CountLemmas.{nodes_most}
use Rattle.lattice.proofs.SizeLemmas.{across_most, side_most}
use Rattle.terrain.specs.declared.brush.Brush.TheVariants.{Cuboid, Ball, Ground, Smooth}
use Rattle.terrain.specs.declared.cells.TheConstants.{LEAF_TRIANGLES}
use Rattle.terrain.specs.declared.event.Event.{Event}
use Rattle.terrain.specs.declared.event.Event.TheVariants.{Edit, Camera, Away, Undo}
use Rattle.terrain.specs.Blocks.{mesh}
use Rattle.terrain.specs.History.{IsLawfulEvent}
use Rattle.block_mesh.specs.Done.{DoneState, IsDone}
use Rattle.block_mesh.specs.Mesh.{index_among}
use Rattle.terrain.specs.declared.event.TheConstants.{MAX_EVENTS}
use Rattle.snapshots.specs.declared.patch.Patch.{Patch}
use Rattle.replicas.specs.Fits.{FitsEvent, FitsKey, FitsNode, FitsPoint}
use Rattle.patch_wire.specs.Puttable.{CanBePut, wire_block}
use Rattle.replicas.specs.Worlds.{IsOfWorld}

-- a point of a world
pub point_fits : (depth : ℕ) (p : Point) → IsDepth depth → IsInWorld depth p → FitsPoint p
point_fits depth p allowed inside =
    let side = side_most depth allowed in
    record {
      x = omega (arith, side, inside.x);
      y = omega (arith, side, inside.y);
      z = omega (arith, side, inside.z);
    }

-- the low corner of a box of a world
low_fits : (depth : ℕ) (lo hi : Point) → IsDepth depth
    → IsRegion depth (record { lo = lo; hi = hi }) → FitsPoint lo
low_fits depth lo hi allowed box =
    let high = point_fits depth hi allowed box.high in
    record {
      x = omega (arith, box.x, high.x);
      y = omega (arith, box.y, high.y);
      z = omega (arith, box.z, high.z);
    }

-- a node of a world
pub node_fits : (depth : ℕ) (n : Node) → IsDepth depth → IsNode depth n → FitsNode n
node_fits depth n allowed is =
    let few = across_most depth n.level allowed in
    record {
      level = omega (arith, is.level, allowed);
      i = omega (arith, is.i, few);
      j = omega (arith, is.j, few);
      k = omega (arith, is.k, few);
    }

-- an event of a world
pub event_fits : (depth : ℕ) (e : Event) → IsDepth depth → IsLawfulEvent depth e → FitsEvent e
event_fits depth (Edit (Cuboid mode lo hi)) allowed lawful =
    (low_fits depth lo hi allowed lawful, point_fits depth hi allowed lawful.high)
event_fits depth (Edit (Ball mode at r)) allowed lawful =
    (point_fits depth at allowed lawful.centre, omega (arith, lawful.most, side_most depth allowed))
event_fits depth (Edit (Ground mode h)) allowed lawful =
    omega (arith, lawful, side_most depth allowed)
event_fits depth (Edit (Smooth lo hi)) allowed lawful =
    (low_fits depth lo hi allowed lawful, point_fits depth hi allowed lawful.high)
event_fits depth (Camera view at) allowed lawful =
    (omega (arith, lawful.0), point_fits depth at allowed lawful.1)
event_fits depth (Away view) allowed lawful = omega (arith, lawful)
event_fits depth Undo allowed lawful = lawful

-- the near end of an edge whose far end is in a world
near_fits : (depth : ℕ) (axis : Axis) (by : ℕ) (p : Point) → IsDepth depth
    → IsInWorld depth (moved axis by p) → FitsPoint p
near_fits depth X by p allowed inside =
    let far = point_fits depth (moved X by p) allowed inside in
    record { x = omega (arith, far.x); y = far.y; z = far.z }
near_fits depth Y by p allowed inside =
    let far = point_fits depth (moved Y by p) allowed inside in
    record { x = far.x; y = omega (arith, far.y); z = far.z }
near_fits depth Z by p allowed inside =
    let far = point_fits depth (moved Z by p) allowed inside in
    record { x = far.x; y = far.y; z = omega (arith, far.z) }

-- a key of a world
pub key_fits : (depth : ℕ) (key : Key) → IsDepth depth → IsKey depth key → FitsKey key
key_fits depth key allowed is = record {
  level = omega (arith, is.level, allowed);
  at = near_fits depth key.axis (2 ^ key.level) key.at allowed is.end;
}

-- a block has few triangles
pub few_triangles : LeavesHaveFewTriangles → (done : DoneState) → IsDone done
    → length done.mesh.triangles ≤ LEAF_TRIANGLES
few_triangles law done is =
    let b = done.brick in
    ∥∥₁_elim is.brick.source le_prop (λ given.
    let m = mesh b.depth given.0 given.1 b.node in
    omega (
      arith,
      ap length (is.of.shows given.0 given.1 given.2).triangles,
      length-map m.triangles (map (λ key. index_among key m.keys)),
      law b.depth given.0 given.1 b.node,
    ))

-- a world has few nodes
pub few_nodes : (depth : ℕ) → IsDepth depth → length (nodes depth) < 2 ^ 32
few_nodes depth allowed = omega (arith, nodes_most depth allowed)

-- what holds of the images of items
pub unmapped : {A B : Type 0} (P : B → Type 0) (f : A → B) (xs : List A) → All P (map f xs)
    → All (λ x. P (f x)) xs
unmapped P f xs all k d inside =
    subst P (get_or-map f xs k d) (all k (f d) (subst (λ n. k < n) (sym (length-map xs f)) inside))

-- ---- which patches are taken
-- the parts of a patch that is taken in a world of this depth, as lists
record AreTaken (depth base : ℕ) (events : List Event) (gone : List Node)
    (dones : List (Arc DoneState Global)) : Type 0 where
  few_events : base + length events ≤ MAX_EVENTS
  few_gone : length gone ≤ length (nodes depth)
  few_blocks : length dones ≤ length (nodes depth)
  lawful : All (IsLawfulEvent depth) events
  nodes_in : All (IsNode depth) gone
  blocks_in : All (λ done. IsOfWorld depth (wire_block (arc_value done))) dones

-- those of a patch
module _ (patch : Patch) (depth : ℕ) (events : List Event) (gone : List Node)
    (dones : List (Arc DoneState Global)) (at : depth ≡ patch.version.value.depth)
    (events_are : events ≡ patch.events.items) (gone_are : gone ≡ patch.gone.items)
    (dones_are : dones ≡ patch.put.items) where
  -- they are the patch's own
  own : AreTaken depth patch.base events gone dones
      ≡ AreTaken patch.version.value.depth patch.base patch.events.items patch.gone.items
      patch.put.items
  own = λ i. AreTaken (at i) patch.base (events_are i) (gone_are i) (dones_are i)

  -- lead to the condition
  pub taken_from : (few : (patch.base + length events ≤ MAX_EVENTS)
      × (length gone ≤ length (nodes depth)) × (length dones ≤ length (nodes depth)))
      (parts : All (IsLawfulEvent depth) events × All (IsNode depth) gone
      × All (λ done. IsOfWorld depth (wire_block (arc_value done))) dones) → CanBePut patch
  taken_from few parts =
      let taken : AreTaken patch.version.value.depth patch.base patch.events.items
      patch.gone.items patch.put.items = subst (λ A. A) own (record {
        few_events = few.0;
        few_gone = few.1;
        few_blocks = few.2;
        lawful = parts.0;
        nodes_in = parts.1;
        blocks_in = parts.2;
      }) in
      record {
        events = taken.lawful;
        gone = taken.nodes_in;
        blocks = All-map (IsOfWorld patch.version.value.depth)
            (λ done. wire_block (arc_value done)) patch.put.items taken.blocks_in;
        few_events = taken.few_events;
        few_gone = taken.few_gone;
        few_blocks = subst (λ n. n ≤ length (nodes patch.version.value.depth))
            (sym (length-map patch.put.items (λ done. wire_block (arc_value done))))
            taken.few_blocks;
      }

  -- and follow from it
  parts_from : CanBePut patch → AreTaken depth patch.base events gone dones
  parts_from taken = subst (λ A. A) (sym own) (record {
    few_events = taken.few_events;
    few_gone = taken.few_gone;
    few_blocks = subst (λ n. n ≤ length (nodes patch.version.value.depth))
        (length-map patch.put.items (λ done. wire_block (arc_value done))) taken.few_blocks;
    lawful = taken.events;
    nodes_in = taken.gone;
    blocks_in = unmapped (IsOfWorld patch.version.value.depth)
        (λ done. wire_block (arc_value done)) patch.put.items taken.blocks;
  })

  -- the counts
  pub few_from : CanBePut patch → (patch.base + length events ≤ MAX_EVENTS)
      × (length gone ≤ length (nodes depth)) × (length dones ≤ length (nodes depth))
  few_from taken =
      let parts = parts_from taken in (parts.few_events, parts.few_gone, parts.few_blocks)

  -- the items
  pub all_from : CanBePut patch → All (IsLawfulEvent depth) events × All (IsNode depth) gone
      × All (λ done. IsOfWorld depth (wire_block (arc_value done))) dones
  all_from taken = let parts = parts_from taken in (parts.lawful, parts.nodes_in, parts.blocks_in)
