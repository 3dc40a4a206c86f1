-- The edges of all leaves' triangles.
use Rattle.std.proofs.Common.{◌≡◌, ℕ, ◌+◌, ◌-◌, ◌*◌, ◌≤◌, ◌<◌, List, [], length, get_or, map, take, ap, ◌∙◌, subst, arith, sym, Contains}
use Rattle.std.specs.Prelude.{IsSome}
use Rattle.std.proofs.lemmas.Bool.{false≢true}
use Rattle.std.proofs.lemmas.List.{length-map, take_all}
use Rattle.std.proofs.lemmas.List.Elements.{Contains-get_or}
use Rattle.block_mesh.specs.Mesh.{index_among}
use Rattle.terrain.specs.declared.cells.TheConstants.{LEAF_TRIANGLES}
use Rattle.lattice.specs.declared.node.Node.{Node}
use Rattle.octree.specs.SplitBits.{split_at}
use Rattle.snapshots.specs.Frame.{mesh_after}
use Rattle.terrain.specs.Blocks.{frame_edges}
use Rattle.terrain.specs.History.{sample}
use Rattle.terrain.specs.Levels.{leaves, levels}
use Rattle.audits.specs.Tally.{HasRoomFor, IsTallyOf}
use Rattle.audits.proofs.AuditLemmas.{frame_edges-more}
use Rattle.audits.proofs.LeafLemmas.{leaf-same, leaves-same}
use Rattle.audits.proofs.LeafCountLemmas.{few_leaves}
use Rattle.audits.proofs.NamedLemmas.{HasRoomFor-less}
use Rattle.audits.proofs.TallyLemmas.{Pair}
use Rattle.audits.proofs.audit.tally_of.Goals as goal
use Rattle.audits.proofs.audit.tally_of.Goals.{in-Some+in_ok-add_triangles, in_default}

-- what a list of leaves is read as past its end
abbrev past_end : Node
past_end = record { level = 0; k = 0; j = 0; i = 0 }

pub loop-leaf-init : goal.loop-leaf-init
loop-leaf-init c =
    let few = few_leaves c.args.frame.now.settings.depth c.levels.result.now.depth
    (split_at c.levels.result.now) c.deref-leaf-items.result.now c.in_ok-leaves.leaves.items
    c.requires.allowed.depth c.levels.ensures.depth c.deref-leaf-items.ensures.value
    c.in_ok-leaves.ensures.value in (
      record { edges = []; counts = c.in_ok-tally.ensures; few = omega (arith, few) },
      c.in_ok-tally.ensures,
    )

-- a leaf's triangles, and those of the leaves after it
room-one : (n i t : ℕ) → i < n → t ≤ LEAF_TRIANGLES
    → 3 * t + 3 * (LEAF_TRIANGLES * (n - (i + 1))) ≤ 3 * (LEAF_TRIANGLES * (n - i))
room-one n i t inside few = omega (arith, inside, few)

pub add_triangles-requires-clause-room : goal.add_triangles-requires-clause-room
add_triangles-requires-clause-room c =
    let frame = c.args.frame.now in
    let n = length c.deref-leaf-items.result.now in
    let i = c.loop-leaf.leaf-index in
    let node = get_or c.deref-leaf-items.result.now i past_end in
    let most = c.triangles_are_few.ensures.leaf frame.settings.depth
    (sample frame.settings frame.events) (levels frame.settings frame.events) node in
    let m = mesh_after frame.settings frame.events node in
    let many = ap length c.in-Some.ensures.mesh.triangles
    ∙ length-map m.triangles (map (λ key. index_among key m.keys)) in
    let t = length c.in-Some.block.triangles.now in
    let one = room-one n i t c.loop-leaf-test.true (omega (arith, most, many)) in
    HasRoomFor-less c.loop-leaf.tally (3 * (LEAF_TRIANGLES * (n - i))) (3 * t) (omega (arith, one))
    c.loop-leaf.invariant.0

pub loop-leaf-preserved : goal.loop-leaf-preserved
loop-leaf-preserved c = elim c.match-block.branch [
  | in-Some+in_ok-add_triangles w ↦
      let frame = c.args.frame.now in
      let xs = c.deref-leaf-items.result.now in
      let n = length xs in
      let i = c.loop-leaf.leaf-index in
      let f = mesh_after frame.settings frame.events in
      let node = get_or xs i past_end in
      let most = c.triangles_are_few.ensures.leaf frame.settings.depth
      (sample frame.settings frame.events) (levels frame.settings frame.events) node in
      let m = f node in
      let shows = w.in-Some.ensures.mesh in
      let many = ap length shows.triangles
      ∙ length-map m.triangles (map (λ key. index_among key m.keys)) in
      let t = length w.in-Some.block.triangles.now in
      let rest = 3 * (LEAF_TRIANGLES * (n - (i + 1))) in
      let one = room-one n i t c.loop-leaf-test.true (omega (arith, most, many)) in
      let before : List Pair = frame_edges (map f (take i xs)) in
      let room = w.in_ok-add_triangles.ensures.room rest
      (HasRoomFor-less c.loop-leaf.tally (3 * (LEAF_TRIANGLES * (n - i))) (3 * t + rest) one
      c.loop-leaf.invariant.0) in
      let counts = w.in_ok-add_triangles.ensures.counts m.triangles before shows.keys
      shows.triangles c.loop-leaf.invariant.1 in (
        subst (λ (tally : _). HasRoomFor tally rest) (sym w.tally-is) room,
        subst (λ (tally : _). IsTallyOf tally (frame_edges (map f (take (i + 1) xs))))
            (sym w.tally-is)
            (subst (IsTallyOf w.add_triangles.new.self)
            (frame_edges-more f xs i past_end c.loop-leaf-test.true) counts),
      )
  | in_default w ↦
      let frame = c.args.frame.now in
      let xs = c.deref-leaf-items.result.now in
      let node = get_or xs c.loop-leaf.leaf-index past_end in
      let among : Contains xs node =
      Contains-get_or xs c.loop-leaf.leaf-index past_end c.loop-leaf-test.true in
      let leaf = (c.in_ok-leaves.ensures.each.each node).1
      (subst (λ ys. Contains ys node) c.deref-leaf-items.ensures.value among) in
      let there = c.block.ensures.leaf.1 (leaf-same c.levels.result.now.depth frame.settings.depth
      (split_at c.levels.result.now) (levels frame.settings frame.events) node
      c.levels.ensures.depth c.levels.ensures.split leaf) in
      absurd (false≢true (subst IsSome w.in_default.is there))
]

pub returns-clause-room : goal.returns-clause-room
returns-clause-room c = HasRoomFor-less c.loop-leaf.tally _ 0 (omega arith) c.loop-leaf.invariant.0

pub returns-clause-counts : goal.returns-clause-counts
returns-clause-counts c =
    let frame = c.args.frame.now in
    let f = mesh_after frame.settings frame.events in
    let listed : take c.loop-leaf.leaf-index c.deref-leaf-items.result.now
    ≡ leaves frame.settings.depth (levels frame.settings frame.events) =
    take_all c.loop-leaf.leaf-index c.deref-leaf-items.result.now c.loop-leaf-test.false
    ∙ c.deref-leaf-items.ensures.value ∙ c.in_ok-leaves.ensures.value
    ∙ leaves-same c.levels.result.now.depth frame.settings.depth (split_at c.levels.result.now)
    (levels frame.settings frame.events) c.levels.ensures.depth c.levels.ensures.split in
    subst (λ xs. IsTallyOf c.loop-leaf.tally (frame_edges (map f xs))) listed
    c.loop-leaf.invariant.1
