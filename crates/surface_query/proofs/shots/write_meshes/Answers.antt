-- The text of all leaves' meshes, one after another.
use Rattle.std.proofs.Common.{◌≡◌, ℕ, ◌+◌, ◌*◌, ◌^◌, ◌<◌, ◌≤◌, All, length, get_or, take, drop, map, ◌++◌, sym, ap, ◌∙◌, subst, arith, append-nil, refl, Contains}
use Rattle.std.specs.Prelude.{IsSome}
use Rattle.std.proofs.lemmas.Bool.{false≢true}
use Rattle.std.proofs.lemmas.List.{take_all}
use Rattle.std.proofs.lemmas.List.Elements.{Contains-get_or}
use Rattle.std.proofs.lemmas.Result.{err_from_is_err_and}
use Rattle.audits.proofs.LeafCountLemmas.{few_leaves}
use Rattle.audits.proofs.LeafLemmas.{leaf-same, leaves-same}
use Rattle.audits.specs.declared.leaves.TheConstants.{MAX_LEAVES}
use Rattle.terrain.specs.MeshLists.{MeshLists}
use Rattle.block_mesh.specs.declared.mesher.TheConstants.{MAX_KEYS}
use Rattle.lattice.specs.Key.{IsKey}
use Rattle.lattice.specs.declared.node.Node.{Node}
use Rattle.mesh_out.proofs.FrameLemmas.{all_few, count-more, few_vertices, one_more}
use Rattle.mesh_out.proofs.WritingLemmas.{StopsWriting-longer, StopsWriting-none, StopsWriting-on, Writes-none, Writes-on}
use Rattle.mesh_out.specs.Writing.{StopsWriting, Writes}
use Rattle.mesh_out.specs.declared.obj.TheConstants.{MAX_MESH_BASE}
use Rattle.mesh_out.specs.declared.shot.TheConstants.{MAX_BASE}
use Rattle.octree.specs.SplitBits.{split_at}
use Rattle.snapshots.specs.Frame.{mesh_after}
use Rattle.snapshots.specs.Stats.{vertex_count}
use Rattle.terrain.specs.Blocks.{scratch}
use Rattle.terrain.specs.History.{sample}
use Rattle.terrain.specs.Levels.{IsLeaf, leaves, levels}
use Rattle.surface_normals.specs.Normals.{normal_of}
use Rattle.surface_query.proofs.ShotLemmas.{brick-node, text-more, text-rest}
use Rattle.surface_query.specs.NormalText.{mesh_with_normals, meshes_with_normals, raised}
use Rattle.surface_query.specs.declared.bases.Bases.{Bases}
use Rattle.surface_query.proofs.shots.write_meshes.Given.{Over}
use Rattle.surface_query.proofs.shots.write_meshes.Goals as goal
use Rattle.surface_query.proofs.shots.write_meshes.Goals.{in-Some+in_ok-write_mesh, in_default}

-- what a list of leaves is read as past its end
abbrev past_end : Node
past_end = record { level = 0; k = 0; j = 0; i = 0 }

pub loop-leaf-init : goal.loop-leaf-init
loop-leaf-init g c =
    let s = g.K.Sink.state c.args.sink.now in
    let text = c.args.text.now.items in (
      subst (λ t. Writes s s t text) (sym (append-nil text)) (Writes-none s text),
      refl,
      omega arith,
    )

-- so many vertices, or so many normals, fit their types
fits : (base count most length index added : ℕ) → base ≤ MAX_BASE → most ≤ 2 ^ 20
    → length ≤ MAX_LEAVES → index < length → count ≤ most * index → added ≤ most
    → base + count + added ≤ MAX_MESH_BASE
fits base count most length index added below small few inside so_far last =
    few_vertices base (base + count) most length index added below small few inside
    (omega (arith, so_far)) last

pub raised-requires-clause-vertices : goal.raised-requires-clause-vertices
raised-requires-clause-vertices g c =
    let few = few_leaves c.args.frame.now.settings.depth c.levels.result.now.depth
    (split_at c.levels.result.now) c.deref-leaf-items.result.now c.in_ok-leaves.leaves.items
    c.requires.sound.allowed.depth c.levels.ensures.depth c.deref-leaf-items.ensures.value
    c.in_ok-leaves.ensures.value in
    omega (
      arith,
      fits c.args.bases.vertices c.loop-leaf.count MAX_KEYS
          (length c.deref-leaf-items.result.now) c.loop-leaf.leaf-index 0 c.requires.vertices
          (omega arith) few c.loop-leaf-test.true c.loop-leaf.invariant.2 (omega arith),
    )

pub raised-requires-clause-normals : goal.raised-requires-clause-normals
raised-requires-clause-normals g c =
    let few = few_leaves c.args.frame.now.settings.depth c.levels.result.now.depth
    (split_at c.levels.result.now) c.deref-leaf-items.result.now c.in_ok-leaves.leaves.items
    c.requires.sound.allowed.depth c.levels.ensures.depth c.deref-leaf-items.ensures.value
    c.in_ok-leaves.ensures.value in
    omega (
      arith,
      fits c.args.bases.normals c.loop-leaf.count MAX_KEYS
          (length c.deref-leaf-items.result.now) c.loop-leaf.leaf-index 0 c.requires.normals
          (omega arith) few c.loop-leaf-test.true c.loop-leaf.invariant.2 (omega arith),
    )

pub write_mesh-requires-clause-bases : goal.write_mesh-requires-clause-bases
write_mesh-requires-clause-bases g c =
    let few = few_leaves c.args.frame.now.settings.depth c.levels.result.now.depth
    (split_at c.levels.result.now) c.deref-leaf-items.result.now c.in_ok-leaves.leaves.items
    c.requires.sound.allowed.depth c.levels.ensures.depth c.deref-leaf-items.ensures.value
    c.in_ok-leaves.ensures.value in
    let vertices = fits c.args.bases.vertices c.loop-leaf.count MAX_KEYS
    (length c.deref-leaf-items.result.now) c.loop-leaf.leaf-index 0 c.requires.vertices
    (omega arith) few c.loop-leaf-test.true c.loop-leaf.invariant.2 (omega arith) in
    let normals = fits c.args.bases.normals c.loop-leaf.count MAX_KEYS
    (length c.deref-leaf-items.result.now) c.loop-leaf.leaf-index 0 c.requires.normals
    (omega arith) few c.loop-leaf-test.true c.loop-leaf.invariant.2 (omega arith) in
    record {
      vertices = omega (arith, vertices, ap (λ (b : Bases). b.vertices) c.raised.ensures);
      normals = omega (arith, normals, ap (λ (b : Bases). b.normals) c.raised.ensures);
    }

pub write_mesh-requires-clause-keys : goal.write_mesh-requires-clause-keys
write_mesh-requires-clause-keys g c =
    let frame = c.args.frame.now in
    let node = get_or c.deref-leaf-items.result.now c.loop-leaf.leaf-index past_end in
    subst (All (IsKey frame.settings.depth)) (sym c.in-Some.ensures.block.mesh.keys)
    (c.keys_of_leaves_are_in_their_world.ensures frame.settings frame.events node
    (c.in-Some.ensures.leaf.0 refl))

pub write_mesh-requires-clause-leaf : goal.write_mesh-requires-clause-leaf
write_mesh-requires-clause-leaf g c =
    let frame = c.args.frame.now in
    subst (IsLeaf frame.settings.depth (levels frame.settings frame.events))
    (brick-node frame.settings.depth (sample frame.settings frame.events)
    (levels frame.settings frame.events)
    (get_or c.deref-leaf-items.result.now c.loop-leaf.leaf-index past_end) c.in-Some.done.now.brick
    c.in-Some.ensures.block.brick) (c.in-Some.ensures.leaf.0 refl)

pub overflow_add-count : goal.overflow_add-count
overflow_add-count g c =
    let few = few_leaves c.args.frame.now.settings.depth c.levels.result.now.depth
    (split_at c.levels.result.now) c.deref-leaf-items.result.now c.in_ok-leaves.leaves.items
    c.requires.sound.allowed.depth c.levels.ensures.depth c.deref-leaf-items.ensures.value
    c.in_ok-leaves.ensures.value in
    omega (
      arith,
      fits 0 c.loop-leaf.count MAX_KEYS (length c.deref-leaf-items.result.now)
          c.loop-leaf.leaf-index (length c.view.result.keys.now) (omega arith) (omega arith) few
          c.loop-leaf-test.true c.loop-leaf.invariant.2
          (omega (
            arith,
            ap (λ (m : MeshLists). length m.keys) c.view.ensures.lists,
            c.view.ensures.mesh.few,
          )),
    )

pub loop-leaf-preserved : goal.loop-leaf-preserved
loop-leaf-preserved g c = elim c.match-done.branch [
  | in-Some+in_ok-write_mesh w ↦
      let frame = c.args.frame.now in
      let xs = c.deref-leaf-items.result.now in
      let i = c.loop-leaf.leaf-index in
      let f = mesh_after frame.settings frame.events in
      let m = f (get_or xs i past_end) in
      let state = g.K.Sink.state in
      let v = c.loop-leaf.count in
      let so_far = c.loop-leaf.invariant in
      let shows = w.in-Some.ensures.block.mesh in
      let own = brick-node frame.settings.depth (sample frame.settings frame.events)
      (levels frame.settings frame.events) (get_or xs i past_end) w.in-Some.done.now.brick
      w.in-Some.ensures.block.brick in
      let keys = ap (λ (m : MeshLists). length m.keys) w.view.ensures.lists in
      let start = c.args.text.now.items in
      let bases = c.args.bases in
      let normals = normal_of frame.settings.depth (sample frame.settings frame.events) in
      let before = start ++ meshes_with_normals normals bases (map f (take i xs)) in
      let next = mesh_with_normals normals (raised bases v) m in
      let left = w.write_mesh.new.text.items in
      let behind = subst
      (λ b. Writes (state c.loop-leaf.sink) (state w.write_mesh.new.sink)
      (c.loop-leaf.text.items ++ mesh_with_normals normals b m) left)
      w.raised.ensures (w.in_ok-write_mesh.ensures.text m own shows) in
      let on = Writes-on (state c.args.sink.now) (state c.loop-leaf.sink)
      (state w.write_mesh.new.sink) before c.loop-leaf.text.items next so_far.0 left behind in
      let step = subst
      (λ t. Writes (state c.args.sink.now) (state w.write_mesh.new.sink) t left)
      (text-more normals bases f xs i past_end c.loop-leaf-test.true start v so_far.1) on in (
        rw (w.sink-is, w.text-is) step,
        omega (
          arith,
          w.count-is,
          count-more 0 f xs i past_end c.loop-leaf-test.true v
              (length w.view.result.keys.now) (omega (arith, so_far.1))
              (keys ∙ ap length shows.keys),
        ),
        omega (
          arith,
          w.count-is,
          one_more 0 v MAX_KEYS i (length w.view.result.keys.now)
              (omega (arith, so_far.2)) (omega (arith, keys, w.view.ensures.mesh.few)),
        ),
      )
  | in_default w ↦
      let frame = c.args.frame.now in
      let xs = c.deref-leaf-items.result.now in
      let node = get_or xs c.loop-leaf.leaf-index past_end in
      let among : Contains xs node =
      Contains-get_or xs c.loop-leaf.leaf-index past_end c.loop-leaf-test.true in
      let leaf = (c.in_ok-leaves.ensures.each.each node).1
      (subst (λ ys. Contains ys node) c.deref-leaf-items.ensures.value among) in
      let there = c.done.ensures.leaf.1 (leaf-same c.levels.result.now.depth frame.settings.depth
      (split_at c.levels.result.now) (levels frame.settings frame.events) node
      c.levels.ensures.depth c.levels.ensures.split leaf) in
      absurd (false≢true (subst IsSome w.in_default.is there))
]

-- all leaves are listed
listed : (g : Over) (c : goal.After-drop-leaves-2 g)
    → take c.loop-leaf.leaf-index c.deref-leaf-items.result.now
    ≡ leaves c.args.frame.now.settings.depth
    (levels c.args.frame.now.settings c.args.frame.now.events)
listed g c =
    let frame = c.args.frame.now in
    take_all c.loop-leaf.leaf-index c.deref-leaf-items.result.now c.loop-leaf-test.false
    ∙ c.deref-leaf-items.ensures.value ∙ c.in_ok-leaves.ensures.value
    ∙ leaves-same c.levels.result.now.depth frame.settings.depth (split_at c.levels.result.now)
    (levels frame.settings frame.events) c.levels.ensures.depth c.levels.ensures.split

pub returns-clause-text : goal.returns-clause-text
returns-clause-text g c =
    let frame = c.args.frame.now in
    let f = mesh_after frame.settings frame.events in
    let state = g.K.Sink.state in
    let normals = normal_of frame.settings.depth (sample frame.settings frame.events) in
    subst (λ xs. Writes (state c.args.sink.now) (state c.loop-leaf.sink)
    (c.args.text.now.items ++ meshes_with_normals normals c.args.bases (map f xs))
    c.loop-leaf.text.items) (listed g c) c.loop-leaf.invariant.0

pub returns-clause-count : goal.returns-clause-count
returns-clause-count g c =
    let f = mesh_after c.args.frame.now.settings c.args.frame.now.events in
    c.loop-leaf.invariant.1 ∙ ap (λ xs. vertex_count (map f xs)) (listed g c)

pub returns-clause-few : goal.returns-clause-few
returns-clause-few g c =
    let few = few_leaves c.args.frame.now.settings.depth c.levels.result.now.depth
    (split_at c.levels.result.now) c.deref-leaf-items.result.now c.in_ok-leaves.leaves.items
    c.requires.sound.allowed.depth c.levels.ensures.depth c.deref-leaf-items.ensures.value
    c.in_ok-leaves.ensures.value in
    omega (
      arith,
      all_few 0 c.loop-leaf.count MAX_KEYS c.loop-leaf.leaf-index
          (length c.deref-leaf-items.result.now) (omega (arith, c.loop-leaf.invariant.2))
          c.loop-leaf.auto.leaf-index-end
          few,
    )

pub returns-in_err-leaves-clause-stopped : goal.returns-in_err-leaves-clause-stopped
returns-in_err-leaves-clause-stopped g c =
    let residual = c.from_residual in
    let frame = c.args.frame.now in
    let normals = normal_of frame.settings.depth (sample frame.settings frame.events) in
    let p = err_from_is_err_and residual.result residual.ensures.1 in
    rw (p.1, p.2) (StopsWriting-none (g.K.Sink.state c.args.sink.now)
    (c.args.text.now.items ++ meshes_with_normals normals c.args.bases
    (scratch frame.settings frame.events)))

pub returns-in_err-write_mesh-clause-stopped : goal.returns-in_err-write_mesh-clause-stopped
returns-in_err-write_mesh-clause-stopped g c =
    let residual = c.from_residual-in_err-write_mesh in
    let p = err_from_is_err_and residual.result residual.ensures.1 in
    let frame = c.args.frame.now in
    let xs = c.deref-leaf-items.result.now in
    let i = c.loop-leaf.leaf-index in
    let f = mesh_after frame.settings frame.events in
    let m = f (get_or xs i past_end) in
    let state = g.K.Sink.state in
    let v = c.loop-leaf.count in
    let so_far = c.loop-leaf.invariant in
    let start = c.args.text.now.items in
    let bases = c.args.bases in
    let normals = normal_of frame.settings.depth (sample frame.settings frame.events) in
    let before = start ++ meshes_with_normals normals bases (map f (take i xs)) in
    let next = mesh_with_normals normals (raised bases v) m in
    let more = meshes_with_normals normals (raised bases (vertex_count (map f (take (i + 1) xs))))
    (map f (drop (i + 1) xs)) in
    let fault = c.in_err-write_mesh.field-0.0 in
    let own = brick-node frame.settings.depth (sample frame.settings frame.events)
    (levels frame.settings frame.events) (get_or xs i past_end) c.in-Some.done.now.brick
    c.in-Some.ensures.block.brick in
    let old = state c.args.sink.now in
    let new = state c.write_mesh.new.sink in
    let here = subst
    (λ b. StopsWriting fault (state c.loop-leaf.sink) new
    (c.loop-leaf.text.items ++ mesh_with_normals normals b m))
    c.raised.ensures (c.in_err-write_mesh.ensures.stopped m own c.in-Some.ensures.block.mesh) in
    let stopped = StopsWriting-longer fault old new (before ++ next) more
    (StopsWriting-on old (state c.loop-leaf.sink) new before c.loop-leaf.text.items next
    so_far.0 fault here) in
    let whole = subst (λ t. StopsWriting fault old new t)
    (sym (text-rest normals bases f xs i past_end c.loop-leaf-test.true start v so_far.1))
    stopped in
    let all = c.deref-leaf-items.ensures.value ∙ c.in_ok-leaves.ensures.value
    ∙ leaves-same c.levels.result.now.depth frame.settings.depth (split_at c.levels.result.now)
    (levels frame.settings frame.events) c.levels.ensures.depth c.levels.ensures.split in
    let of_scratch = subst (λ ys. StopsWriting fault old new
    (start ++ meshes_with_normals normals bases (map f ys))) all whole in
    rw (p.1, p.2) of_scratch
