-- The text of all leaves' meshes, one after another.
use Rattle.std.proofs.Common.{◌≡◌, ◌+◌, length, get_or, take, drop, map, ◌++◌, sym, ap, ◌∙◌, subst, arith, append-nil, refl, Contains}
use Rattle.std.specs.Prelude.{IsSome}
use Rattle.std.proofs.lemmas.Bool.{false≢true}
use Rattle.std.proofs.lemmas.List.{take_all}
use Rattle.std.proofs.lemmas.List.Elements.{Contains-get_or}
use Rattle.std.proofs.lemmas.Result.{err_from_is_err_and}
use Rattle.terrain.specs.MeshLists.{lists_of}
use Rattle.block_mesh.specs.declared.mesher.TheConstants.{MAX_KEYS}
use Rattle.lattice.specs.declared.node.Node.{Node}
use Rattle.snapshots.specs.Stats.{vertex_count}
use Rattle.mesh_out.specs.Text.{mesh_text, meshes_text}
use Rattle.mesh_out.specs.Writing.{StopsWriting, Writes}
use Rattle.octree.specs.SplitBits.{split_at}
use Rattle.snapshots.specs.Frame.{mesh_after}
use Rattle.terrain.specs.Blocks.{scratch}
use Rattle.terrain.specs.Levels.{leaves, levels}
use Rattle.audits.proofs.LeafCountLemmas.{few_leaves}
use Rattle.audits.proofs.LeafLemmas.{leaf-same, leaves-same}
use Rattle.mesh_out.proofs.TextLemmas.{lists_text-shown}
use Rattle.mesh_out.proofs.FrameLemmas.{all_few, count-more, few_vertices, one_more, text-more, text-rest}
use Rattle.mesh_out.proofs.WritingLemmas.{StopsWriting-longer, StopsWriting-none, StopsWriting-on, Writes-none, Writes-on}
use Rattle.mesh_out.proofs.shot.write_meshes.Given.{Over}
use Rattle.mesh_out.proofs.shot.write_meshes.Goals as goal
use Rattle.mesh_out.proofs.shot.write_meshes.Goals.{in-Some+in_ok-write_mesh, in_default}

-- what a list of leaves is read as past its end
abbrev past_end : Node
past_end = record { level = 0; k = 0; j = 0; i = 0 }

pub loop-leaf-init : goal.loop-leaf-init
loop-leaf-init g c =
    let s = g.K.Sink.state c.args.sink.now in
    let text = c.args.text.now.items in (
      subst (λ t. Writes s s t text) (sym (append-nil text)) (Writes-none s text),
      omega arith,
      omega arith,
    )

pub write_mesh-requires-clause-base_fits : goal.write_mesh-requires-clause-base_fits
write_mesh-requires-clause-base_fits g c =
    let few = few_leaves c.args.frame.now.settings.depth c.levels.result.now.depth
    (split_at c.levels.result.now) c.deref-leaf-items.result.now c.in_ok-leaves.leaves.items
    c.requires.sound.allowed.depth c.levels.ensures.depth c.deref-leaf-items.ensures.value
    c.in_ok-leaves.ensures.value in
    omega (
      arith,
      few_vertices c.args.base c.loop-leaf.vertices MAX_KEYS
          (length c.deref-leaf-items.result.now) c.loop-leaf.leaf-index 0 c.requires.base
          (omega arith) few c.loop-leaf-test.true c.loop-leaf.invariant.2 (omega arith),
    )

pub overflow_add-vertices : goal.overflow_add-vertices
overflow_add-vertices g c =
    let few = few_leaves c.args.frame.now.settings.depth c.levels.result.now.depth
    (split_at c.levels.result.now) c.deref-leaf-items.result.now c.in_ok-leaves.leaves.items
    c.requires.sound.allowed.depth c.levels.ensures.depth c.deref-leaf-items.ensures.value
    c.in_ok-leaves.ensures.value in
    omega (
      arith,
      few_vertices c.args.base c.loop-leaf.vertices MAX_KEYS
          (length c.deref-leaf-items.result.now) c.loop-leaf.leaf-index
          (length c.in-Some.block.keys.now) c.requires.base (omega arith) few c.loop-leaf-test.true
          c.loop-leaf.invariant.2 c.in-Some.ensures.lists.few,
    )

pub loop-leaf-preserved : goal.loop-leaf-preserved
loop-leaf-preserved g c = elim c.match-block.branch [
  | in-Some+in_ok-write_mesh w ↦
      let frame = c.args.frame.now in
      let xs = c.deref-leaf-items.result.now in
      let i = c.loop-leaf.leaf-index in
      let f = mesh_after frame.settings frame.events in
      let m = f (get_or xs i past_end) in
      let state = g.K.Sink.state in
      let v = c.loop-leaf.vertices in
      let so_far = c.loop-leaf.invariant in
      let shows = w.in-Some.ensures.mesh in
      let start = c.args.text.now.items in
      let before = start ++ meshes_text c.args.base (map f (take i xs)) in
      let left = w.write_mesh.new.text.items in
      let on = Writes-on (state c.args.sink.now) (state c.loop-leaf.sink)
      (state w.write_mesh.new.sink) before c.loop-leaf.text.items (mesh_text v m) so_far.0 left
      (subst (λ t. Writes (state c.loop-leaf.sink) (state w.write_mesh.new.sink)
      (c.loop-leaf.text.items ++ t) left)
      (lists_text-shown v (get_or xs i past_end) (lists_of w.in-Some.block) m refl shows)
      w.in_ok-write_mesh.ensures.text) in
      let step = subst
      (λ t. Writes (state c.args.sink.now) (state w.write_mesh.new.sink) t left)
      (text-more c.args.base f xs i past_end c.loop-leaf-test.true start before
      (before ++ mesh_text v m) v refl so_far.1 refl) on in (
        rw (w.sink-is, w.text-is) step,
        w.vertices-is ∙ count-more c.args.base f xs i past_end c.loop-leaf-test.true
            v (length w.in-Some.block.keys.now) so_far.1 (ap length shows.keys),
        omega (
          arith,
          w.vertices-is,
          one_more c.args.base v MAX_KEYS i
              (length w.in-Some.block.keys.now) so_far.2 w.in-Some.ensures.lists.few,
        ),
      )
  | in_default w ↦
      let frame = c.args.frame.now in
      let xs = c.deref-leaf-items.result.now in
      let node = get_or xs c.loop-leaf.leaf-index past_end in
      let among : Contains xs node =
      Contains-get_or xs c.loop-leaf.leaf-index past_end c.loop-leaf-test.true in
      let leaf = (c.in_ok-leaves.ensures.each.each node).1
      (subst (λ ys. Contains ys node) c.deref-leaf-items.ensures.value among) in
      let there = c.block.ensures.leaf.1 (leaf-same c.levels.result.now.depth frame.settings.depth
      (split_at c.levels.result.now) (levels frame.settings frame.events) node
      c.levels.ensures.depth c.levels.ensures.split leaf) in
      absurd (false≢true (subst IsSome w.in_default.is there))
]

-- all leaves are listed
listed : (g : Over) (c : goal.After-drop-leaves-2 g)
    → take c.loop-leaf.leaf-index c.deref-leaf-items.result.now
    ≡ leaves c.args.frame.now.settings.depth
    (levels c.args.frame.now.settings c.args.frame.now.events)
listed g c =
    let frame = c.args.frame.now in
    take_all c.loop-leaf.leaf-index c.deref-leaf-items.result.now c.loop-leaf-test.false
    ∙ c.deref-leaf-items.ensures.value ∙ c.in_ok-leaves.ensures.value
    ∙ leaves-same c.levels.result.now.depth frame.settings.depth (split_at c.levels.result.now)
    (levels frame.settings frame.events) c.levels.ensures.depth c.levels.ensures.split

pub returns-clause-text : goal.returns-clause-text
returns-clause-text g c =
    let f = mesh_after c.args.frame.now.settings c.args.frame.now.events in
    let state = g.K.Sink.state in
    subst (λ xs. Writes (state c.args.sink.now) (state c.loop-leaf.sink)
    (c.args.text.now.items ++ meshes_text c.args.base (map f xs)) c.loop-leaf.text.items)
    (listed g c) c.loop-leaf.invariant.0

pub returns-clause-vertices : goal.returns-clause-vertices
returns-clause-vertices g c =
    let f = mesh_after c.args.frame.now.settings c.args.frame.now.events in
    c.loop-leaf.invariant.1 ∙ ap (λ xs. c.args.base + vertex_count (map f xs)) (listed g c)

pub returns-clause-few : goal.returns-clause-few
returns-clause-few g c =
    let few = few_leaves c.args.frame.now.settings.depth c.levels.result.now.depth
    (split_at c.levels.result.now) c.deref-leaf-items.result.now c.in_ok-leaves.leaves.items
    c.requires.sound.allowed.depth c.levels.ensures.depth c.deref-leaf-items.ensures.value
    c.in_ok-leaves.ensures.value in
    omega (
      arith,
      all_few c.args.base c.loop-leaf.vertices MAX_KEYS c.loop-leaf.leaf-index
          (length c.deref-leaf-items.result.now) c.loop-leaf.invariant.2
          c.loop-leaf.auto.leaf-index-end
          few,
    )

pub returns-in_err-leaves-clause-stopped : goal.returns-in_err-leaves-clause-stopped
returns-in_err-leaves-clause-stopped g c =
    let residual = c.from_residual in
    let frame = c.args.frame.now in
    let p = err_from_is_err_and residual.result residual.ensures.1 in
    rw (p.1, p.2) (StopsWriting-none (g.K.Sink.state c.args.sink.now)
    (c.args.text.now.items ++ meshes_text c.args.base (scratch frame.settings frame.events)))

pub returns-in_err-write_mesh-clause-stopped : goal.returns-in_err-write_mesh-clause-stopped
returns-in_err-write_mesh-clause-stopped g c =
    let residual = c.from_residual-in_err-write_mesh in
    let p = err_from_is_err_and residual.result residual.ensures.1 in
    let frame = c.args.frame.now in
    let xs = c.deref-leaf-items.result.now in
    let i = c.loop-leaf.leaf-index in
    let f = mesh_after frame.settings frame.events in
    let m = f (get_or xs i past_end) in
    let state = g.K.Sink.state in
    let v = c.loop-leaf.vertices in
    let so_far = c.loop-leaf.invariant in
    let start = c.args.text.now.items in
    let before = start ++ meshes_text c.args.base (map f (take i xs)) in
    let more = meshes_text (c.args.base + vertex_count (map f (take (i + 1) xs)))
    (map f (drop (i + 1) xs)) in
    let fault = c.in_err-write_mesh.field-0.0 in
    let old = state c.args.sink.now in
    let new = state c.write_mesh.new.sink in
    let stopped = StopsWriting-longer fault old new (before ++ mesh_text v m) more
    (StopsWriting-on old (state c.loop-leaf.sink) new before c.loop-leaf.text.items
    (mesh_text v m) so_far.0 fault
    (subst (λ t. StopsWriting fault (state c.loop-leaf.sink) new (c.loop-leaf.text.items ++ t))
    (lists_text-shown v (get_or xs i past_end) (lists_of c.in-Some.block) m refl
    c.in-Some.ensures.mesh) c.in_err-write_mesh.ensures.stopped)) in
    let whole = subst (λ t. StopsWriting fault old new t)
    (sym (text-rest c.args.base f xs i past_end c.loop-leaf-test.true start v so_far.1)) stopped in
    let all = c.deref-leaf-items.ensures.value ∙ c.in_ok-leaves.ensures.value
    ∙ leaves-same c.levels.result.now.depth frame.settings.depth (split_at c.levels.result.now)
    (levels frame.settings frame.events) c.levels.ensures.depth c.levels.ensures.split in
    let of_scratch = subst (λ ys. StopsWriting fault old new
    (start ++ meshes_text c.args.base (map f ys))) all whole in
    rw (p.1, p.2) of_scratch
