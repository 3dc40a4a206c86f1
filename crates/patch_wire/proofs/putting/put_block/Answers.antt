-- A block, part by part.
use Rattle.std.proofs.Common.{◌++◌, arith, ap, sym, subst, ◌∙◌, length}
use Rattle.std.specs.List.{flat_map, zip}
use Rattle.std.proofs.lemmas.Result.{err_from_is_err_and, on_err_weaker, on_ok_weaker}
use Rattle.std.specs.Arc.{arc_value}
use Rattle.block_mesh.specs.Done.{DoneState, IsDone}
use Rattle.terrain.specs.MeshLists.{MeshLists, lists_of}
use Rattle.lattice.specs.Node.{IsNode}
use Rattle.mesh_out.specs.Writing.{Writes}
use Rattle.replicas.specs.Grammar.{triangle_bytes, vertex_bytes}
use Rattle.patch_wire.specs.Puttable.{wire_block}
use Rattle.patch_wire.specs.Putting.{CutsOff}
use Rattle.patch_wire.proofs.BatchLemmas.{block-parts, put-on, stops-before, stops-on}
use Rattle.patch_wire.proofs.FitLemmas.{few_triangles, node_fits}
use Rattle.patch_wire.proofs.putting.put_block.Goals as goal

pub block_head_bytes-requires : goal.block_head_bytes-requires
block_head_bytes-requires g c =
    let own = c.deref.result.now.brick in
    let is = c.node-node.ensures.done.brick in
    node_fits own.depth c.node-node.result (omega (arith, is.depth))
    (subst (IsNode own.depth) (sym c.node-node.ensures.value) is.node)

pub overflow_cast-triangles : goal.overflow_cast-triangles
overflow_cast-triangles g c =
    let is = subst IsDone c.deref.ensures c.node-node.ensures.done in
    omega (
      arith,
      ap (λ (lists : MeshLists). length lists.triangles)
          (c.view-mesh.ensures.lists ∙ ap (λ (d : DoneState). d.mesh) c.deref-2.ensures),
      few_triangles c.triangles_are_few.ensures.leaf (arc_value c.args.done.now) is,
    )

pub returns-in_err-put-clause-stopped : goal.returns-in_err-put-clause-stopped
returns-in_err-put-clause-stopped g c =
    let state = g.K.Sink.state in
    let lists : MeshLists = lists_of c.view-mesh.result in
    let start = c.args.batch.now in
    let head = c.block_head_bytes.result in
    let v = flat_map vertex_bytes (zip lists.keys lists.positions) in
    let t = flat_map triangle_bytes lists.triangles in
    let old = state c.args.sink.now in
    let whole = block-parts c.node-node.result lists (wire_block (arc_value c.args.done.now)) head
    (c.node-node.ensures.value ∙ ap (λ (d : DoneState). d.brick.node) c.deref.ensures)
    (c.view-mesh.ensures.lists ∙ ap (λ (d : DoneState). d.mesh) c.deref-2.ensures)
    c.block_head_bytes.ensures in
    let p = err_from_is_err_and c.from_residual.result c.from_residual.ensures.1 in
    let new = state c.put.new.sink in
    rw p.1 (subst (λ bytes. CutsOff old new (start ++ bytes)) whole
    (stops-before old new start (head ++ v) t
    (stops-before old new start head v c.in_err-put.ensures.stopped)))

pub returns-in_err-put_vertices-clause-stopped : goal.returns-in_err-put_vertices-clause-stopped
returns-in_err-put_vertices-clause-stopped g c =
    let state = g.K.Sink.state in
    let lists : MeshLists = lists_of c.view-mesh.result in
    let start = c.args.batch.now in
    let head = c.block_head_bytes.result in
    let v = flat_map vertex_bytes (zip lists.keys lists.positions) in
    let t = flat_map triangle_bytes lists.triangles in
    let old = state c.args.sink.now in
    let whole = block-parts c.node-node.result lists (wire_block (arc_value c.args.done.now)) head
    (c.node-node.ensures.value ∙ ap (λ (d : DoneState). d.brick.node) c.deref.ensures)
    (c.view-mesh.ensures.lists ∙ ap (λ (d : DoneState). d.mesh) c.deref-2.ensures)
    c.block_head_bytes.ensures in
    let residual = c.from_residual-in_err-put_vertices in
    let p = err_from_is_err_and residual.result residual.ensures.1 in
    let new = state c.put_vertices.new.sink in
    rw p.1 (subst (λ bytes. CutsOff old new (start ++ bytes)) whole
    (stops-before old new start (head ++ v) t
    (stops-on old (state c.put.new.sink) new start head c.put.new.self v
    c.in_ok-put.ensures.held c.in_err-put_vertices.ensures.stopped)))

pub returns-clause-held : goal.returns-clause-held
returns-clause-held g c =
    let state = g.K.Sink.state in
    let lists : MeshLists = lists_of c.view-mesh.result in
    let start = c.args.batch.now in
    let head = c.block_head_bytes.result in
    let v = flat_map vertex_bytes (zip lists.keys lists.positions) in
    let t = flat_map triangle_bytes lists.triangles in
    let old = state c.args.sink.now in
    let whole = block-parts c.node-node.result lists (wire_block (arc_value c.args.done.now)) head
    (c.node-node.ensures.value ∙ ap (λ (d : DoneState). d.brick.node) c.deref.ensures)
    (c.view-mesh.ensures.lists ∙ ap (λ (d : DoneState). d.mesh) c.deref-2.ensures)
    c.block_head_bytes.ensures in
    let two = put-on old (state c.put.new.sink) (state c.put_vertices.new.sink) start head
    c.put.new.self v c.in_ok-put.ensures.held c.put_vertices.new.batch
    c.in_ok-put_vertices.ensures.held in
    on_ok_weaker c.put_triangles.result
    (λ last. subst (λ bytes. Writes old (state c.put_triangles.new.sink) (start ++ bytes)
    c.put_triangles.new.batch) whole
    (put-on old (state c.put_vertices.new.sink) (state c.put_triangles.new.sink) start (head ++ v)
    c.put_vertices.new.batch t two c.put_triangles.new.batch last))
    c.put_triangles.ensures.held

pub returns-clause-stopped : goal.returns-clause-stopped
returns-clause-stopped g c =
    let state = g.K.Sink.state in
    let lists : MeshLists = lists_of c.view-mesh.result in
    let start = c.args.batch.now in
    let head = c.block_head_bytes.result in
    let v = flat_map vertex_bytes (zip lists.keys lists.positions) in
    let t = flat_map triangle_bytes lists.triangles in
    let old = state c.args.sink.now in
    let whole = block-parts c.node-node.result lists (wire_block (arc_value c.args.done.now)) head
    (c.node-node.ensures.value ∙ ap (λ (d : DoneState). d.brick.node) c.deref.ensures)
    (c.view-mesh.ensures.lists ∙ ap (λ (d : DoneState). d.mesh) c.deref-2.ensures)
    c.block_head_bytes.ensures in
    let two = put-on old (state c.put.new.sink) (state c.put_vertices.new.sink) start head
    c.put.new.self v c.in_ok-put.ensures.held c.put_vertices.new.batch
    c.in_ok-put_vertices.ensures.held in
    on_err_weaker c.put_triangles.result
    (λ last. subst (λ bytes. CutsOff old (state c.put_triangles.new.sink) (start ++ bytes)) whole
    (stops-on old (state c.put_vertices.new.sink) (state c.put_triangles.new.sink) start
    (head ++ v) c.put_vertices.new.batch t two last))
    c.put_triangles.ensures.stopped
