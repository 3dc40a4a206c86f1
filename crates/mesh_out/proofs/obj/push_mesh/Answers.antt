-- The text of a mesh, part by part.
use Rattle.std.proofs.Common.{◌<◌, length, arith}
use Rattle.std.proofs.lemmas.Result.{on_ok_weaker}
use Rattle.std.proofs.lemmas.Bool.Decides.{nat_tests}
use Rattle.terrain.specs.MeshLists.{MeshLists, lists_of}
use Rattle.mesh_out.proofs.TextLemmas.{appended-three, lists_text-parts}
use Rattle.mesh_out.proofs.obj.push_mesh.Goals as goal

pub returns : goal.returns
returns c =
    let lists : MeshLists = lists_of c.args.block in
    let some : 0 < length c.args.block.triangles.now =
    grind (arith, nat_tests, c.is_empty.ensures, c.if-is_empty.false) in
    on_ok_weaker c.push_faces.result
    (λ told.
    appended-three _ _ _ _ _ _ _ _ _ c.in_ok-reserve.ensures.items c.in_ok-push_group.ensures
    c.in_ok-push_vertices.ensures told
    (lists_text-parts c.args.base c.args.leaf lists some))
    c.push_faces.ensures
