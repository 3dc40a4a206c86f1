-- The text of a mesh, part by part.
use Rattle.std.proofs.Common.{◌≡◌, ◌<◌, ◌∙◌, All, ap, arith, length, subst, sym}
use Rattle.std.proofs.lemmas.Result.{on_ok_weaker}
use Rattle.std.proofs.lemmas.Bool.Decides.{nat_tests}
use Rattle.block_mesh.specs.Mesh.{ShowsMesh}
use Rattle.terrain.specs.MeshLists.{MeshLists, lists_of}
use Rattle.lattice.specs.Key.{IsKey}
use Rattle.terrain.specs.History.{sample}
use Rattle.terrain.specs.Levels.{IsLeaf, levels}
use Rattle.surface_normals.specs.Normals.{normal_of}
use Rattle.surface_query.proofs.MeshLemmas.{appended-four, mesh-shown}
use Rattle.surface_query.proofs.lines.push_mesh.Goals as goal

pub push_normals-requires-clause-leaf : goal.push_normals-requires-clause-leaf
push_normals-requires-clause-leaf c =
    let frame = c.args.frame.now in
    subst (IsLeaf frame.settings.depth (levels frame.settings frame.events))
    (sym c.node-leaf.ensures.value) c.requires.leaf

pub push_normals-requires-clause-keys : goal.push_normals-requires-clause-keys
push_normals-requires-clause-keys c =
    subst (All (IsKey c.args.frame.now.settings.depth))
    (sym (ap (λ (lists : MeshLists). lists.keys) c.view-block.ensures.lists)) c.requires.keys

pub returns : goal.returns
returns c =
    let lists : MeshLists = lists_of c.view-block.result in
    let frame = c.args.frame.now in
    let some : 0 < length c.view-block.result.triangles.now =
    grind (arith, nat_tests, c.is_empty.ensures, c.if-is_empty.false) in
    let leaf : c.args.done.now.brick.node ≡ c.node-leaf.result = sym c.node-leaf.ensures.value in
    on_ok_weaker c.push_faces.result
    (λ told m at shows.
    appended-four _ _ _ _ _ _ _ _ _ _ _ c.in_ok-reserve.ensures.items c.in_ok-push_group.ensures
    c.in_ok-push_vertices.ensures c.in_ok-push_normals.ensures told
    (mesh-shown (normal_of frame.settings.depth (sample frame.settings frame.events))
    c.args.bases c.node-leaf.result lists m some (at ∙ leaf)
    (subst (λ l. ShowsMesh l m) (sym c.view-block.ensures.lists) shows)))
    c.push_faces.ensures
