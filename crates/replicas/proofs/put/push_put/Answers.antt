-- The block lies behind the pointer.
use Rattle.std.proofs.Common.{ap, ◌∙◌, [], ◌∷◌, ◌++◌, map}
use Rattle.std.proofs.lemmas.List.{map_push}
use Rattle.terrain.specs.MeshLists.{MeshLists}
use Rattle.replicas.specs.Puts.{block_put}
use Rattle.replicas.proofs.put.push_put.Goals as goal

pub returns : goal.returns
returns c =
    let before = c.args.puts.now.items in
    ap (map block_put) c.in_ok-push.ensures.items
    ∙ map_push block_put before (record { node = c.args.node; block = c.in_ok-block.block })
    ∙ ap (λ (mesh : MeshLists). map block_put before
    ++ record { node = c.args.node; mesh = mesh } ∷ [])
    c.in_ok-block.ensures.ok
