-- What comes next in a block.
use Rattle.std.proofs.Common.{◌≡◌, ◌≤◌, [], ◌∷◌, ◌++◌, length, map, ap, ◌∙◌, rules}
use Rattle.terrain.specs.MeshLists.{MeshLists}
use Rattle.replicas.specs.Drafts.{draft_of}
use Rattle.replicas.specs.Held.{world_held}
use Rattle.replicas.specs.Puts.{block_put}
use Rattle.replicas.proofs.BlockStageLemmas.{goes-behind}
use Rattle.replicas.proofs.draft.Draft.go_on.Goals as goal

pub returns-clause-goes : goal.returns-clause-goes
returns-clause-goes c =
    let old = c.args.self.now in
    let all_keys : old.key_count ≤ length old.keys.items = search rules in
    let all_triangles : old.triangle_count ≤ length old.triangles.items = search rules in
    let before = map block_put old.blocks.items in
    let more : map block_put c.push_put.new.puts.items ≡ before ++ record {
      node = old.node;
      mesh = record {
        keys = old.keys.items;
        positions = old.positions.items;
        triangles = old.triangles.items;
      };
    } ∷ [] =
    c.in_ok-push_put.ensures ∙ ap (λ (m : MeshLists). before ++ record { node = old.node; mesh = m }
    ∷ [])
    (λ i. record {
      keys = c.take_list.ensures.taken i;
      positions = c.take_list-2.ensures.taken i;
      triangles = c.take_list-3.ensures.taken i;
    }) in
    goes-behind (world_held c.args.held.now) (draft_of old) c.requires
    (map block_put c.push_put.new.puts.items) c.take_list.new.list.items
    c.take_list-2.new.list.items c.take_list-3.new.list.items c.stage_of_blocks-self.result all_keys
    all_triangles more c.take_list.ensures.left c.take_list-2.ensures.left
    c.take_list-3.ensures.left c.stage_of_blocks-self.ensures.value
