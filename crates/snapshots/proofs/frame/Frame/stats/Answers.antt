-- A sound frame's stats are those of the meshes of its journal.
use Rattle.std.proofs.Common.{◌≡◌, ap, length, map, refl, ◌∙◌}
use Rattle.std.proofs.lemmas.List.{length-map}
use Rattle.lattice.specs.Node.{nodes}
use Rattle.terrain.specs.Blocks.{scratch}
use Rattle.block_mesh.specs.Mesh.{index_among}
use Rattle.node_tables.specs.NodeSlots.{item_at}
use Rattle.snapshots.specs.Stats.{stats_of_slot, stats_of_slots}
use Rattle.snapshots.proofs.FrameLemmas.{sum_by-scratch}
use Rattle.snapshots.proofs.StatsLemmas.{sum_by-ones, triangle_count-sum, vertex_count-sum}
use Rattle.snapshots.proofs.frame.Frame.stats.Goals as goal

counted : (c : goal.After-stats) → c.stats.result
    ≡ stats_of_slots (map (item_at c.args.self.now.blocks) (nodes c.args.self.now.settings.depth))
counted c =
    c.stats.ensures
    ∙ ap (λ blocks. stats_of_slots (map (item_at blocks) (nodes blocks.depth)))
    (ap (λ f. f.blocks) c.self.view_is)
    ∙ ap (λ depth. stats_of_slots (map (item_at c.args.self.now.blocks) (nodes depth)))
    c.requires.stands.table_depth

pub returns : goal.returns
returns c =
    let frame = c.args.self.now in
    let meshes = scratch frame.settings frame.events in
    let leaves = sum_by-scratch frame c.requires (λ h. (stats_of_slot h).leaves) (λ m. 1) refl
    (λ d m shows. refl) ∙ sum_by-ones meshes in
    let triangles = sum_by-scratch frame c.requires (λ h. (stats_of_slot h).triangles)
    (λ m. length m.triangles) refl (λ d m shows.
    ap length shows.triangles ∙ length-map m.triangles (map (λ key. index_among key m.keys)))
    ∙ triangle_count-sum meshes in
    let keys = sum_by-scratch frame c.requires (λ h. (stats_of_slot h).keys)
    (λ m. length m.keys) refl (λ d m shows. ap length shows.keys) ∙ vertex_count-sum meshes in
    counted c ∙ (λ i. record { leaves = leaves i; triangles = triangles i; keys = keys i })
