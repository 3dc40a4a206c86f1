-- All blocks are put, and then the slots of nodes that are no leaves are cleared.
use Rattle.std.proofs.Common.{◌≡◌, ◌++◌, map, ap, subst, sym, ◌∙◌}
use Rattle.std.proofs.lemmas.Simd.{map-map}
use Rattle.std.specs.Arc.{arc_value}
use Rattle.std.specs.Prelude.{filter, not}
use Rattle.octree.specs.SplitBits.{SplitBits, split_at}
use Rattle.terrain.specs.Levels.{is_leaf, leaves}
use Rattle.node_tables.specs.NodeSlots.{item_at}
use Rattle.snapshots.specs.Absorbed.{IsTidy}
use Rattle.snapshots.specs.Blocks.{block_node, cleared, put_over}
use Rattle.snapshots.proofs.AbsorbedLemmas.{cleared-held, others_of}
use Rattle.snapshots.proofs.frame.Frame.emptied.Goals as goal

pub returns : goal.returns
returns c =
    let frame = c.args.self.now in
    let patch = c.args.patch.now in
    let dones = map arc_value patch.put.items in
    let tidy : IsTidy frame = subst IsTidy c.self.view_is c.self.invariant in
    let stray : c.deref-6.result.now ≡ others_of patch (map block_node dones) =
    c.deref-6.ensures.value ∙ c.in_ok-stray.ensures
    ∙ ap (λ (l : SplitBits). filter (λ n. not (is_leaf l.depth (split_at l) n))
    c.deref-2.result.now) c.deref-3.ensures
    ∙ ap (others_of patch)
    (c.deref-2.ensures.value ∙ c.in_ok-put.ensures
    ∙ ap (map (λ done. block_node (arc_value done))) c.deref.ensures.value
    ∙ sym (map-map block_node arc_value patch.put.items)) in
    let lost : c.in_ok-nodes.nodes.items
    ≡ others_of patch (leaves frame.levels.depth (split_at frame.levels)) =
    c.in_ok-nodes.ensures
    ∙ ap (λ (l : SplitBits). filter (λ n. not (is_leaf l.depth (split_at l) n))
    (leaves c.deref-4.result.now.depth (split_at c.deref-4.result.now))) c.deref-5.ensures
    ∙ ap (λ (l : SplitBits). others_of patch (leaves l.depth (split_at l)))
    (c.deref-4.ensures ∙ ap (λ f. f.levels) c.self.view_is) in
    λ n.
    ap (λ nodes. cleared nodes n (put_over dones n (item_at frame.blocks n)))
    (c.in_ok-extend_from_slice.ensures.items ∙ (λ i. lost i ++ stray i))
    ∙ cleared-held frame patch tidy n
