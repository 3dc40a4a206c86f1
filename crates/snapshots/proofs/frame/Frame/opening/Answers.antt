-- The root is the one leaf.
use Rattle.std.proofs.Common.{◌≡◌, [], Some, ◌∙◌, ap, refl, subst, sym, arith}
use Rattle.std.specs.Arc.{arc_value}
use Rattle.field_pages.specs.Pages.{HoldsField, sample_at}
use Rattle.lattice.specs.declared.node.Node.{Node}
use Rattle.lattice.specs.Node.{root}
use Rattle.octree.specs.SplitBits.{SplitBits, split_at}
use Rattle.terrain.specs.Blocks.{brick}
use Rattle.terrain.specs.Samples.{opening}
use Rattle.terrain.specs.Levels.{IsBalanced, IsLeaf, levels}
use Rattle.event_laws.specs.Changes.{brick_after}
use Rattle.block_mesh.specs.Done.{DoneState}
use Rattle.node_tables.specs.NodeSlots.{item_at}
use Rattle.snapshots.specs.Frame.{FrameState, IsSound, StandsFor}
use Rattle.snapshots.proofs.AbsorbedLemmas.{IsTidy-from}
use Rattle.snapshots.proofs.FrameLemmas.{IsSound-from, map_of, stands_from}
use Rattle.snapshots.proofs.OpeningLemmas.{brick_held, opening_map}
use Rattle.node_tables.proofs.TableLemmas.{root_in}
use Rattle.snapshots.proofs.frame.Frame.opening.Goals as goal

-- the level map that is lent is the one that was chosen
lent : (c : goal.After-deref-2) → c.deref-2.result.now ≡ c.in_ok-choose.field-0
lent c = c.deref-2.ensures ∙ c.in_ok-levels.ensures.ok

-- which is that of the empty journal
chosen_is : (c : goal.After-deref-2) (n : Node)
    → split_at c.in_ok-choose.field-0 n ≡ levels c.args.settings [] n
chosen_is c =
    opening_map c.levels_follow_the_viewpoints.ensures.nobody c.args.settings
    c.in_ok-choose.field-0 c.in_ok-choose.ensures.split

pub leaf_block-requires-clause-depth : goal.leaf_block-requires-clause-depth
leaf_block-requires-clause-depth c =
    ap (λ v. v.depth) (c.deref.ensures ∙ c.in_ok-version.ensures.ok) ∙ c.in_ok-new.ensures.depth
    ∙ sym c.in_ok-choose.ensures.depth ∙ ap (λ l. l.depth) (sym (lent c))

pub leaf_block-requires-clause-balanced : goal.leaf_block-requires-clause-balanced
leaf_block-requires-clause-balanced c =
    subst (λ l. IsBalanced l.depth (split_at l)) (sym (lent c))
    (subst (λ d. IsBalanced d (split_at c.in_ok-choose.field-0))
    (sym c.in_ok-choose.ensures.depth) c.in_ok-choose.ensures.balanced)

pub leaf_block-requires-clause-leaf : goal.leaf_block-requires-clause-leaf
leaf_block-requires-clause-leaf c =
    let bits = c.deref-2.result.now in
    let chosen = c.in_ok-choose.field-0 in
    let top = root c.args.settings.depth in
    let map = map_of chosen (levels c.args.settings []) (chosen_is c) in
    let leaf = (c.levels_follow_the_viewpoints.ensures.root c.args.settings top).1 refl in
    subst (IsLeaf bits.depth (split_at bits)) (sym c.root-root.ensures)
    (subst (λ l. IsLeaf l.depth (split_at l) top) (sym (lent c))
    (subst (λ d. IsLeaf d (split_at chosen) top) (sym c.in_ok-choose.ensures.depth)
    (subst (λ m. IsLeaf c.args.settings.depth m top) (sym map) leaf)))

frame : goal.After-set → FrameState
frame c = record {
  settings = c.args.settings;
  events = c.in_ok-events.events.items;
  version = c.in_ok-version.version.value;
  levels = c.in_ok-levels.levels.value;
  blocks = c.set.new.self;
}

balanced : (c : goal.After-set) → IsBalanced c.args.settings.depth (levels c.args.settings [])
balanced c =
    subst (λ m. IsBalanced c.args.settings.depth m)
    (map_of c.in_ok-choose.field-0 (levels c.args.settings [])
    (opening_map c.levels_follow_the_viewpoints.ensures.nobody c.args.settings
    c.in_ok-choose.field-0 c.in_ok-choose.ensures.split))
    c.in_ok-choose.ensures.balanced

-- the map is that of the empty journal
map_is : (c : goal.After-set) (bits : SplitBits) → bits ≡ c.in_ok-choose.field-0 → (n : Node)
    → split_at bits n ≡ levels c.args.settings [] n
map_is c bits same =
    subst (λ l. (n : Node) → split_at l n ≡ levels c.args.settings [] n) (sym same)
    (opening_map c.levels_follow_the_viewpoints.ensures.nobody c.args.settings
    c.in_ok-choose.field-0 c.in_ok-choose.ensures.split)

-- the root's slot has its brick
root_block : (c : goal.After-set) → (d : DoneState)
    × (item_at c.set.new.self (root c.args.settings.depth) ≡ Some d)
    × (d.brick ≡ brick_after c.args.settings [] (root c.args.settings.depth))
root_block c =
    let top = root c.args.settings.depth in
    let pages = c.deref.result.now in
    let bits = c.deref-2.result.now in
    let pages_are = c.deref.ensures ∙ c.in_ok-version.ensures.ok in
    let bits_are = c.deref-2.ensures ∙ c.in_ok-levels.ensures.ok in (
      arc_value c.in_ok-done.done,
      ap (item_at c.set.new.self) (sym c.root-root.ensures) ∙ c.set.ensures.here,
      c.in_ok-done.ensures
          ∙ ap (λ n. brick bits.depth (sample_at pages) (split_at bits) n) c.root-root.ensures
          ∙ brick_held c.args.settings [] pages bits top
          (λ s. c.bricks_read_their_leaf.ensures.world c.args.settings [] s top
          (root_in c.args.settings.depth))
          (ap (λ v. v.depth) pages_are ∙ c.in_ok-new.ensures.depth)
          (subst (λ v. HoldsField v opening) (sym pages_are) c.in_ok-new.ensures.samples)
          (ap (λ l. l.depth) bits_are ∙ c.in_ok-choose.ensures.depth)
          (map_is c bits bits_are),
    )

stands : (c : goal.After-set) → StandsFor (frame c) c.args.settings []
unfolding frame
stands c =
    stands_from (frame c) c.args.settings [] refl c.in_ok-events.ensures.items
    (ap (λ v. v.depth) c.in_ok-version.ensures.ok ∙ c.in_ok-new.ensures.depth)
    (subst (λ v. HoldsField v opening) (sym c.in_ok-version.ensures.ok) c.in_ok-new.ensures.samples)
    (ap (λ l. l.depth) c.in_ok-levels.ensures.ok ∙ c.in_ok-choose.ensures.depth)
    (map_is c c.in_ok-levels.levels.value c.in_ok-levels.ensures.ok)
    (c.set.ensures.depth ∙ c.in_ok-blocks.ensures.depth) (balanced c)
    c.set.ensures.table.dones
    (λ n leaf.
    let is = (c.levels_follow_the_viewpoints.ensures.root c.args.settings n).0 leaf in
    subst (λ k. (d : DoneState) × (item_at c.set.new.self k ≡ Some d)
    × (d.brick ≡ brick_after c.args.settings [] k)) (sym is) (root_block c))
    (λ n other.
    c.set.ensures.others n (λ is. other
    ((c.levels_follow_the_viewpoints.ensures.root c.args.settings n).1
    (is ∙ c.root-root.ensures)))
    ∙ c.in_ok-blocks.ensures.none n)

pub invariant_of-result : goal.invariant_of-result
unfolding frame
invariant_of-result c = IsTidy-from (frame c) c.args.settings [] (stands c)

pub returns-clause-stands : goal.returns-clause-stands
unfolding frame
returns-clause-stands c = stands c

sound : (c : goal.After-set) → IsSound (frame c)
unfolding frame
sound c =
    IsSound-from (frame c) c.args.settings [] (stands c) c.requires (balanced c) (omega arith)

pub returns-clause-sound : goal.returns-clause-sound
unfolding frame
returns-clause-sound c = sound c

pub returns-clause-seamless : goal.returns-clause-seamless
unfolding frame
returns-clause-seamless c = c.sound_frames_have_no_crack.ensures.seamless (frame c) (sound c)
