-- The root is the one leaf, and its block is made of its present brick.
use Rattle.std.proofs.Common.{◌≡◌, [], List, refl, sym, ap, ◌∙◌, subst}
use Rattle.std.specs.Arc.{arc_value}
use Rattle.std.proofs.lemmas.Result.{IfOk-weaker}
use Rattle.field_pages.specs.Pages.{sample_at}
use Rattle.lattice.specs.Node.{root}
use Rattle.octree.specs.SplitBits.{split_at}
use Rattle.terrain.specs.declared.event.Event.{Event}
use Rattle.terrain.specs.Blocks.{brick}
use Rattle.terrain.specs.Levels.{IsLeaf, levels}
use Rattle.event_laws.specs.Changes.{brick_after}
use Rattle.mesh_board.proofs.BoardLemmas.{AreOf, AreOf-lent, brick-is, leaf-from}
use Rattle.mesh_board.proofs.board.root_block.Goals as goal

-- the root of the code is the world's
top : (c : goal.After-deref-2) → c.root-root.result ≡ root c.args.world.now.settings.depth
top c = c.root-root.ensures ∙ ap (λ s. root s.depth) c.settings.ensures.value

-- the field and the level map that are lent are the world's
are : (c : goal.After-deref-2) → AreOf c.args.world.now.settings c.args.world.now.events
    c.deref.result.now c.deref-2.result.now
are c =
    AreOf-lent c.args.world.now c.version.result.now.value c.deref.result.now
    c.levels.result.now.value c.deref-2.result.now c.deref.ensures
    c.version.ensures.depth c.version.ensures.samples c.deref-2.ensures c.levels.ensures.depth
    c.levels.ensures.split

-- the root is a leaf of it
leaf : (c : goal.After-deref-2) → IsLeaf c.args.world.now.settings.depth
    (levels c.args.world.now.settings c.args.world.now.events)
    (root c.args.world.now.settings.depth)
leaf c =
    let settings = c.args.world.now.settings in
    subst (λ (es : List Event). IsLeaf settings.depth (levels settings es) (root settings.depth))
    (sym c.requires)
    ((c.levels_follow_the_viewpoints.ensures.root settings (root settings.depth)).1 refl)

pub leaf_block-requires-clause-leaf : goal.leaf_block-requires-clause-leaf
leaf_block-requires-clause-leaf c =
    let world = c.args.world.now in
    subst (IsLeaf c.deref-2.result.now.depth (split_at c.deref-2.result.now)) (sym (top c))
    (leaf-from world.settings world.events c.deref.result.now c.deref-2.result.now
    (root world.settings.depth) (are c) (leaf c))

pub returns : goal.returns
returns c =
    let world = c.args.world.now in
    let settings = world.settings in
    let root_is = root settings.depth in
    let pages = c.deref.result.now in
    let bits = c.deref-2.result.now in
    let made = brick bits.depth (sample_at pages) (split_at bits) in
    let at : c.root-root.result ≡ root_is =
    c.root-root.ensures ∙ ap (λ s. root s.depth) c.settings.ensures.value in
    let lent : AreOf settings world.events pages bits =
    AreOf-lent world c.version.result.now.value pages c.levels.result.now.value bits
    c.deref.ensures c.version.ensures.depth c.version.ensures.samples c.deref-2.ensures
    c.levels.ensures.depth c.levels.ensures.split in
    let one = (c.levels_follow_the_viewpoints.ensures.root settings root_is).1 refl in
    IfOk-weaker c.leaf_block.result (λ block. (arc_value block).brick ≡ made c.root-root.result)
    (λ block. (arc_value block).brick ≡ brick_after settings [] root_is)
    (λ block is.
    is ∙ ap made at
    ∙ brick-is settings world.events pages bits root_is c.bricks_read_their_leaf.ensures.world lent
    one.node
    ∙ ap (λ es. brick_after settings es root_is) c.requires) c.leaf_block.ensures
