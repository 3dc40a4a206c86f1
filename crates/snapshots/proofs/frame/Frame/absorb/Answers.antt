-- A patch that suits the frame makes it the next one.
use Rattle.std.proofs.Common.{◌≡◌, ◌++◌, map, take, ap, subst, sym, ◌∙◌}
use Rattle.std.specs.Arc.{arc_value}
use Rattle.node_tables.specs.NodeSlots.{item_at}
use Rattle.snapshots.specs.Absorbed.{IsTidy, LeadsTo, StaysSound, absorbed, blocks_after, held_after}
use Rattle.snapshots.specs.Blocks.{HasOwnMeshes, cleared, put_over}
use Rattle.snapshots.specs.Frame.{FrameState}
use Rattle.snapshots.proofs.AbsorbedLemmas.{absorbed-leads, absorbed-other, absorbed-sound, absorbed-suited, next-tidy, next_of}
use Rattle.snapshots.proofs.TableLemmas.{table-listed}
use Rattle.snapshots.proofs.frame.Frame.absorb.Goals as goal
use Rattle.snapshots.proofs.frame.Frame.absorb.Goals.{After-clear_all}

-- ---- a patch that doesn't suit the frame

pub returns-then-not-is_suited-clause-absorbed : goal.returns-then-not-is_suited-clause-absorbed
returns-then-not-is_suited-clause-absorbed c =
    sym (absorbed-other c.args.self.now c.args.patch.now (sym c.if-not-is_suited.ensures))

pub returns-then-not-is_suited-clause-meshes : goal.returns-then-not-is_suited-clause-meshes
returns-then-not-is_suited-clause-meshes c =
    subst (λ (f : FrameState). HasOwnMeshes f.blocks) c.self.view_is
    c.depth-depth.ensures.table.dones

pub returns-then-not-is_suited-clause-leads : goal.returns-then-not-is_suited-clause-leads
returns-then-not-is_suited-clause-leads c =
    let frame = c.args.self.now in
    let patch = c.args.patch.now in
    let is = absorbed-other frame patch (sym c.if-not-is_suited.ensures) in
    subst (LeadsTo frame patch) is
    (absorbed-leads c.leaves_keep_their_bricks_until_touched.ensures.leaf
    c.leaves_keep_their_bricks_until_touched.ensures.brick frame patch
    (subst (λ (f : FrameState). HasOwnMeshes f.blocks) (c.self.view_is ∙ sym is)
    c.depth-depth.ensures.table.dones))

-- ---- one that suits it

-- the frame then
frame : After-clear_all → FrameState
frame c = record {
  settings = c.self.inside.settings;
  events = c.go_on.new.journal.items;
  version = c.in_ok-version.version.value;
  levels = c.in_ok-levels.levels.value;
  blocks = c.clear_all.new.self;
}

-- has the slots of the next one
blocks_are : (c : After-clear_all)
    → c.clear_all.new.self ≡ blocks_after c.args.self.now c.args.patch.now
blocks_are c =
    let frame = c.args.self.now in
    let patch = c.args.patch.now in
    let depth = c.clear_all.ensures.depth ∙ c.put_all.ensures.depth
    ∙ ap (λ f. f.blocks.depth) c.self.view_is
    ∙ (subst IsTidy c.self.view_is c.self.invariant).depth in
    let put = c.in_ok-put.ensures ∙ ap (map arc_value) c.deref.ensures.value in
    table-listed c.clear_all.new.self frame.settings.depth (held_after frame patch)
    c.clear_all.ensures.table.table.long depth
    (λ n node.
    c.clear_all.ensures.slots n ∙ ap (cleared c.deref-3.result.now n) (c.put_all.ensures.slots n)
    ∙ (λ i. cleared (c.deref-3.ensures.value i) n
    (put_over (put i) n (item_at (c.self.view_is i).blocks n)))
    ∙ c.in_ok-emptied.ensures n)

-- so it is the next one
is_next : (c : After-clear_all) → frame c ≡ next_of c.args.self.now c.args.patch.now
unfolding frame
is_next c =
    let patch = c.args.patch.now in
    let events : c.go_on.new.journal.items
    ≡ take patch.base c.args.self.now.events ++ patch.events.items =
    c.in_ok-go_on.ensures.journal
    ∙ (λ i. take patch.base (c.self.view_is i).events ++ c.deref-2.ensures.value i) in
    λ i. record {
      settings = (c.self.view_is i).settings;
      events = events i;
      version = c.in_ok-version.ensures i;
      levels = c.in_ok-levels.ensures i;
      blocks = blocks_are c i;
    }

is_absorbed : (c : After-clear_all)
    → frame c ≡ absorbed c.args.self.now c.args.patch.now
is_absorbed c =
    is_next c
    ∙ sym (absorbed-suited c.args.self.now c.args.patch.now (sym c.if-not-is_suited.ensures))

-- with its own meshes
own : (c : After-clear_all)
    → HasOwnMeshes (absorbed c.args.self.now c.args.patch.now).blocks
unfolding frame
own c =
    subst (λ (f : FrameState). HasOwnMeshes f.blocks) (is_absorbed c)
    c.clear_all.ensures.table.dones

pub invariant_of-self-2 : goal.invariant_of-self-2
unfolding frame
invariant_of-self-2 c =
    subst IsTidy (sym (is_next (goal.at.invariant_of-self-2 c).After-clear_all))
    (next-tidy c.args.self.now c.args.patch.now)

pub returns-clause-absorbed : goal.returns-clause-absorbed
unfolding frame
returns-clause-absorbed c = is_absorbed (goal.at.returns-clause-absorbed c).After-clear_all

pub returns-clause-leads : goal.returns-clause-leads
unfolding frame
returns-clause-leads c =
    let at = (goal.at.returns-clause-leads c).After-clear_all in
    subst (LeadsTo c.args.self.now c.args.patch.now) (sym (is_absorbed at))
    (absorbed-leads c.leaves_keep_their_bricks_until_touched.ensures.leaf
    c.leaves_keep_their_bricks_until_touched.ensures.brick c.args.self.now c.args.patch.now
    (own at))

pub returns-clause-sound : goal.returns-clause-sound
unfolding frame
returns-clause-sound c =
    let at = (goal.at.returns-clause-sound c).After-clear_all in
    subst (StaysSound c.args.self.now c.args.patch.now) (sym (is_absorbed at))
    (absorbed-sound c.leaves_keep_their_bricks_until_touched.ensures.leaf
    c.leaves_keep_their_bricks_until_touched.ensures.brick c.args.self.now c.args.patch.now
    (own at))
