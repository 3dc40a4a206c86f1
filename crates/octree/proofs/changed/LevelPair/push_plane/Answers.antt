-- The bits of three rows beside one another are those around the nodes of the one between them.
use Rattle.std.proofs.Common.{◌≡◌, ◌∙◌, sym, ap, subst, arith}
use Rattle.lattice.specs.Lists.{joined}
use Rattle.lattice.specs.Node.{nodes_across}
use Rattle.octree.specs.Changes.{AddsChanges}
use Rattle.octree.specs.Layers.{PairOf}
use Rattle.octree.specs.LeafLists.{nodes_of_row}
use Rattle.octree.proofs.AddingLemmas.{adds-more, adds-none, adds-quiet}
use Rattle.octree.proofs.ChangedLemmas.{around_bits, before-first, before-next}
use Rattle.octree.proofs.changed.LevelPair.push_plane.Goals as goal

pub returns-then-is_quiet : goal.returns-then-is_quiet
returns-then-is_quiet c =
    let pair = c.args.self.now in
    let across = nodes_across pair.after.depth pair.level in
    let depth : pair.before.depth ≡ pair.after.depth =
    sym (ap (λ (p : PairOf). p.before.depth) c.self.view_is) ∙ c.self.invariant.same_depth
    ∙ ap (λ (p : PairOf). p.after.depth) c.self.view_is in
    adds-quiet pair.before pair.after depth pair.level c.args.k across
    (c.is_quiet.ensures c.if-is_quiet.true) across c.args.change.now

pub switched_beside-here-requires : goal.switched_beside-here-requires
switched_beside-here-requires c =
    let across : c.self.inside.across
    ≡ nodes_across c.args.self.now.after.depth c.args.self.now.level =
    c.self.invariant.all ∙ ap (λ (pair : PairOf). nodes_across pair.after.depth pair.level)
    c.self.view_is in
    omega (arith, c.requires.k, across, c.self.invariant.few)

pub loop-j-init : goal.loop-j-init
loop-j-init c = record {
  low = before-first c.args.self.now.before c.args.self.now.after c.args.self.now.level c.args.k;
  here = c.switched_beside-here.ensures;
  adds = adds-none c.args.self.now.before c.args.self.now.after
      (nodes_of_row c.args.self.now.after.depth c.args.self.now.level c.args.k) c.args.change.now;
}

pub push_row-requires-clause-near : goal.push_row-requires-clause-near
push_row-requires-clause-near c i =
    let pair = c.args.self.now in
    around_bits pair.before pair.after pair.level c.args.k c.loop-j.j c.loop-j.low c.loop-j.here
    c.switched_beside-high.result i (c.loop-j.invariant.low i) (c.loop-j.invariant.here i)
    (c.switched_beside-high.ensures i)

pub loop-j-preserved : goal.loop-j-preserved
loop-j-preserved c =
    let pair = c.args.self.now in
    record {
      low = λ i. before-next pair.before pair.after pair.level c.args.k c.loop-j.j c.loop-j.here i
          (c.loop-j.invariant.here i);
      here = c.switched_beside-high.ensures;
      adds = adds-more pair.before pair.after (nodes_of_row pair.after.depth pair.level c.args.k)
          c.args.change.now c.loop-j.change c.push_row.new.change c.loop-j.j
          c.loop-j.invariant.adds c.in_ok-push_row.ensures;
    }

pub returns : goal.returns
returns c =
    let after = c.args.self.now.after in
    let across : c.self.inside.across ≡ nodes_across after.depth c.args.self.now.level =
    c.self.invariant.all ∙ ap (λ (pair : PairOf). nodes_across pair.after.depth pair.level)
    c.self.view_is in
    let ended : c.loop-j.j ≡ nodes_across after.depth c.args.self.now.level =
    omega (arith, across) in
    subst (λ n. AddsChanges c.args.self.now.before after (joined n
    (nodes_of_row after.depth c.args.self.now.level c.args.k)) c.args.change.now c.loop-j.change)
    ended c.loop-j.invariant.adds
