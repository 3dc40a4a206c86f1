-- Each plane is one more.
use Rattle.std.proofs.Common.{◌≡◌, ◌+◌, ◌-◌, ◌∙◌, false, ap, subst, arith}
use Rattle.std.specs.Prelude.{◌&&◌}
use Rattle.std.proofs.lemmas.Bool.{and_parts}
use Rattle.lattice.specs.Lists.{joined}
use Rattle.lattice.specs.Node.{nodes_across}
use Rattle.octree.specs.Changes.{AddsChanges, is_switched}
use Rattle.octree.specs.Layers.{PairOf}
use Rattle.octree.specs.LeafLists.{nodes_of_plane}
use Rattle.octree.proofs.AddingLemmas.{adds-more, adds-none}
use Rattle.octree.proofs.ChangedLemmas.{quiet-plane}
use Rattle.octree.proofs.changed.LevelPair.push_changes.Goals as goal

pub loop-k-init : goal.loop-k-init
loop-k-init c = record {
  low = λ on some. absurd (omega (arith, some));
  here = c.has_same_plane-here.ensures;
  adds = adds-none c.args.self.now.before c.args.self.now.after
      (nodes_of_plane c.args.self.now.after.depth c.args.self.now.level) c.args.change.now;
}

pub push_plane-requires-clause-same : goal.push_plane-requires-clause-same
push_plane-requires-clause-same c = λ on.
    let pair = c.args.self.now in
    let outer = and_parts c.loop-k.low (c.loop-k.here && c.has_same_plane-high.result) on in
    let inner = and_parts c.loop-k.here c.has_same_plane-high.result outer.1 in
    quiet-plane pair.before pair.after pair.level c.loop-k.k
    (c.loop-k.invariant.here inner.0) (c.has_same_plane-high.ensures inner.1)
    (c.loop-k.invariant.low outer.0)

pub loop-k-preserved : goal.loop-k-preserved
loop-k-preserved c =
    let pair = c.args.self.now in
    let k = c.loop-k.k in
    let back : k ≡ k + 1 - 1 = omega arith in
    record {
      low = λ on some j i. subst (λ m. is_switched pair.before pair.after
          (record { level = pair.level; k = m; j = j; i = i }) ≡ false) back
          (c.loop-k.invariant.here on j i);
      here = c.has_same_plane-high.ensures;
      adds = adds-more pair.before pair.after (nodes_of_plane pair.after.depth pair.level)
          c.args.change.now c.loop-k.change c.push_plane.new.change c.loop-k.k
          c.loop-k.invariant.adds c.in_ok-push_plane.ensures;
    }

pub returns : goal.returns
returns c =
    let after = c.args.self.now.after in
    let across : c.self.inside.across ≡ nodes_across after.depth c.args.self.now.level =
    c.self.invariant.all ∙ ap (λ (pair : PairOf). nodes_across pair.after.depth pair.level)
    c.self.view_is in
    let ended : c.loop-k.k ≡ nodes_across after.depth c.args.self.now.level =
    omega (arith, across) in
    subst (λ n. AddsChanges c.args.self.now.before after (joined n
    (nodes_of_plane after.depth c.args.self.now.level)) c.args.change.now c.loop-k.change)
    ended c.loop-k.invariant.adds
