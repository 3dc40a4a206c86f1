-- No place beside a node of level 0 is finer.
use Rattle.std.proofs.Common.{◌≡◌, false, sym}
use Rattle.std.proofs.lemmas.Bool.{and_right}
use Rattle.lattice.specs.Offset.{Direction, directions, neighbour}
use Rattle.terrain.specs.Levels.{is_finer}
use Rattle.octree.specs.SplitBits.{split_at}
use Rattle.octree.proofs.RimLemmas.{binary-none}
use Rattle.octree.proofs.SplitAtLemmas.{split_at-low}
use Rattle.octree.proofs.levels.Levels.rim.Goals as goal

pub returns-then-leaf-eq0 : goal.returns-then-leaf-eq0
returns-then-leaf-eq0 c =
    let levels = c.args.self.now in
    let low : (d : Direction) → split_at levels (neighbour d c.args.leaf) ≡ false =
    λ d. split_at-low levels (neighbour d c.args.leaf) c.if-leaf-eq0.true in
    sym (binary-none (λ d. is_finer levels.depth (split_at levels) d c.args.leaf) directions
    (λ d. and_right _ _ (low d)))
