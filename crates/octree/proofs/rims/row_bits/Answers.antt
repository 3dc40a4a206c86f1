-- The row's bits are those of its places.
use Rattle.std.proofs.Common.{◌+◌, ◌-◌, ap, arith, subst, ◌∙◌}
use Rattle.lattice.specs.Node.{nodes_across}
use Rattle.lattice.specs.Settings.{IsDepth}
use Rattle.octree.specs.Layers.{LayerOf}
use Rattle.octree.specs.SplitBits.{split_at}
use Rattle.octree.proofs.RimLemmas.{row-bits}
use Rattle.octree.proofs.RowLemmas.{across_above}
use Rattle.octree.proofs.rims.row_bits.Goals as goal

pub returns-clause-value : goal.returns-clause-value
returns-clause-value c =
    let across_is = ap (λ d. nodes_across d c.args.node.level) c.depth.ensures.value in
    c.beside.ensures.value
    ∙ row-bits c.args.levels.now c.args.node c.args.z c.args.y c.row.result (record {
      low_k = omega arith;
      high_k = omega (arith, across_is);
      low_j = omega arith;
      high_j = omega (arith, across_is);
      each = λ i. c.row.ensures.each i ∙ ap (λ (l : LayerOf). split_at l.levels (record {
        level = l.level;
        k = c.args.node.k + c.args.z - 1;
        j = c.args.node.j + c.args.y - 1;
        i = i;
      })) c.layer.ensures;
    }) c.requires.node.i

pub beside-requires : goal.beside-requires
beside-requires c = omega (
  arith,
  c.requires.node.i,
  across_above c.args.levels.now.depth c.args.node.level
      (subst IsDepth c.depth.ensures.value c.depth.ensures.most) c.requires.level,
)
