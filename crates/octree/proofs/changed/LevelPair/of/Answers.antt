-- Both maps are of one depth, and the level is one of the world.
use Rattle.std.proofs.Common.{◌+◌, ap, sym, ◌∙◌, arith}
use Rattle.lattice.specs.Node.{nodes_across}
use Rattle.lattice.proofs.SizeLemmas.{across_most}
use Rattle.octree.specs.Layers.{LayerOf}
use Rattle.octree.proofs.changed.LevelPair.of.Goals as goal

pub invariant_of-result : goal.invariant_of-result
invariant_of-result c =
    let level = c.args.level in
    record {
      same_depth = ap (λ (l : LayerOf). l.levels.depth) c.layer.ensures ∙ c.requires.depth
          ∙ sym (ap (λ (l : LayerOf). l.levels.depth) c.layer-2.ensures);
      first_level = ap (λ (l : LayerOf). l.level) c.layer.ensures;
      second_level = ap (λ (l : LayerOf). l.level) c.layer-2.ensures;
      within = omega (
        arith,
        ap (λ (l : LayerOf). l.levels.depth) c.layer-2.ensures,
        c.requires.level,
      );
      all = c.nodes_across.ensures ∙ ap (λ d. nodes_across d level) c.depth.ensures.value
          ∙ sym (ap (λ (l : LayerOf). nodes_across l.levels.depth level) c.layer-2.ensures);
      few = omega (
        arith,
        c.nodes_across.ensures,
        across_most c.depth.result level c.depth.ensures.most,
      );
      first_above = c.layer-3.ensures
          ∙ sym (ap (λ (l : LayerOf). record { levels = l.levels; level = level + 1 })
          c.layer.ensures);
      second_above = c.layer-4.ensures
          ∙ sym (ap (λ (l : LayerOf). record { levels = l.levels; level = level + 1 })
          c.layer-2.ensures);
    }
