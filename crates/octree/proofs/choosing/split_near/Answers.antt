-- Each plane is one more of the box, and the box has the wanted nodes.
use Rattle.std.proofs.Common.{arith}
use Rattle.octree.proofs.GainsLemmas.{gains_same, box-more}
use Rattle.octree.proofs.WantedLemmas.{IsNearBox, wanted_in, in_wanted}
use Rattle.octree.proofs.choosing.split_near.Goals as goal

pub loop-k-preserved : goal.loop-k-preserved
loop-k-preserved c = record {
  most = omega arith;
  gains = box-more c.args.level c.near_indices-ks.result.low c.loop-k.k c.near_indices-js.result
      c.near_indices-is.result c.args.levels.now c.loop-k.levels c.split_plane.new.levels
      (omega arith) c.loop-k.invariant.gains c.split_plane.ensures;
}

pub returns : goal.returns
returns c =
    let box : IsNearBox c.args.settings.now c.args.level c.args.camera c.near_indices-ks.result
    c.near_indices-js.result c.near_indices-is.result = record {
      k_end = c.near_indices-ks.ensures.within;
      j_end = c.near_indices-js.ensures.within;
      i_end = c.near_indices-is.ensures.within;
      k = c.near_indices-ks.ensures.near;
      j = c.near_indices-js.ensures.near;
      i = c.near_indices-is.ensures.near;
    } in
    gains_same _ _ c.args.levels.now c.loop-k.levels c.loop-k.invariant.gains
    (λ n h. let b = wanted_in _ _ _ _ _ _ box n h in
    record {
      at = b.at;
      in_k = (b.in_k.0, omega (arith, b.in_k));
      in_j = b.in_j;
      in_i = b.in_i;
    })
    (λ n h. in_wanted _ _ _ _ _ _ box c.requires.low c.requires.high n
    (record {
      at = h.at;
      in_k = (h.in_k.0, omega (arith, h.in_k, c.loop-k.invariant.most));
      in_j = h.in_j;
      in_i = h.in_i;
    }))
