-- Each place from 2 on adds its triangle.
use Rattle.std.proofs.Common.{◌-◌, ◌++◌, [], ◌∷◌, take, slice_index, ap, sym, ◌∙◌, arith}
use Rattle.std.proofs.lemmas.List.{append_assoc}
use Rattle.terrain.specs.Curves.{fan_of}
use Rattle.face_curves.proofs.FanOf.{fan_of-more}
use Rattle.face_curves.proofs.triangles.push_fan.Goals as goal

pub loop-i-preserved : goal.loop-i-preserved
loop-i-preserved c =
    let keys = c.args.keys.now in
    let i = c.loop-i.i in
    let old = c.args.triangles.now.items in
    record {
      from = omega arith;
      so_far = c.push.ensures.items
          ∙ ap (λ ts. ts ++ (slice_index keys 0 ∷ slice_index keys (i - 1)
          ∷ slice_index keys i ∷ []) ∷ []) c.loop-i.invariant.so_far
          ∙ append_assoc old (take (i - 2) (fan_of keys)) _
          ∙ ap (λ ts. old ++ ts) (sym (fan_of-more keys i c.loop-i.invariant.from (omega arith)));
    }
