-- The ends are the key's, and all of their numbers are small.
use Rattle.std.proofs.Common.{◌≤◌, refl, sym, ap, ◌∙◌, subst, arith}
use Rattle.std.proofs.lemmas.Nat.{one_shl}
use Rattle.field_pages.specs.Pages.{sample_at}
use Rattle.lattice.specs.declared.settings.TheConstants.{MAX_DEPTH}
use Rattle.lattice.specs.Point.{IsInWorld}
use Rattle.vertex_places.proofs.PlaceLemmas.{near_inside}
use Rattle.surface_normals.proofs.SlopeLemmas.{kept-sample, same-sample}
use Rattle.surface_normals.proofs.normals.ends_of.Goals as goal

pub returns : goal.returns
returns c =
    let depth = c.args.version.now.depth in
    let key = c.args.key.now in
    let far = c.far_end-far.ensures in
    let level : key.level ≤ MAX_DEPTH = omega (
      arith,
      c.requires.level,
      c.depth-depth.ensures.lawful,
      c.depth-depth.ensures.value,
    ) in
    let power = c.sizes_of_worlds.ensures.power key.level level in
    let step = one_shl key.level 32 (omega arith) in
    record {
      small = record {
        near = near_inside depth key c.requires;
        far = subst (IsInWorld depth) (sym far) c.requires.end;
        step = omega (arith, step, power);
        a = kept-sample c.sample.result c.sample.ensures.range;
        b = kept-sample c.sample-2.result c.sample-2.ensures.range;
      };
      near = refl;
      far = far;
      step = step;
      a = same-sample c.sample.result c.sample.ensures.range ∙ c.sample.ensures.value;
      b =
          same-sample c.sample-2.result c.sample-2.ensures.range ∙ c.sample-2.ensures.value
          ∙ ap (sample_at c.args.version.now) far;
    }
