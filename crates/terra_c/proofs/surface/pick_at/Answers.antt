-- A hit that is told is the one that was found: it is reached, so some triangle is over or under the place.
use Rattle.std.proofs.Common.{◌≡◌, ℕ, refl, sym, ap, subst, arith, ◌∙◌}
use Rattle.lattice.specs.Settings.{world_side}
use Rattle.lattice.specs.declared.settings.Settings.{Settings}
use Rattle.snapshots.specs.Frame.{FrameState}
use Rattle.terra_c.specs.declared.shapes.TerraHit.{TerraHit}
use Rattle.terra_c.specs.declared.status.TheConstants.{DONE}
use Rattle.terra_c.specs.Shapes.{hit_of_c, node_of_c}
use Rattle.terra_c.specs.Surface.{IsBareIn, IsHitIn, IsOverWorld, Picks}
use Rattle.terra_c.proofs.surface.pick_at.Goals as goal

-- what is answered where there is a hit
found : (frame : FrameState) (x y : ℕ) (hit hit' : TerraHit) → IsOverWorld frame x y
    → IsHitIn frame x y (hit_of_c hit') → Picks frame x y hit hit' DONE
found frame x y hit hit' over is =
    let some : IsBareIn frame x y → ⊥ =
    λ bare. bare (node_of_c hit'.node) hit'.triangle hit'.num hit'.den is.reached in
    record {
      done = (λ e. (over, some), λ both. refl);
      bare = (λ e. absurd (omega (arith, e)), λ both. absurd (some both.1));
      beyond = (λ e. absurd (omega (arith, e)), λ out. absurd (out over));
      told = λ e. is;
      others = λ never. absurd (never refl);
    }

pub returns-in-Some : goal.returns-in-Some
returns-in-Some c =
    let frame = c.args.frame.now in
    let side = c.world_side-side.ensures.value
    ∙ ap (λ (s : Settings). world_side s.depth) c.settings.ensures.value in
    let over : IsOverWorld frame c.args.x c.args.y = record {
      x = omega (arith, c.if-x-side.false, side);
      y = omega (arith, c.if-y-side.false, side);
    } in
    let is : IsHitIn frame c.args.x c.args.y c.in-Some.found = record {
      reached = c.in-Some.ensures.reached;
      highest = c.in-Some.ensures.highest;
      first = c.in-Some.ensures.first;
    } in
    found frame c.args.x c.args.y c.args.hit.now c.of.result over
    (subst (IsHitIn frame c.args.x c.args.y) (sym c.of.ensures) is)
