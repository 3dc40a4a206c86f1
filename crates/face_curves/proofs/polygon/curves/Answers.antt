-- A corner that begins a run adds its curve, for which there is room, since a polygon has at most two.
use Rattle.std.proofs.Common.{◌≡◌, ◌<◌, length, ap, sym, ◌∙◌, arith}
use Rattle.terrain.specs.Curves.{begins_run, curve_at, corner_count}
use Rattle.face_curves.proofs.MapFilter.{listed-room, listed-kept, listed-left}
use Rattle.face_curves.proofs.PolygonCurves.{curves-two}
use Rattle.face_curves.proofs.polygon.curves.Goals as goal
use Rattle.face_curves.proofs.polygon.curves.Goals.{then-begins_run, else-begins_run}

pub push-requires : goal.push-requires
push-requires c =
    let p = c.args.polygon.now in
    let k = c.loop-corner.corner in
    let corners : length c.polygon.inside.solid.items ≡ corner_count p =
    ap (λ face. length face.solid) c.polygon.view_is in
    let within : k < corner_count p = omega (arith, corners) in
    let begins = sym c.begins_run.ensures ∙ c.if-begins_run.true in
    let room = listed-room (curve_at p) (begins_run p) k (corner_count p) within begins in
    (omega arith, omega (arith, curves-two p c.requires, room, ap length c.loop-corner.invariant))

pub loop-corner-preserved : goal.loop-corner-preserved
loop-corner-preserved c =
    let p = c.args.polygon.now in
    let k = c.loop-corner.corner in
    elim c.if-begins_run.branch [
      | then-begins_run w ↦ ap (λ v. v.items) w.curves-is
          ∙ listed-kept (curve_at p) (begins_run p) k _ _ _ c.loop-corner.invariant
          (sym c.begins_run.ensures ∙ w.if-begins_run.true) w.curve_at.ensures w.push.ensures.items
      | else-begins_run w ↦ ap (λ v. v.items) w.curves-is
          ∙ listed-left (curve_at p) (begins_run p) k _ c.loop-corner.invariant
          (sym c.begins_run.ensures ∙ w.if-begins_run.false)
    ]
