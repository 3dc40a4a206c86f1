-- A corner of the polygon is itself, counted round.
use Rattle.std.proofs.Common.{◌≡◌, ◌%◌, true, false, not, ap, sym, ◌∙◌, slice_index_or, ◌&&◌}
use Rattle.std.proofs.Math.Nat.{mod-eq_of_lt}
use Rattle.terrain.specs.Curves.{is_solid_corner, before, corner_count}
use Rattle.face_curves.proofs.polygon.Polygon.begins_run.Goals as goal

pub returns-then-deref-corner : goal.returns-then-deref-corner
returns-then-deref-corner c =
    let p = c.args.self.now in
    let k = c.args.corner in
    let at = c.before-then-deref-corner.result in
    let here : k % corner_count p ≡ k = mod-eq_of_lt c.requires in
    let read : c.deref.result.now ≡ p.solid =
    c.deref.ensures.0 ∙ ap (λ face. face.solid) c.self.view_is in
    let again : c.deref-then-deref-corner.result.now ≡ p.solid =
    c.deref-then-deref-corner.ensures.0 ∙ ap (λ face. face.solid) c.self.view_is in
    let solid : is_solid_corner p k ≡ true =
    ap (λ t. slice_index_or p.solid t false) here
    ∙ ap (λ s. slice_index_or s k false) (sym read) ∙ c.if-deref-corner.true in
    let other : slice_index_or c.deref-then-deref-corner.result.now at false
    ≡ is_solid_corner p (before p k) =
    ap (λ s. slice_index_or s at false) again
    ∙ ap (λ t. slice_index_or p.solid t false) c.before-then-deref-corner.ensures in
    ap not other ∙ sym (ap (λ b. b && not (is_solid_corner p (before p k))) solid)

pub returns-else-deref-corner : goal.returns-else-deref-corner
returns-else-deref-corner c =
    let p = c.args.self.now in
    let k = c.args.corner in
    let here : k % corner_count p ≡ k = mod-eq_of_lt c.requires in
    let read : c.deref.result.now ≡ p.solid =
    c.deref.ensures.0 ∙ ap (λ face. face.solid) c.self.view_is in
    let empty : is_solid_corner p k ≡ false =
    ap (λ t. slice_index_or p.solid t false) here
    ∙ ap (λ s. slice_index_or s k false) (sym read) ∙ c.if-deref-corner.false in
    c.if-deref-corner.false ∙ sym (ap (λ b. b && not (is_solid_corner p (before p k))) empty)
