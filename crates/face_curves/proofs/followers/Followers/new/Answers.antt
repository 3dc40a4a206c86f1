-- Each face is a polygon, and its curves start where none of the faces before it do.
use Rattle.std.proofs.Common.{◌≡◌, ◌+◌, ◌<◌, ◌++◌, length, take, drop, slice_index_or, All, ap, sym, ◌∙◌, subst, arith}
use Rattle.std.proofs.lemmas.List.{take_all}
use Rattle.terrain.specs.Curves.{IsPolygon, curves, cell_curves}
use Rattle.face_curves.specs.Followers.{Follows, StartApart}
use Rattle.face_curves.proofs.Follows.{Follows-none, StartApart-front}
use Rattle.face_curves.proofs.IsClosed.{IsClosed-paired}
use Rattle.face_curves.proofs.CellFollowers.{face-at, IsPolygon-at, cell_curves-more, cell_curves-split, IsPaired-apart, IsPaired-within}
use Rattle.face_curves.proofs.followers.Followers.new.Goals as goal

pub loop-face-init : goal.loop-face-init
loop-face-init c = Follows-none

pub curves-requires : goal.curves-requires
curves-requires c =
    let faces = c.args.faces.now.items in
    let face = c.face-item.result in
    let here =
    face-at faces c.deref-face-items.result.now c.loop-face.face-index face
    c.deref-face-items.ensures.0 c.face-item.is c.loop-face-test.true in
    subst IsPolygon (sym here.1)
    (IsPolygon-at faces c.loop-face.face-index face c.requires.polygons here.0)

pub insert-requires : goal.insert-requires
insert-requires c =
    let faces = c.args.faces.now.items in
    let i = c.loop-face.face-index in
    let face = c.face-item.result in
    let here =
    face-at faces c.deref-face-items.result.now i face c.deref-face-items.ensures.0
    c.face-item.is c.loop-face-test.true in
    let is : c.deref.result.now ≡ curves (slice_index_or faces i face) =
    c.deref.ensures.0 ∙ c.curves.ensures ∙ ap curves here.1 in
    let low = IsPaired-within (IsClosed-paired c.requires) (cell_curves (take i faces))
    (curves (slice_index_or faces i face)) (cell_curves (drop (i + 1) faces))
    (cell_curves-split faces i face here.0) in
    subst (All (λ d. (d.start < 16) × (d.end < 16))) (sym is) low

pub loop-face-preserved : goal.loop-face-preserved
loop-face-preserved c =
    let faces = c.args.faces.now.items in
    let i = c.loop-face.face-index in
    let face = c.face-item.result in
    let here =
    face-at faces c.deref-face-items.result.now i face c.deref-face-items.ensures.0
    c.face-item.is c.loop-face-test.true in
    let is : c.deref.result.now ≡ curves (slice_index_or faces i face) =
    c.deref.ensures.0 ∙ c.curves.ensures ∙ ap curves here.1 in
    let apart = subst StartApart (cell_curves-split faces i face here.0)
    (IsPaired-apart (IsClosed-paired c.requires)) in
    let front = StartApart-front _ (cell_curves (drop (i + 1) faces)) apart in
    let entered = c.insert.ensures (cell_curves (take i faces)) c.loop-face.invariant
    (subst (λ ds. StartApart (cell_curves (take i faces) ++ ds)) (sym is) front) in
    subst (λ cs. Follows cs c.insert.new.self.ends) (ap (λ ds. cell_curves (take i faces) ++ ds) is
    ∙ sym (cell_curves-more faces i face here.0)) entered

pub returns : goal.returns
returns c =
    let faces = c.args.faces.now.items in
    let all : take c.loop-face.face-index faces ≡ faces =
    take_all c.loop-face.face-index faces
    (omega (arith, ap length c.deref-face-items.ensures.0)) in
    subst (λ ps. Follows (cell_curves ps) c.loop-face.followers.ends) all c.loop-face.invariant
