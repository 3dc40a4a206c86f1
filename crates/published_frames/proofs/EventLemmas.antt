-- What the code's test of journals tells: `begins_with` is true exactly where a journal begins with another one.
-- The code compares events by the derived test of equality. So for points, modes, brushes and events in turn it is
-- shown that two that pass the test are the same (those named tells, by cases), and that each passes with itself (those
-- named self). Both together decide whether two events are the same, and with that the library's fact on fronts of
-- lists gives the journals (found, begins_by_test).
use Rattle.std.proofs.Common.{◌≡◌, Bool, true, false, List, ◌++◌, drop, length, eq-eqb, refl, subst, Decides}
use Rattle.std.specs.Prelude.{◌↔◌, IsTrue}
use Rattle.std.proofs.lemmas.Bool.{and_from, and_parts, eqb-true, false≢true}
use Rattle.std.proofs.lemmas.Slice.Eq.{starts_is}
use Rattle.std.specs.List.{starts_with}
use Rattle.lattice.specs.declared.point.Point.{Point}
use Rattle.lattice.specs.contracts.point.PointPartialEq.TheImpl.{eq-value as point-eq}
use Rattle.terrain.specs.declared.brush.Mode.{Mode}
use Rattle.terrain.specs.declared.brush.Mode.TheVariants.{Fill, Carve}
use Rattle.terrain.specs.declared.brush.Brush.{Brush}
use Rattle.terrain.specs.declared.brush.Brush.TheVariants.{Cuboid, Ball, Ground, Smooth}
use Rattle.terrain.specs.declared.event.Event.{Event}
use Rattle.terrain.specs.declared.event.Event.TheVariants.{Edit, Camera, Away, Undo}
use Rattle.terrain.specs.contracts.brush.ModePartialEq.TheImpl.{eq-value as mode-eq}
use Rattle.terrain.specs.contracts.brush.BrushPartialEq.TheImpl.{eq-value as brush-eq}
use Rattle.terrain.specs.contracts.event.EventPartialEq.TheImpl.{eq-value as event-eq}
use Rattle.published_frames.specs.Pasts.{BeginsWith}

-- points that the test calls the same are the same
point_tells : (p q : Point) → (point-eq).it p q ≡ true → p ≡ q
point_tells p q is =
    let outer = and_parts _ _ is in
    let inner = and_parts _ _ outer.1 in
    λ i. record {
      z = eqb-true p.z q.z outer.0 i;
      y = eqb-true p.y q.y inner.0 i;
      x = eqb-true p.x q.x inner.1 i;
    }

-- a point is the same as itself by the test
point_self : (p : Point) → (point-eq).it p p ≡ true
point_self p =
    and_from _ _ (eq-eqb p.z p.z refl) (and_from _ _ (eq-eqb p.y p.y refl) (eq-eqb p.x p.x refl))

-- modes that the test calls the same are the same
mode_tells : (m n : Mode) → (mode-eq).it m n ≡ true → m ≡ n
mode_tells Fill Fill is = refl
mode_tells Carve Carve is = refl
mode_tells Fill Carve is = absurd (false≢true is)
mode_tells Carve Fill is = absurd (false≢true is)

-- a mode is the same as itself by the test
mode_self : (m : Mode) → (mode-eq).it m m ≡ true
mode_self Fill = refl
mode_self Carve = refl

-- brushes that the test calls the same are of one kind, with the same members
brush_tells : (a b : Brush) → (brush-eq).it a b ≡ true → a ≡ b
brush_tells (Cuboid m lo hi) (Cuboid n from to) is =
    let outer = and_parts _ _ is in
    let inner = and_parts _ _ outer.1 in
    λ i. Cuboid (mode_tells m n outer.0 i) (point_tells lo from inner.0 i)
    (point_tells hi to inner.1 i)
brush_tells (Ball m at r) (Ball n by s) is =
    let outer = and_parts _ _ is in
    let inner = and_parts _ _ outer.1 in
    λ i. Ball (mode_tells m n outer.0 i) (point_tells at by inner.0 i) (eqb-true r s inner.1 i)
brush_tells (Ground m h) (Ground n k) is =
    let parts = and_parts _ _ is in
    λ i. Ground (mode_tells m n parts.0 i) (eqb-true h k parts.1 i)
brush_tells (Smooth lo hi) (Smooth from to) is =
    let parts = and_parts _ _ is in
    λ i. Smooth (point_tells lo from parts.0 i) (point_tells hi to parts.1 i)
brush_tells (Cuboid m lo hi) (Ball n by s) is = absurd (false≢true is)
brush_tells (Cuboid m lo hi) (Ground n k) is = absurd (false≢true is)
brush_tells (Cuboid m lo hi) (Smooth from to) is = absurd (false≢true is)
brush_tells (Ball m at r) (Cuboid n from to) is = absurd (false≢true is)
brush_tells (Ball m at r) (Ground n k) is = absurd (false≢true is)
brush_tells (Ball m at r) (Smooth from to) is = absurd (false≢true is)
brush_tells (Ground m h) (Cuboid n from to) is = absurd (false≢true is)
brush_tells (Ground m h) (Ball n by s) is = absurd (false≢true is)
brush_tells (Ground m h) (Smooth from to) is = absurd (false≢true is)
brush_tells (Smooth lo hi) (Cuboid n from to) is = absurd (false≢true is)
brush_tells (Smooth lo hi) (Ball n by s) is = absurd (false≢true is)
brush_tells (Smooth lo hi) (Ground n k) is = absurd (false≢true is)

-- a brush is the same as itself by the test
brush_self : (a : Brush) → (brush-eq).it a a ≡ true
brush_self (Cuboid m lo hi) =
    and_from _ _ (mode_self m) (and_from _ _ (point_self lo) (point_self hi))
brush_self (Ball m at r) =
    and_from _ _ (mode_self m) (and_from _ _ (point_self at) (eq-eqb r r refl))
brush_self (Ground m h) = and_from _ _ (mode_self m) (eq-eqb h h refl)
brush_self (Smooth lo hi) = and_from _ _ (point_self lo) (point_self hi)

-- events that the test calls the same are the same
event_tells : (a b : Event) → (event-eq).it a b ≡ true → a ≡ b
event_tells (Edit a) (Edit b) is = λ i. Edit (brush_tells a b is i)
event_tells (Camera v p) (Camera w q) is =
    let parts = and_parts _ _ is in
    λ i. Camera (eqb-true v w parts.0 i) (point_tells p q parts.1 i)
event_tells (Away v) (Away w) is = λ i. Away (eqb-true v w is i)
event_tells Undo Undo is = refl
event_tells (Edit a) (Camera w q) is = absurd (false≢true is)
event_tells (Edit a) (Away w) is = absurd (false≢true is)
event_tells (Camera v p) (Edit b) is = absurd (false≢true is)
event_tells (Camera v p) (Away w) is = absurd (false≢true is)
event_tells (Away v) (Edit b) is = absurd (false≢true is)
event_tells (Away v) (Camera w q) is = absurd (false≢true is)
event_tells (Edit a) Undo is = absurd (false≢true is)
event_tells (Camera v p) Undo is = absurd (false≢true is)
event_tells (Away v) Undo is = absurd (false≢true is)
event_tells Undo (Edit b) is = absurd (false≢true is)
event_tells Undo (Camera w q) is = absurd (false≢true is)
event_tells Undo (Away w) is = absurd (false≢true is)

-- an event is the same as itself by the test
event_self : (a : Event) → (event-eq).it a a ≡ true
event_self (Edit a) = brush_self a
event_self (Camera v p) = and_from _ _ (eq-eqb v v refl) (point_self p)
event_self (Away v) = eq-eqb v v refl
event_self Undo = refl

-- so the test decides whether two events are the same
event_decides : (a b : Event) → Decides ((event-eq).it a b) (a ≡ b)
event_decides a b = (
  event_tells a b,
  λ same. subst (λ e. (event-eq).it a e ≡ true) same (event_self a),
)

-- a test for a front says so exactly where there is one
found : (journal last : List Event) (front : Bool)
    → (front ≡ true → journal ≡ last ++ drop (length last) journal)
    → ((rest : List Event) → journal ≡ last ++ rest → front ≡ true)
    → IsTrue front ↔ BeginsWith journal last
found journal last true then back = (λ is. (drop (length last) journal, then refl), λ b. refl)
found journal last false then back =
    (λ never. absurd (false≢true never), λ begins. back begins.0 begins.1)

-- a journal begins with another one exactly where the code's test says so
pub begins_by_test : (journal last : List Event) (front : Bool)
    → front ≡ starts_with (event-eq).it journal last
    → IsTrue front ↔ BeginsWith journal last
begins_by_test journal last front test =
    let tells = starts_is event_decides journal last front test in
    found journal last front tells.0 tells.1
