-- The tests of the reader pass where the facts hold: of events (`lawful_test`), keys, positions, and of nodes that come
-- in order (`behind_test`). What is told of undos by the edits in force is told by their number (`edits_are`,
-- `lacks_none`).
use Rattle.std.proofs.Common.{◌≡◌, ℕ, ◌-◌, ◌*◌, ◌<◌, true, List, [], ◌∷◌, ◌++◌, length, get_or, refl, sym, ap, subst, ◌∙◌, arith}
use Rattle.std.specs.Prelude.{not}
use Rattle.std.specs.List.{AllPairs}
use Rattle.std.proofs.lemmas.Bool.{and_from, eq-eqb, le-leb, lt-ltb, ne_eqb}
use Rattle.std.proofs.lemmas.List.{length-append, length-drop}
use Rattle.std.proofs.lemmas.Option.{slice_get-get_or}
use Rattle.std.proofs.Math.ListN.{get_or-append}
use Rattle.std.proofs.Math.Seq.{get_or-append_seam}
use Rattle.lattice.specs.declared.key.Key.{Key}
use Rattle.lattice.specs.declared.node.Node.{Node}
use Rattle.lattice.specs.declared.point.Point.{Point}
use Rattle.lattice.specs.declared.point.Pos.{Pos}
use Rattle.lattice.specs.declared.point.TheConstants.{UNITS}
use Rattle.lattice.specs.Key.{IsKey, far_end}
use Rattle.lattice.specs.Orders.{NodeIsBefore}
use Rattle.lattice.specs.Point.{IsInWorld}
use Rattle.lattice.specs.Region.{IsRegion}
use Rattle.lattice.specs.Settings.{world_side}
use Rattle.lattice.proofs.SlotLemmas.{before_passes}
use Rattle.terrain.specs.declared.brush.Brush.{Brush}
use Rattle.terrain.specs.declared.brush.Brush.TheVariants.{Cuboid, Ball, Ground, Smooth}
use Rattle.terrain.specs.declared.event.Event.{Event}
use Rattle.terrain.specs.declared.event.Event.TheVariants.{Edit, Camera, Away, Undo}
use Rattle.terrain.specs.declared.event.TheConstants.{MAX_VIEWS}
use Rattle.terrain.specs.History.{IsLawfulEvent, in_force_after, in_force_by}
use Rattle.replicas.specs.Worlds.{IsPosition}
use Rattle.replicas.specs.Reading.{edits_after, edits_of, is_behind, is_box, is_key, is_lawful, is_point, is_position, lacks_edit, last_node}

-- ---- points, events, keys and positions
-- a point of the world
point_test : (depth : ℕ) (p : Point) → IsInWorld depth p → is_point depth p ≡ true
point_test depth p is =
    let side = world_side depth in
    and_from _ _ (and_from _ _ (le-leb p.z side is.z) (le-leb p.y side is.y)) (le-leb p.x side is.x)

-- a box of the world
box_test : (depth : ℕ) (lo hi : Point) → IsRegion depth (record { lo = lo; hi = hi })
    → is_box depth lo hi ≡ true
box_test depth lo hi is =
    and_from _ _ (and_from _ _ (and_from _ _ (le-leb lo.x hi.x is.x) (le-leb lo.y hi.y is.y))
    (le-leb lo.z hi.z is.z)) (point_test depth hi is.high)

-- a lawful event
pub lawful_test : (depth : ℕ) (e : Event) → IsLawfulEvent depth e → is_lawful depth e ≡ true
lawful_test depth (Edit (Cuboid mode lo hi)) is = box_test depth lo hi is
lawful_test depth (Edit (Ball mode at r)) is =
    and_from _ _ (and_from _ _ (point_test depth at is.centre) (le-leb 1 r is.least))
    (le-leb r (world_side depth) is.most)
lawful_test depth (Edit (Ground mode h)) is = le-leb h (world_side depth) is
lawful_test depth (Edit (Smooth lo hi)) is = box_test depth lo hi is
lawful_test depth (Camera view at) is =
    and_from _ _ (lt-ltb view MAX_VIEWS is.0) (point_test depth at is.1)
lawful_test depth (Away view) is = lt-ltb view MAX_VIEWS is
lawful_test depth Undo is = refl

-- a key of the world
pub key_test : (depth : ℕ) (key : Key) → IsKey depth key → is_key depth key ≡ true
key_test depth key is =
    and_from _ _ (and_from _ _ (and_from _ _ (and_from _ _ (le-leb key.level depth is.level)
    (eq-eqb _ _ is.z)) (eq-eqb _ _ is.y)) (eq-eqb _ _ is.x)) (point_test depth (far_end key) is.end)

-- a position of the world
pub position_test : (depth : ℕ) (at : Pos) → IsPosition depth at → is_position depth at ≡ true
position_test depth at is =
    let most = UNITS * world_side depth in
    and_from _ _ (and_from _ _ (le-leb at.x most is.x) (le-leb at.y most is.y))
    (le-leb at.z most is.z)

-- ---- nodes in order
-- each of them is behind the last one before it
pub behind_test : (all before after : List Node) (n : Node) → AllPairs NodeIsBefore all
    → all ≡ before ++ n ∷ after → is_behind (last_node before) n ≡ true
behind_test all [] after n rise parts = refl
behind_test all (m ∷ ms) after n rise parts =
    let before = m ∷ ms in
    let k = length before - 1 in
    let inside : k < length before = omega arith in
    let x = get_or before k n in
    let here : get_or all k n ≡ x =
    ap (λ l. get_or l k n) parts ∙ get_or-append before (n ∷ after) n k inside in
    let there : get_or all (length before) n ≡ n =
    ap (λ l. get_or l (length before) n) parts ∙ get_or-append_seam before n after n in
    let long : length before < length all =
    omega (arith, ap length parts, length-append before (n ∷ after)) in
    let first : NodeIsBefore (get_or all k n) (get_or all (length before) n) =
    rise k (length before) n (omega arith) long in
    ap (λ o. is_behind o n) (slice_get-get_or before k n inside)
    ∙ before_passes x n (subst (λ a. NodeIsBefore a n) here
    (subst (λ b. NodeIsBefore (get_or all k n) b) there first))

-- ---- undos
-- how many edits are in force after an event
after_one : (e : Event) (brushes : List Brush)
    → edits_after e (length brushes) ≡ length (in_force_by e brushes)
after_one (Edit brush) brushes = omega arith
after_one (Camera view at) brushes = refl
after_one (Away view) brushes = refl
after_one Undo brushes = sym (length-drop 1 brushes)

-- and after more
pub edits_are : (es : List Event) (brushes : List Brush)
    → edits_of es (length brushes) ≡ length (in_force_after es brushes)
edits_are [] brushes = refl
edits_are (e ∷ es) brushes =
    ap (edits_of es) (after_one e brushes) ∙ edits_are es (in_force_by e brushes)

-- where an undo has an edit, none is lacking
pub lacks_none : (e : Event) (edits : ℕ) → (e ≡ Undo → 0 < edits) → not (lacks_edit e edits) ≡ true
lacks_none (Edit brush) edits some = refl
lacks_none (Camera view at) edits some = refl
lacks_none (Away view) edits some = refl
lacks_none Undo edits some =
    ap not (ne_eqb edits 0 (λ none. omega (arith, some refl, none)))
