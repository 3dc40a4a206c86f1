-- Which leaves an event touches, and what holds of the others: the laws `touched_leaves_are_met_or_changed` and
-- `untouched_leaves_keep_their_bricks`. docs/rules.md, "Events and touched leaves", has the argument.
-- Touched is a test with three parts: new, edited, another rim. An edit and an undo keep the level map, so only their
-- region counts (touched-edit, touched-undo); what edits no node has no region, so the two others do (touched-other). A
-- leaf that isn't touched fails all three (IsKept-from). For its brick the second is turned into points: a box that
-- misses a node's cube has none of its points (meets-from, is_within-unmet), so the edit changes no sample there.
use Rattle.std.proofs.Common.{◌≡◌, ℕ, ◌≤◌, Bool, true, false, cond, List, [], ◌∷◌, ◌++◌, Contains, refl, ap, ◌∙◌, arith, inl, inr, ◌↔◌}
use Rattle.std.specs.Prelude.{filter, not, ◌||◌, ◌==◌, nat_le, IsTrue}
use Rattle.std.proofs.lemmas.Bool.{and_from, cases_Bool, eq-eqb, eqb-true, false_from_ne_true, le-leb, not-false, or_parts}
use Rattle.std.proofs.Math.Bool.{or-false}
use Rattle.lattice.specs.declared.node.Node.{Node}
use Rattle.lattice.specs.declared.point.Point.{Point}
use Rattle.lattice.specs.declared.region.Region.{Region}
use Rattle.lattice.specs.declared.settings.Settings.{Settings}
use Rattle.lattice.specs.Node.{cube, high_corner, low_corner, nodes}
use Rattle.lattice.specs.Region.{IsWithin, is_within}
use Rattle.terrain.specs.declared.brush.Brush.{Brush}
use Rattle.terrain.specs.declared.event.Event.{Event}
use Rattle.terrain.specs.declared.event.Event.TheVariants.{Edit, Undo}
use Rattle.terrain.specs.Blocks.{edits, meets, meets_newest, touched}
use Rattle.terrain.specs.Brushes.{region}
use Rattle.terrain.specs.History.{in_force}
use Rattle.terrain.specs.Levels.{IsLeaf, LevelMap, is_leaf, leaves, levels, rim}
use Rattle.level_laws.proofs.LeafLemmas.{Contains-filter, leaf_listed}
use Rattle.event_laws.specs.ChangedLeaves.{changed_leaves, is_changed}
use Rattle.event_laws.proofs.MapLemmas.{levels-edit, levels-undo}

-- ---- filtered lists

-- two tests that agree on what passed a first one
filter-filtered : {A : Type 0} (p r q : A → Bool) (xs : List A)
    → ((x : A) → q x ≡ true → p x ≡ r x) → filter p (filter q xs) ≡ filter r (filter q xs)
filter-filtered p r q [] same = refl
filter-filtered p r q (y ∷ ys) same =
    let rest = filter-filtered p r q ys same in
    elim (cases_Bool (q y)) [
      | inl kept ↦ rw kept (λ i. cond (same y kept i) (y ∷ rest i) (rest i))
      | inr left ↦ rw left rest
    ]

-- nothing passes a test that nothing passes
filter-none : {A : Type 0} (xs : List A) → filter (λ x. false) xs ≡ []
filter-none [] = refl
filter-none (x ∷ xs) = filter-none xs

-- ---- what an edit and another event touch

-- whether a leaf after an event is touched
abbrev is_touched : ℕ → LevelMap → LevelMap → List Brush → Event → Node → Bool
is_touched depth before after brushes event n =
    not (is_leaf depth before n) || edits depth brushes event n
    || not (rim depth before n == rim depth after n)

-- a rim is equal to itself by the test
same_rim : (depth : ℕ) (m : LevelMap) (n : Node) → (rim depth m n == rim depth m n) ≡ true
same_rim depth m n = eq-eqb (rim depth m n) (rim depth m n) refl

-- where the level map stays, the leaves that an event edits
touched-same : (depth : ℕ) (m : LevelMap) (brushes : List Brush) (event : Event)
    → filter (is_touched depth m m brushes event) (leaves depth m)
    ≡ filter (edits depth brushes event) (leaves depth m)
touched-same depth m brushes event =
    filter-filtered (is_touched depth m m brushes event) (edits depth brushes event)
    (is_leaf depth m) (nodes depth)
    (λ n leaf.
    (λ i. not (leaf i) || edits depth brushes event n || not (same_rim depth m n i))
    ∙ or-false (edits depth brushes event n))

-- an edit touches the leaves whose cubes meet its region
pub touched-edit : (settings : Settings) (events : List Event) (brush : Brush)
    → touched settings events (Edit brush)
    ≡ filter (meets (region settings.depth brush)) (leaves settings.depth (levels settings events))
touched-edit settings events brush =
    let depth = settings.depth in
    let before = levels settings events in
    let edits_in_force = in_force events in
    ap (λ after. filter (is_touched depth before after edits_in_force (Edit brush))
    (leaves depth after)) (levels-edit settings events brush)
    ∙ touched-same depth before edits_in_force (Edit brush)

-- an undo touches the leaves whose cubes meet the region of the last edit in force
pub touched-undo : (settings : Settings) (events : List Event)
    → touched settings events Undo
    ≡ filter (meets_newest settings.depth (in_force events))
    (leaves settings.depth (levels settings events))
touched-undo settings events =
    let depth = settings.depth in
    let before = levels settings events in
    let edits_in_force = in_force events in
    ap (λ after. filter (is_touched depth before after edits_in_force Undo) (leaves depth after))
    (levels-undo settings events)
    ∙ touched-same depth before edits_in_force Undo

-- an event that edits no node touches the leaves that are new or have another rim
pub touched-other : (settings : Settings) (events : List Event) (event : Event)
    → ((n : Node) → edits settings.depth (in_force events) event n ≡ false)
    → touched settings events event
    ≡ changed_leaves settings.depth (levels settings events)
    (levels settings (events ++ event ∷ []))
touched-other settings events event off =
    let depth = settings.depth in
    let before = levels settings events in
    let after = levels settings (events ++ event ∷ []) in
    (λ i. filter (λ n. not (is_leaf depth before n) || off n i
    || not (rim depth before n == rim depth after n)) (leaves depth after))
    ∙ (λ i. filter (λ n. or-false (not (is_leaf depth before n)) i
    || not (rim depth before n == rim depth after n)) (leaves depth after))

-- where the level map stays, no leaf is new or has another rim
pub changed_leaves-same : (depth : ℕ) (m : LevelMap) → changed_leaves depth m m ≡ []
changed_leaves-same depth m =
    filter-filtered (is_changed depth m m) (λ n. false) (is_leaf depth m) (nodes depth)
    (λ n leaf i. not (leaf i) || not (same_rim depth m n i))
    ∙ filter-none (leaves depth m)

-- ---- what isn't touched

-- a leaf that isn't touched was a leaf, isn't edited, and has the rim that it had
pub record IsKept (depth : ℕ) (before after : LevelMap) (brushes : List Brush) (event : Event)
    (n : Node) : Type 0 where
  pub leaf : is_leaf depth before n ≡ true
  pub unedited : edits depth brushes event n ≡ false
  pub rim : rim depth before n ≡ rim depth after n

-- a leaf that isn't among the touched ones
pub IsKept-from : (depth : ℕ) (before after : LevelMap) (brushes : List Brush) (event : Event)
    (n : Node) → IsLeaf depth after n
    → (Contains (filter (is_touched depth before after brushes event) (leaves depth after)) n → ⊥)
    → IsKept depth before after brushes event n
IsKept-from depth before after brushes event n leaf untouched =
    let listed : Contains (leaves depth after) n = (leaf_listed depth after n).0 leaf in
    let off : is_touched depth before after brushes event n ≡ false = false_from_ne_true _
    (λ on. untouched (Contains-filter (is_touched depth before after brushes event)
    (leaves depth after) n listed on)) in
    let a = or_parts (not (is_leaf depth before n) || edits depth brushes event n)
    (not (rim depth before n == rim depth after n)) off in
    let b = or_parts (not (is_leaf depth before n)) (edits depth brushes event n) a.0 in
    record {
      leaf = not-false _ b.0;
      unedited = b.1;
      rim = eqb-true _ _ (not-false _ a.1);
    }

-- ---- regions that don't meet a cube

-- a low end that is at most a point which is at most a high end is at most that
reaches : (a p b : ℕ) → a ≤ p → p ≤ b → a ≤ b
reaches a p b h k = omega arith

-- a box that has a point of a node's cube meets the cube
meets-from : (box : Region) (n : Node) (p : Point) → IsWithin box p → IsWithin (cube n) p
    → meets box n ≡ true
meets-from box n p inside on =
    let low = low_corner n in
    let high = high_corner n in
    let z : nat_le low.z box.hi.z ≡ true =
    le-leb _ _ (reaches low.z p.z box.hi.z on.z inside.z_end) in
    let z_end : nat_le box.lo.z high.z ≡ true =
    le-leb _ _ (reaches box.lo.z p.z high.z inside.z on.z_end) in
    let y : nat_le low.y box.hi.y ≡ true =
    le-leb _ _ (reaches low.y p.y box.hi.y on.y inside.y_end) in
    let y_end : nat_le box.lo.y high.y ≡ true =
    le-leb _ _ (reaches box.lo.y p.y high.y inside.y on.y_end) in
    let x : nat_le low.x box.hi.x ≡ true =
    le-leb _ _ (reaches low.x p.x box.hi.x on.x inside.x_end) in
    let x_end : nat_le box.lo.x high.x ≡ true =
    le-leb _ _ (reaches box.lo.x p.x high.x inside.x on.x_end) in
    and_from _ _ (and_from _ _ (and_from _ _ (and_from _ _ (and_from _ _ z z_end) y) y_end) x) x_end

-- a box that doesn't meet a node's cube has none of its points
pub is_within-unmet : (box : Region) (n : Node) (p : Point)
    → (IsTrue (is_within box p) ↔ IsWithin box p) → meets box n ≡ false → IsWithin (cube n) p
    → is_within box p ≡ false
is_within-unmet box n p test unmet on =
    false_from_ne_true _ (λ inside.
    let met : meets box n ≡ true = meets-from box n p (test.0 inside) on in
    absurd (cc))
