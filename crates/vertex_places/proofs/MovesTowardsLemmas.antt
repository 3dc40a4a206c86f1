-- To which side a point on a border of a leaf moves, by the leaf's neighbours.
--
-- For `Shifts` and `FinePoints`. `towards` is the definition's test with two tests of octants in place of a level map.
-- A point doesn't leave a side with a whole octant (`towards-whole`), nor one without a finer octant (`towards-none`).
-- Where the octants on the side that it would leave are the neighbours beyond its border, it moves just where some of
-- these is finer and none is whole (`towards-beyond`); where the leaf's own octant is on that side, it stays
-- (`towards-home`).
use Rattle.std.proofs.Common.{◌≡◌, ℕ, zero, suc, ◌<◌, ◌≤◌, Bool, true, false, List, [], ◌∷◌, length, get_or, refl, ap, ◌∙◌, arith, lit<}
use Rattle.std.specs.Prelude.{◌&&◌, ◌||◌, not}
use Rattle.std.specs.Bool.{beq}
use Rattle.std.specs.List.{list_all, list_any}
use Rattle.std.proofs.Math.Bool.{and-true}
use Rattle.std.proofs.lemmas.Bool.{and_left, and_right}
use Rattle.lattice.specs.declared.point.Axis.{Axis}
use Rattle.lattice.specs.declared.point.Axis.TheVariants.{X, Y, Z}
use Rattle.lattice.specs.Offset.{Direction}
use Rattle.terrain.specs.World.{Octant, octants, side_on}
use Rattle.vertex_places.specs.Directions.{beyond, step_on}
use Rattle.vertex_places.proofs.Octants.{octant_place, side_step}

-- whether a point moves towards a side, by which octants are finer and which are whole
abbrev pub towards : (Octant → Bool) → (Octant → Bool) → Axis → Bool → Bool
towards finer whole axis side =
    list_any (λ o. finer o && not (beq (side_on axis o) side)) octants
    && list_all (λ o. beq (side_on axis o) side || not (whole o)) octants

-- ---- where some octant of the side that a point would leave is whole

-- an octant by its three sides
abbrev octant : Bool → Bool → Bool → Octant
octant z y x = record { z = z; y = y; x = x }

-- a test that an item fails, and that one of the octants fails
all_fails-at : {A : Type 0} (test : A → Bool) (xs : List A) (k : ℕ) (d : A) → k < length xs
    → test (get_or xs k d) ≡ false → list_all test xs ≡ false
all_fails-at test [] k d within h = absurd (omega arith)
all_fails-at test (x ∷ xs) zero d within h = and_left (test x) (list_all test xs) h
all_fails-at test (x ∷ xs) (suc k) d within h =
    and_right (test x) (list_all test xs) (all_fails-at test xs k d (omega arith) h)

-- a test that one of the eight octants fails doesn't hold of all
all_fails : (test : Octant → Bool) (z y x : Bool) → test (octant z y x) ≡ false
    → list_all test octants ≡ false
all_fails test false false false h =
    all_fails-at test octants 0 (octant false false false) (lit< tt) h
all_fails test false false true h =
    all_fails-at test octants 1 (octant false false false) (lit< tt) h
all_fails test false true false h =
    all_fails-at test octants 2 (octant false false false) (lit< tt) h
all_fails test false true true h =
    all_fails-at test octants 3 (octant false false false) (lit< tt) h
all_fails test true false false h =
    all_fails-at test octants 4 (octant false false false) (lit< tt) h
all_fails test true false true h =
    all_fails-at test octants 5 (octant false false false) (lit< tt) h
all_fails test true true false h =
    all_fails-at test octants 6 (octant false false false) (lit< tt) h
all_fails test true true true h =
    all_fails-at test octants 7 (octant false false false) (lit< tt) h

-- an octant on the side that would be left, if it is whole, fails the test of leaving
leaves : (side w : Bool) → w ≡ true → (beq (not side) side || not w) ≡ false
leaves true true h = refl
leaves false true h = refl
leaves side false h = absurd (cc)

-- a point doesn't leave a side on which one of its octants is whole
pub towards-whole : (finer whole : Octant → Bool) (axis : Axis) (side z y x : Bool)
    → side_on axis (octant z y x) ≡ not side → whole (octant z y x) ≡ true
    → towards finer whole axis side ≡ false
towards-whole finer whole axis side z y x on_side is_whole =
    let fails : (beq (side_on axis (octant z y x)) side || not (whole (octant z y x))) ≡ false =
    ap (λ b. beq b side || not (whole (octant z y x))) on_side
    ∙ leaves side (whole (octant z y x)) is_whole in
    and_right _ _
    (all_fails (λ o. beq (side_on axis o) side || not (whole o)) z y x fails)

-- ---- where the octants of the side that a point would leave are the places beyond its border

-- the four octants on a side of an axis
abbrev on_side : Axis → Bool → List Octant
on_side X b = octant false false b ∷ octant false true b ∷ octant true false b ∷ octant true true b
    ∷ []
on_side Y b = octant false b false ∷ octant false b true ∷ octant true b false ∷ octant true b true
    ∷ []
on_side Z b = octant b false false ∷ octant b false true ∷ octant b true false ∷ octant b true true
    ∷ []

-- all fail a test just where none passes it
none-any : {A : Type 0} (test : A → Bool) (xs : List A)
    → list_all (λ x. not (test x)) xs ≡ not (list_any test xs)
none-any test [] = refl
none-any test (x ∷ xs) = none_or (test x) (list_any test xs) (list_all (λ y. not (test y)) xs)
    (none-any test xs)
  where
    none_or : (a b c : Bool) → c ≡ not b → (not a && c) ≡ not (a || b)
    none_or true b c h = refl
    none_or false b c h = h

-- a conjunction with false
and-false : (b : Bool) → (b && false) ≡ false
and-false true = refl
and-false false = refl

module _ (finer whole : Octant → Bool) where
  -- that some octant off a side is finer says so of the four on the other side
  any-side : (axis : Axis) (side : Bool)
      → list_any (λ o. finer o && not (beq (side_on axis o) side)) octants
      ≡ list_any finer (on_side axis (not side))
  any-side X true = simp (and-true, and-false)
  any-side X false = simp (and-true, and-false)
  any-side Y true = simp (and-true, and-false)
  any-side Y false = simp (and-true, and-false)
  any-side Z true = simp (and-true, and-false)
  any-side Z false = simp (and-true, and-false)

  -- that each octant off a side isn't whole says so of the four on the other side
  all-side : (axis : Axis) (side : Bool)
      → list_all (λ o. beq (side_on axis o) side || not (whole o)) octants
      ≡ list_all (λ o. not (whole o)) (on_side axis (not side))
  all-side X true = refl
  all-side X false = refl
  all-side Y true = refl
  all-side Y false = refl
  all-side Z true = refl
  all-side Z false = refl

  -- a point moves off four octants where some of them is finer and none is whole
  towards-side : (axis : Axis) (side : Bool) → towards finer whole axis side
      ≡ (list_any finer (on_side axis (not side)) && not (list_any whole (on_side axis (not side))))
  towards-side axis side =
      let any = any-side axis side in
      let none = all-side axis side ∙ none-any whole (on_side axis (not side)) in
      λ t. any t && none t

  -- a point doesn't leave a side on which none of its octants is finer
  pub towards-none : (axis : Axis) (side : Bool)
      → ((o : Octant) → side_on axis o ≡ not side → finer o ≡ false)
      → towards finer whole axis side ≡ false
  towards-none axis side none =
      and_left _ (list_all (λ o. beq (side_on axis o) side || not (whole o)) octants)
      (any-side axis side ∙ none_on axis (not side) none)
    where
      nor : (a b c d : Bool) → a ≡ false → b ≡ false → c ≡ false → d ≡ false
          → (a || (b || (c || (d || false)))) ≡ false
      nor a b c d ha hb hc hd = λ t. ha t || (hb t || (hc t || (hd t || false)))

      none_on : (axis : Axis) (b : Bool) → ((o : Octant) → side_on axis o ≡ b → finer o ≡ false)
          → list_any finer (on_side axis b) ≡ false
      none_on X b none = nor _ _ _ _ (none (octant false false b) refl)
          (none (octant false true b) refl) (none (octant true false b) refl)
          (none (octant true true b) refl)
      none_on Y b none = nor _ _ _ _ (none (octant false b false) refl)
          (none (octant false b true) refl) (none (octant true b false) refl)
          (none (octant true b true) refl)
      none_on Z b none = nor _ _ _ _ (none (octant b false false) refl)
          (none (octant b false true) refl) (none (octant b true false) refl)
          (none (octant b true true) refl)

-- the octants beyond a border lie in the places beyond it
module _ (finer whole : Direction → Bool) (d : Direction) where
  -- some of these neighbours is finer, and none is whole
  abbrev places_finer : List Direction → Bool
  places_finer places = list_any finer places && not (list_any whole places)

  -- the four octants on a side, where they lie in the neighbours beyond the border
  places_beyond : (axis : Axis) (side : Bool)
      → side_step (step_on axis d) (not side) ≡ step_on axis d
      → (list_any (λ o. finer (octant_place d o)) (on_side axis (not side))
      && not (list_any (λ o. whole (octant_place d o)) (on_side axis (not side))))
      ≡ places_finer (beyond axis d)
  places_beyond X side h = ap (λ x. places_finer (beyond X (record d { x = x }))) h
  places_beyond Y side h = ap (λ y. places_finer (beyond Y (record d { y = y }))) h
  places_beyond Z side h = ap (λ z. places_finer (beyond Z (record d { z = z }))) h

  -- a point moves off the places beyond its border where they are finer and none is whole
  pub towards-beyond : (axis : Axis) (side : Bool)
      → side_step (step_on axis d) (not side) ≡ step_on axis d
      → towards (λ o. finer (octant_place d o)) (λ o. whole (octant_place d o)) axis side
      ≡ places_finer (beyond axis d)
  towards-beyond axis side h =
      towards-side (λ o. finer (octant_place d o)) (λ o. whole (octant_place d o)) axis side
      ∙ places_beyond axis side h

  -- ---- where the leaf's own octant is on the side that a point would leave

  -- the leaf's side of a border
  abbrev home : ℕ → Bool
  home zero = true
  home (suc step) = false

  -- the octant on the home side of each axis is in the leaf
  home-stay : (step : ℕ) → step ≤ 2 → side_step step (home step) ≡ 1
  home-stay zero h = refl
  home-stay (suc zero) h = refl
  home-stay (suc (suc zero)) h = refl
  home-stay (suc (suc (suc step))) h = absurd (omega arith)

  -- a point doesn't move off the side on which the leaf's own octant lies
  pub towards-home : (axis : Axis) (side : Bool) → d.z ≤ 2 → d.y ≤ 2 → d.x ≤ 2
      → whole (record { z = 1; y = 1; x = 1 }) ≡ true
      → side_step (step_on axis d) (not side) ≡ 1
      → towards (λ o. finer (octant_place d o)) (λ o. whole (octant_place d o)) axis side ≡ false
  towards-home X side hz hy hx is_whole h =
      let ez = home-stay d.z hz in
      let ey = home-stay d.y hy in
      let here : whole (record {
        z = side_step d.z (home d.z);
        y = side_step d.y (home d.y);
        x = side_step d.x (not side);
      }) ≡ true =
      ap whole (λ t. record { z = ez t; y = ey t; x = h t }) ∙ is_whole in
      towards-whole (λ o. finer (octant_place d o)) (λ o. whole (octant_place d o)) X side
      (home d.z) (home d.y) (not side) refl here
  towards-home Y side hz hy hx is_whole h =
      let ez = home-stay d.z hz in
      let ex = home-stay d.x hx in
      let here : whole (record {
        z = side_step d.z (home d.z);
        y = side_step d.y (not side);
        x = side_step d.x (home d.x);
      }) ≡ true =
      ap whole (λ t. record { z = ez t; y = h t; x = ex t }) ∙ is_whole in
      towards-whole (λ o. finer (octant_place d o)) (λ o. whole (octant_place d o)) Y side
      (home d.z) (not side) (home d.x) refl here
  towards-home Z side hz hy hx is_whole h =
      let ey = home-stay d.y hy in
      let ex = home-stay d.x hx in
      let here : whole (record {
        z = side_step d.z (not side);
        y = side_step d.y (home d.y);
        x = side_step d.x (home d.x);
      }) ≡ true =
      ap whole (λ t. record { z = h t; y = ey t; x = ex t }) ∙ is_whole in
      towards-whole (λ o. finer (octant_place d o)) (λ o. whole (octant_place d o)) Z side
      (not side) (home d.y) (home d.x) refl here
