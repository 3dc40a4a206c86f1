-- One polygon: its curves start on the sides that it enters and end on those that it leaves, each as often, and it has
-- at most two curves.
--
-- A polygon has three to five corners, so for sides that are numbered by their places this is a test of 8 + 16 + 32
-- lists of corners, which computes (`matched`). Any other polygon's sides are the images of these by its own numbers
-- (`starting-side`, `ending-side`), and images of lists with the same counts have the same counts (`mapped-count`).
use Rattle.std.proofs.Common.{◌≡◌, ◌⊎◌, ℕ, zero, suc, ◌+◌, ◌-◌, ◌%◌, ◌<◌, ◌≤◌, Bool, true, false, not, ◌&&◌, List, [], ◌∷◌, ◌++◌, arith, map, length, get_or, filter, slice_index_or, nat_le, ⊎_elim, ◌==◌, sym, ap, ap₂, ◌∙◌, refl, subst, eqb-true, leb-true}
use Rattle.std.specs.List.{list_all, range_with_len}
use Rattle.std.proofs.lemmas.Bool.{and_parts}
use Rattle.std.proofs.lemmas.List.{length-map}
use Rattle.std.proofs.lemmas.List.FromFn.{get_or-range_with_len}
use Rattle.terrain.specs.Curves.{Polygon, IsPolygon, corner_count, is_solid_corner, side, before, run_length, begins_run, curve_at, places, curves, entered, left, count_of}
use Rattle.face_curves.proofs.CountOf.{hit, none_or_some, count_of-append, count_of-map, total-same, list_all-at}
use Rattle.face_curves.proofs.Orbit.{starting, ending}

-- the polygon with these corners whose sides are numbered by their places
abbrev pub by_place : List Bool → Polygon
by_place corners = record { solid = corners; sides = range_with_len 0 (length corners) }

-- whether two lists have the same keys, each as often
abbrev same_keys : List ℕ → List ℕ → Bool
same_keys xs ys = list_all (λ k. count_of k xs == count_of k ys) (xs ++ ys)

-- what the test `same_keys` says
same_keys-count : (xs ys : List ℕ) → same_keys xs ys ≡ true → (z : ℕ)
    → count_of z xs ≡ count_of z ys
same_keys-count xs ys same z =
    ⊎_elim
    (λ none. omega (arith, none, count_of-append z xs ys))
    (λ some. eqb-true _ _ (list_all-at (λ k. count_of k xs == count_of k ys) (xs ++ ys)
    z same some))
    (none_or_some (count_of z (xs ++ ys)))

-- what is to be shown of a polygon whose sides are numbered by their places
abbrev is_matched : List Bool → Bool
is_matched corners =
    same_keys (starting (curves (by_place corners))) (entered (by_place corners))
    && (same_keys (ending (curves (by_place corners))) (left (by_place corners))
    && nat_le (length (filter (begins_run (by_place corners)) (places (by_place corners)))) 2)

-- whether the test passes at all lists of n Bools
abbrev at_all : ℕ → (List Bool → Bool) → Bool
at_all zero test = test []
at_all (suc n) test = at_all n (λ bs. test (true ∷ bs)) && at_all n (λ bs. test (false ∷ bs))

-- what `at_all` says of one list
at_all-at : (n : ℕ) (test : List Bool → Bool) (bs : List Bool) → at_all n test ≡ true
    → length bs ≡ n → test bs ≡ true
at_all-at zero test [] all long = all
at_all-at zero test (b ∷ bs) all long = absurd (omega arith)
at_all-at (suc n) test [] all long = absurd (omega arith)
at_all-at (suc n) test (true ∷ bs) all long =
    at_all-at n (λ cs. test (true ∷ cs)) bs (and_parts _ _ all).0 (omega arith)
at_all-at (suc n) test (false ∷ bs) all long =
    at_all-at n (λ cs. test (false ∷ cs)) bs (and_parts _ _ all).1 (omega arith)

-- by computing, for triangles
three_matched : at_all 3 is_matched ≡ true
three_matched = refl

-- by computing, for squares
four_matched : at_all 4 is_matched ≡ true
four_matched = refl

-- by computing, for the faces with five corners, which are between the two sides of a transition cell
five_matched : at_all 5 is_matched ≡ true
five_matched = refl

-- the test passes at each list of three to five corners
matched : (corners : List Bool) → 3 ≤ length corners → length corners ≤ 5
    → is_matched corners ≡ true
matched corners from to =
    ⊎_elim
    (λ e. at_all-at 3 is_matched corners three_matched e)
    (λ more. ⊎_elim (λ e. at_all-at 4 is_matched corners four_matched e)
    (λ e. at_all-at 5 is_matched corners five_matched e) more)
    (three_to_five (length corners) from to)
  where
    three_to_five : (n : ℕ) → 3 ≤ n → n ≤ 5 → (n ≡ 3) ⊎ ((n ≡ 4) ⊎ (n ≡ 5))
    three_to_five n low high = grind arith

-- the number of the side at a place
abbrev number_at : Polygon → ℕ → ℕ
number_at p place = slice_index_or p.sides place 255

-- a side of a polygon is the number that the polygon has at that side's place
side-number : (p : Polygon) (t : ℕ) → 0 < corner_count p
    → side p t ≡ number_at p (side (by_place p.solid) t)
side-number p t some =
    let within : t % corner_count p < corner_count p = omega arith in
    let place : get_or (range_with_len 0 (corner_count p)) (t % corner_count p) 255
    ≡ t % corner_count p =
    omega (arith, get_or-range_with_len 0 (corner_count p) (t % corner_count p) 255 within) in
    ap (number_at p) (sym place)

-- the same of several sides
map-side : (p : Polygon) (ts : List ℕ) → 0 < corner_count p
    → map (side p) ts ≡ map (number_at p) (map (side (by_place p.solid)) ts)
map-side p [] some = refl
map-side p (t ∷ ts) some = ap₂ (λ x xs. x ∷ xs) (side-number p t some) (map-side p ts some)

-- the same of the sides on which curves start
starting-side : (p : Polygon) (ts : List ℕ) → 0 < corner_count p
    → starting (map (curve_at p) ts) ≡ map (number_at p)
    (starting (map (curve_at (by_place p.solid)) ts))
starting-side p [] some = refl
starting-side p (t ∷ ts) some = ap₂ (λ x xs. x ∷ xs) (side-number p (before p t) some)
    (starting-side p ts some)

-- the same of the sides on which curves end
ending-side : (p : Polygon) (ts : List ℕ) → 0 < corner_count p
    → ending (map (curve_at p) ts) ≡ map (number_at p)
    (ending (map (curve_at (by_place p.solid)) ts))
ending-side p [] some = refl
ending-side p (t ∷ ts) some = ap₂ (λ x xs. x ∷ xs) (side-number p (t + run_length p t - 1) some)
    (ending-side p ts some)

-- lists with the same counts have images with the same counts
mapped-count : (f : ℕ → ℕ) (xs ys : List ℕ) → ((z : ℕ) → count_of z xs ≡ count_of z ys) → (z : ℕ)
    → count_of z (map f xs) ≡ count_of z (map f ys)
mapped-count f xs ys same z = omega (
  arith,
  count_of-map f z xs,
  count_of-map f z ys,
  total-same (λ x. hit z (f x)) xs ys same,
)

-- the curves of a polygon start on the sides that it enters, each as often
pub curves-start : (p : Polygon) → IsPolygon p → (z : ℕ)
    → count_of z (starting (curves p)) ≡ count_of z (entered p)
curves-start p is z =
    let some : 0 < corner_count p = omega (arith, is.at_least) in
    let test = and_parts _ _ (matched p.solid is.at_least is.at_most) in
    let P = by_place p.solid in
    ap (count_of z) (starting-side p (filter (begins_run p) (places p)) some)
    ∙ (mapped-count (number_at p) (starting (curves P)) (entered P) (same_keys-count _ _ test.0) z
    ∙ ap (count_of z)
    (sym (map-side p (filter (λ t. not (is_solid_corner p t) && is_solid_corner p (t + 1))
    (places p)) some)))

-- the curves of a polygon end on the sides that it leaves, each as often
pub curves-end : (p : Polygon) → IsPolygon p → (z : ℕ)
    → count_of z (ending (curves p)) ≡ count_of z (left p)
curves-end p is z =
    let some : 0 < corner_count p = omega (arith, is.at_least) in
    let test = and_parts _ _ (and_parts _ _ (matched p.solid is.at_least is.at_most)).1 in
    let P = by_place p.solid in
    ap (count_of z) (ending-side p (filter (begins_run p) (places p)) some)
    ∙ (mapped-count (number_at p) (ending (curves P)) (left P) (same_keys-count _ _ test.0) z
    ∙ ap (count_of z)
    (sym (map-side p (filter (λ t. is_solid_corner p t && not (is_solid_corner p (t + 1)))
    (places p)) some)))

-- a polygon has at most two curves
pub curves-two : (p : Polygon) → IsPolygon p → length (curves p) ≤ 2
curves-two p is =
    let few : length (filter (begins_run p) (places p)) ≤ 2 =
    leb-true _ _ (and_parts _ _ (and_parts _ _ (matched p.solid is.at_least is.at_most)).1).1 in
    subst (λ n. n ≤ 2) (sym (length-map (filter (begins_run p) (places p)) (curve_at p))) few
