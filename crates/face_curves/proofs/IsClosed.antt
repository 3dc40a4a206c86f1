-- The faces of a closed cell: their curves are paired (`IsClosed-paired`), and neither one step nor two lead back to a
-- key (`IsClosed-one`, `IsClosed-two`), so that each loop has three keys.
--
-- Paired: by `PolygonCurves` the starts of all curves are the sides that faces enter, each as often, and the ends those
-- that they leave; `IsClosed` counts these. No way back: a step from x to y lies within one face, which enters x and
-- leaves y (`first_or_rest`). One step back would have a face enter and leave one side, and two steps would have two
-- faces share two sides; `IsClosed` forbids both.
use Rattle.std.proofs.Common.{◌≡◌, ◌≢◌, ◌⊎◌, ℕ, ◌+◌, ◌<◌, ◌≤◌, true, List, [], ◌∷◌, ◌++◌, arith, length, flat_map, nat_le, nat_lt, inl, inr, ⊎_elim, ◌==◌, sym, ap, ◌∙◌, refl, subst, eqb-true, leb-true, ltb-true}
use Rattle.std.specs.List.{list_all, AllByRecursion}
use Rattle.std.proofs.lemmas.Bool.{and_parts, cases_lt}
use Rattle.std.proofs.lemmas.List.{map-append}
use Rattle.terrain.specs.declared.curve.Curve.{Curve}
use Rattle.terrain.specs.Curves.{Polygon, IsPolygon, IsClosed, curves, entered, left, crossed, shared, is_one_of, share_at_most_one, cell_curves, count_of, next, key_numbers}
use Rattle.face_curves.proofs.CountOf.{hit_cases, Has, none_or_some, count_of-append, count_of-range, count_of-filter, is_one_of-from_Has, list_all-at, count_of-le-length, pair-le-length}
use Rattle.face_curves.proofs.Orbit.{starting, ending, IsPaired, next_here, next_there, next-ends, next-starts}
use Rattle.face_curves.proofs.PolygonCurves.{curves-start, curves-end}

-- ---- counts over all faces

-- the starts of two lists of curves, one after the other
starting-append : (cs ds : List Curve) → starting (cs ++ ds) ≡ starting cs ++ starting ds
starting-append cs ds = map-append (λ c. c.start) cs ds

-- the ends of two lists of curves, one after the other
ending-append : (cs ds : List Curve) → ending (cs ++ ds) ≡ ending cs ++ ending ds
ending-append cs ds = map-append (λ c. c.end) cs ds

-- a count of starts in two lists of curves is the sum of the counts
pub starting-count : (z : ℕ) (cs ds : List Curve)
    → count_of z (starting (cs ++ ds)) ≡ count_of z (starting cs) + count_of z (starting ds)
starting-count z cs ds = ap (count_of z) (starting-append cs ds)
    ∙ count_of-append z (starting cs) (starting ds)

-- a count of ends in two lists of curves is the sum of the counts
pub ending-count : (z : ℕ) (cs ds : List Curve)
    → count_of z (ending (cs ++ ds)) ≡ count_of z (ending cs) + count_of z (ending ds)
ending-count z cs ds = ap (count_of z) (ending-append cs ds)
    ∙ count_of-append z (ending cs) (ending ds)

-- the curves of all faces start on the sides that faces enter, each as often
all-start : (faces : List Polygon) → AllByRecursion IsPolygon faces → (z : ℕ)
    → count_of z (starting (cell_curves faces)) ≡ count_of z (flat_map entered faces)
all-start [] are z = refl
all-start (p ∷ ps) are z = omega (
  arith,
  starting-count z (curves p) (cell_curves ps),
  curves-start p are.0 z,
  all-start ps are.1 z,
  count_of-append z (entered p) (flat_map entered ps),
)

-- the curves of all faces end on the sides that faces leave, each as often
all-end : (faces : List Polygon) → AllByRecursion IsPolygon faces → (z : ℕ)
    → count_of z (ending (cell_curves faces)) ≡ count_of z (flat_map left faces)
all-end [] are z = refl
all-end (p ∷ ps) are z = omega (
  arith,
  ending-count z (curves p) (cell_curves ps),
  curves-end p are.0 z,
  all-end ps are.1 z,
  count_of-append z (left p) (flat_map left ps),
)

-- a side is crossed as often as it is entered and left
all-crossed : (faces : List Polygon) (z : ℕ)
    → count_of z (flat_map crossed faces) ≡ count_of z (flat_map entered faces) + count_of z
    (flat_map left faces)
all-crossed [] z = refl
all-crossed (p ∷ ps) z =
    omega (
      arith,
      count_of-append z (crossed p) (flat_map crossed ps),
      count_of-append z (entered p) (left p),
      all-crossed ps z,
      count_of-append z (entered p) (flat_map entered ps),
      count_of-append z (left p) (flat_map left ps),
    )

-- a side that a face of a closed cell crosses has a number below 16
crossed-below : {faces : List Polygon} → IsClosed faces → (z : ℕ) → Has (flat_map crossed faces) z
    → z < 16
crossed-below {faces} closed z has =
    ltb-true z 16 (list_all-at (λ k. nat_lt k 16) (flat_map crossed faces) z closed.numbers has)

-- the curves of a closed cell are paired
pub IsClosed-paired : {faces : List Polygon} → IsClosed faces → IsPaired (cell_curves faces)
IsClosed-paired {faces} closed = record {
  once = λ k. ⊎_elim
      (λ lt. omega (
        arith,
        all-start faces closed.polygons k,
        leb-true _ _ (list_all-at (λ j. nat_le (count_of j (flat_map entered faces)) 1)
            key_numbers k closed.once (omega (arith, count_of-range 0 16 k (omega arith) lt))),
      ))
      (λ ge. ⊎_elim (λ none. omega (arith, none))
      (λ some. absurd (omega (
        arith,
        ge,
        crossed-below closed k (omega (
          arith,
          some,
          all-start faces closed.polygons k,
          all-crossed faces k,
        )),
      ))) (none_or_some (count_of k (starting (cell_curves faces)))))
      (cases_lt k 16);
  even = λ k. ⊎_elim
      (λ lt. omega (
        arith,
        all-start faces closed.polygons k,
        all-end faces closed.polygons k,
        eqb-true _ _ (list_all-at (λ j. count_of j (flat_map entered faces) == count_of j
            (flat_map left faces)) key_numbers k closed.opposite
            (omega (arith, count_of-range 0 16 k (omega arith) lt))),
      ))
      (λ ge. ⊎_elim
      (λ none. omega (
        arith,
        none,
        all-start faces closed.polygons k,
        all-end faces closed.polygons k,
        all-crossed faces k,
      ))
      (λ some. absurd (omega (arith, ge, crossed-below closed k some)))
      (none_or_some (count_of k (flat_map crossed faces))))
      (cases_lt k 16);
  below = λ k has. crossed-below closed k (omega (
    arith,
    has,
    all-start faces closed.polygons k,
    all-crossed faces k,
  ));
}

-- ---- steps within a face and across faces

-- where a curve of the first list starts at the key, the others don't matter
next-first : (cs ds : List Curve) (key : ℕ) → Has (starting cs) key
    → next (cs ++ ds) key ≡ next cs key
next-first [] ds key has = absurd (omega arith)
next-first (c ∷ cs) ds key has =
    ⊎_elim
    (λ a. next_here c (cs ++ ds) key a.0 ∙ sym (next_here c cs key a.0))
    (λ a. next_there c (cs ++ ds) key a.0 ∙ (next-first cs ds key (omega arith)
    ∙ sym (next_there c cs key a.0)))
    (hit_cases key c.start)

-- where no curve of the first list starts at the key, that list doesn't matter
next-second : (cs ds : List Curve) (key : ℕ) → count_of key (starting cs) ≡ 0
    → next (cs ++ ds) key ≡ next ds key
next-second [] ds key none = refl
next-second (c ∷ cs) ds key none =
    ⊎_elim
    (λ a. absurd (omega arith))
    (λ a. next_there c (cs ++ ds) key a.0 ∙ next-second cs ds key (omega arith))
    (hit_cases key c.start)

-- a key that starts a curve of the faces is entered by the first face, which leaves the next one, or starts a curve of
-- the others
first_or_rest : (p : Polygon) (ps : List Polygon) (x : ℕ) → IsPolygon p
    → Has (starting (cell_curves (p ∷ ps))) x
    → (Has (entered p) x × Has (left p) (next (cell_curves (p ∷ ps)) x))
    ⊎ (Has (starting (cell_curves ps)) x
    × (next (cell_curves (p ∷ ps)) x ≡ next (cell_curves ps) x))
first_or_rest p ps x is has =
    ⊎_elim
    (λ none. inr (
      omega (arith, none, has, starting-count x (curves p) (cell_curves ps)),
      next-second (curves p) (cell_curves ps) x none,
    ))
    (λ some. inl (
      omega (arith, some, curves-start p is x),
      subst (Has (left p)) (sym (next-first (curves p) (cell_curves ps) x some))
          (omega (arith, next-ends (curves p) x some, curves-end p is (next (curves p) x))),
    ))
    (none_or_some (count_of x (starting (curves p))))

-- a key that is in the second list is as often in what both share as in the first
shared-count : (xs ys : List ℕ) (key : ℕ) → Has ys key
    → count_of key (shared xs ys) ≡ count_of key xs
shared-count xs ys key has = count_of-filter (λ k. is_one_of k ys) key xs
    (is_one_of-from_Has key ys has)

-- a side that a face enters is crossed
entered-crossed : (p : Polygon) (key : ℕ) → Has (entered p) key → Has (crossed p) key
entered-crossed p key has = omega (arith, has, count_of-append key (entered p) (left p))

-- a side that a face leaves is crossed
left-crossed : (p : Polygon) (key : ℕ) → Has (left p) key → Has (crossed p) key
left-crossed p key has = omega (arith, has, count_of-append key (entered p) (left p))

-- no side is entered and left by one face
entered-not_left : (p : Polygon) (key : ℕ) → (length (shared (entered p) (left p)) == 0) ≡ true
    → Has (entered p) key → Has (left p) key → ⊥
entered-not_left p key in_two enters leaves =
    let none : length (shared (entered p) (left p)) ≡ 0 = eqb-true _ _ in_two in
    absurd (omega (
      arith,
      none,
      enters,
      shared-count (entered p) (left p) key leaves,
      count_of-le-length key (shared (entered p) (left p)),
    ))

-- no step leads from a key to itself, face by face
no-one : (faces : List Polygon) → AllByRecursion IsPolygon faces
    → list_all (λ p. length (shared (entered p) (left p)) == 0) faces ≡ true → (key : ℕ)
    → Has (starting (cell_curves faces)) key → next (cell_curves faces) key ≢ key
no-one [] are in_two key has back = absurd (omega arith)
no-one (p ∷ ps) are in_two key has back =
    let parts = and_parts _ _ in_two in
    ⊎_elim
    (λ a. entered-not_left p key parts.0 a.0 (subst (Has (left p)) back a.1))
    (λ b. no-one ps are.1 parts.1 key b.0 (sym b.1 ∙ back))
    (first_or_rest p ps key are.0 has)

-- two sides of p, of which one leads to the other in a face of qs, which shares at most one with p
no-across : (p : Polygon) (qs : List Polygon) → AllByRecursion IsPolygon qs
    → list_all (λ q. nat_le (length (shared (crossed p) (crossed q))) 1) qs ≡ true
    → (x y : ℕ) → x ≢ y → Has (crossed p) x → Has (crossed p) y → Has (starting (cell_curves qs)) x
    → next (cell_curves qs) x ≡ y → ⊥
no-across p [] are apart x y ne hx hy has leads = absurd (omega arith)
no-across p (q ∷ qs) are apart x y ne hx hy has leads =
    let parts = and_parts _ _ apart in
    let both = shared (crossed p) (crossed q) in
    let few : length both ≤ 1 = leb-true _ _ parts.0 in
    ⊎_elim
    (λ a.
    let qx = shared-count (crossed p) (crossed q) x (entered-crossed q x a.0) in
    let qy = shared-count (crossed p) (crossed q) y
    (left-crossed q y (subst (Has (left q)) leads a.1)) in
    absurd (omega (arith, few, hx, hy, qx, qy, pair-le-length x y both ne)))
    (λ b. no-across p qs are.1 parts.1 x y ne hx hy b.0 (sym b.1 ∙ leads))
    (first_or_rest q qs x are.0 has)

-- no two steps lead from x to y and back, face by face
no-two : (faces : List Polygon) → AllByRecursion IsPolygon faces
    → list_all (λ p. length (shared (entered p) (left p)) == 0) faces ≡ true
    → share_at_most_one faces ≡ true
    → (x y : ℕ) → x ≢ y → Has (starting (cell_curves faces)) x
    → Has (starting (cell_curves faces)) y → next (cell_curves faces) x ≡ y
    → next (cell_curves faces) y ≡ x → ⊥
no-two [] are in_two apart x y ne hx hy there back = absurd (omega arith)
no-two (p ∷ ps) are in_two apart x y ne hx hy there back =
    let parts = and_parts _ _ in_two in
    let others = and_parts _ _ apart in
    ⊎_elim
    (λ a.
    let y_left : Has (left p) y = subst (Has (left p)) there a.1 in
    ⊎_elim
    (λ c. entered-not_left p x parts.0 a.0 (subst (Has (left p)) back c.1))
    (λ d. no-across p ps are.1 others.0 y x (λ e. ne (sym e)) (left-crossed p y y_left)
    (entered-crossed p x a.0) d.0 (sym d.1 ∙ back))
    (first_or_rest p ps y are.0 hy))
    (λ b. ⊎_elim
    (λ c. no-across p ps are.1 others.0 x y ne (left-crossed p x (subst (Has (left p)) back c.1))
    (entered-crossed p y c.0) b.0 (sym b.1 ∙ there))
    (λ d. no-two ps are.1 parts.1 others.1 x y ne b.0 d.0 (sym b.1 ∙ there) (sym d.1 ∙ back))
    (first_or_rest p ps y are.0 hy))
    (first_or_rest p ps x are.0 hx)

-- no curve of a closed cell leads back to its start
pub IsClosed-one : {faces : List Polygon} → IsClosed faces → (key : ℕ)
    → Has (starting (cell_curves faces)) key → next (cell_curves faces) key ≢ key
IsClosed-one {faces} closed = no-one faces closed.polygons closed.in_two

-- no two curves of a closed cell lead back to the start of the first
pub IsClosed-two : {faces : List Polygon} → IsClosed faces → (key : ℕ)
    → Has (starting (cell_curves faces)) key
    → next (cell_curves faces) (next (cell_curves faces) key) ≢ key
IsClosed-two {faces} closed key has back =
    no-two faces closed.polygons closed.in_two closed.apart key (next (cell_curves faces) key)
    (λ e. IsClosed-one closed key has (sym e)) has
    (next-starts (IsClosed-paired closed) key has) refl back
