-- The loops of paired curves: each key that starts a curve is in just one of them, once. So the loops are the orbits
-- (`AreOrbits`), and have at most 16 keys.
--
-- For `CellLoops`, and by it for the clauses `orbits`, `three` and `below` of `loops`. A loop is told from the least
-- key of an orbit alone (`firsts`), and orbits with a key in common are one orbit (`Orbit`); so all loops together have
-- each start as often as the curves do (`loop_keys-count`). Sums over starts then are sums over loops, which gives the
-- edges round them (`orbits-round`); then come their first keys, and last their sizes.
use Rattle.std.proofs.Common.{◌≡◌, ◌≢◌, ℕ, zero, suc, ◌+◌, ◌*◌, ◌<◌, ◌≤◌, true, not, ◌&&◌, List, [], ◌∷◌, ◌++◌, arith, map, length, take, filter, flat_map, zip, take_while, nat_le, ⊎_elim, ◌==◌, sym, ap, ◌∙◌, refl, subst, leb-true, le-leb}
use Rattle.std.specs.List.{range_with_len, AllByRecursion}
use Rattle.std.specs.List.Sorted.{IsStrictlyIncreasing}
use Rattle.std.proofs.lemmas.Bool.{and_parts, and_from, cases_eq}
use Rattle.std.proofs.lemmas.List.{length-append}
use Rattle.std.proofs.lemmas.List.FromFn.{length-range_with_len, get_or-range_with_len}
use Rattle.std.proofs.lemmas.List.Kept.{IsStrictlyIncreasing-filter}
use Rattle.terrain.specs.declared.curve.Curve.{Curve}
use Rattle.terrain.specs.Curves.{count_of, next, steps, orbit, starts, is_least, loops_of, key_numbers, weight, edges_round, all_edges, curve_edges, AreAsOften, AreOrbits, BeginsWithLeast, first_keys}
use Rattle.face_curves.proofs.CountOf.{hit, hit_cases, Has, none_or_some, count_of-append, total, total-agree, total-zero, total-hit, total-append, total-same, length-le_count, count_of-range, count_of-filter, Has-filter, list_all-at, list_all-from, AllByRecursion-from, least_of}
use Rattle.face_curves.proofs.HaveSameNet.{weight-append}
use Rattle.face_curves.proofs.Orbit.{starting, ending, IsPaired, Has-from_starts, starts-from_Has, map-next, after, steps_more, length-steps, IsOrbit, orbit_is, orbit-turn, orbit-once, orbit-starts, orbit-trans, orbit-sym}

-- the keys from which loops are told
abbrev pub firsts : List Curve → List ℕ
firsts cs = filter (λ key. starts cs key && is_least cs key) key_numbers

-- the loops, unfolded: the orbits of `firsts`
loops_of_is : (cs : List Curve) → loops_of cs ≡ map (orbit cs) (firsts cs)
unfolding loops_of
loops_of_is cs = refl

-- a loop is told from a key that starts a curve
firsts-start : (cs : List Curve) (key : ℕ) → Has (firsts cs) key → Has (starting cs) key
firsts-start cs key has = Has-from_starts cs key
    (and_parts _ _ (Has-filter (λ k. starts cs k && is_least cs k) key key_numbers has)).0

-- a loop is told from the least key of its orbit
firsts-least : (cs : List Curve) (key z : ℕ) → Has (firsts cs) key → Has (orbit cs key) z
    → key ≤ z
firsts-least cs key z has in_orbit =
    leb-true key z (list_all-at (nat_le key) (orbit cs key) z
    (and_parts _ _ (Has-filter (λ k. starts cs k && is_least cs k)
    key key_numbers has)).1 in_orbit)

-- the least key of an orbit is one from which a loop is told, just once
firsts-once : {cs : List Curve} → IsPaired cs → (m : ℕ) → Has (starting cs) m
    → ((z : ℕ) → Has (orbit cs m) z → m ≤ z) → count_of m (firsts cs) ≡ 1
firsts-once {cs} paired m from least =
    let passes : (starts cs m && is_least cs m) ≡ true =
    and_from _ _ (starts-from_Has cs m from)
    (list_all-from (nat_le m) (orbit cs m) (λ k has. le-leb m k (least k has))) in
    count_of-filter (λ k. starts cs k && is_least cs k) m key_numbers passes
    ∙ count_of-range 0 16 m (omega arith) (paired.below m from)

-- all keys of the orbits from the given keys
abbrev pub orbit_keys : List Curve → List ℕ → List ℕ
orbit_keys cs ks = flat_map (λ keys. keys) (map (orbit cs) ks)

-- a key's count in all orbits is the sum of its counts in each
count_of-orbit_keys : (cs : List Curve) (x : ℕ) (ks : List ℕ)
    → count_of x (orbit_keys cs ks) ≡ total (λ k. count_of x (orbit cs k)) ks
count_of-orbit_keys cs x [] = refl
count_of-orbit_keys cs x (k ∷ ks) = omega (
  arith,
  count_of-append x (orbit cs k) (orbit_keys cs ks),
  count_of-orbit_keys cs x ks,
)

-- the least key of the orbit of x
least_in : {cs : List Curve} → IsPaired cs → (x : ℕ) → Has (starting cs) x
    → (m : ℕ) × Has (orbit cs x) m × ((z : ℕ) → Has (orbit cs x) z → m ≤ z)
least_in {cs} paired x from =
    let r = least_of x (take_while (λ k. not (k == x)) (steps cs 16 (next cs x))) in (
      r.0,
      subst (λ ks. Has ks r.0) (sym (orbit_is cs x)) r.1,
      λ z has. r.2 z (subst (λ ks. Has ks z) (orbit_is cs x) has),
    )

-- each key is in the loops as often as it starts a curve
loop_keys-count : {cs : List Curve} → IsPaired cs → (x : ℕ)
    → count_of x (orbit_keys cs (firsts cs)) ≡ count_of x (starting cs)
loop_keys-count {cs} paired x =
    ⊎_elim
    (λ none. omega (
      arith,
      count_of-orbit_keys cs x (firsts cs),
      total-zero (λ k. count_of x (orbit cs k)) (firsts cs)
          (λ k has. ⊎_elim (λ e. e) (λ some. absurd
          (omega (arith, none, orbit-starts paired k x (firsts-start cs k has) some)))
          (none_or_some (count_of x (orbit cs k)))),
    ))
    (λ some.
    let r = least_in paired x some in let m = r.0 in
    let start : Has (starting cs) m = orbit-starts paired x m some r.1 in
    let back : Has (orbit cs m) x = orbit-sym paired x m some r.1 in
    let least : (z : ℕ) → Has (orbit cs m) z → m ≤ z =
    λ z has. r.2 z (orbit-trans paired x m z some r.1 has) in
    let agree : (k : ℕ) → Has (firsts cs) k → count_of x (orbit cs k) ≡ hit m k = λ k has.
    ⊎_elim
    (λ e. omega (
      arith,
      e,
      back,
      orbit-once paired m start x,
      ap (λ j. count_of x (orbit cs j)) e.0,
    ))
    (λ ne. ⊎_elim
    (λ none. omega (arith, none, ne))
    (λ there.
    let from : Has (starting cs) k = firsts-start cs k has in
    let low : m ≤ k = r.2 k (orbit-sym paired k x from there) in
    let high : k ≤ m = firsts-least cs k m has (orbit-trans paired k x m from there r.1) in
    absurd (omega (arith, low, high, ne)))
    (none_or_some (count_of x (orbit cs k))))
    (hit_cases m k) in
    omega (
      arith,
      some,
      paired.once x,
      count_of-orbit_keys cs x (firsts cs),
      total-agree (λ k. count_of x (orbit cs k)) (hit m) (firsts cs) agree,
      total-hit m (firsts cs),
      firsts-once paired m start least,
    ))
    (none_or_some (count_of x (starting cs)))

-- ---- the edges round the loops

-- the edges along a walk weigh as much as the steps from its keys
zip-steps : (w : ℕ → ℕ → ℕ) (cs : List Curve) (n x : ℕ)
    → weight w (zip (steps cs (suc n) x) (steps cs n (next cs x) ++ after cs n (next cs x) ∷ []))
    ≡ total (λ k. w k (next cs k)) (steps cs (suc n) x)
unfolding steps
zip-steps w cs zero x = refl
zip-steps w cs (suc n) x = omega (arith, zip-steps w cs n (next cs x))

-- the edges round an orbit weigh as much as the steps from its keys, since the last step leads to the first key
weight-orbit : (w : ℕ → ℕ → ℕ) {cs : List Curve} → IsPaired cs → (key : ℕ) → Has (starting cs) key
    → weight w (edges_round (orbit cs key)) ≡ total (λ k. w k (next cs k)) (orbit cs key)
weight-orbit w {cs} paired key from =
    let turn = orbit-turn paired key from in
    let n = turn.0 in
    let walk : orbit cs key ≡ key ∷ steps cs n (next cs key) = turn.1.walk ∙ steps_more cs n key in
    subst (λ ks. weight w (edges_round ks) ≡ total (λ k. w k (next cs k)) ks) (sym walk)
    (subst (λ k. weight w (zip (key ∷ steps cs n (next cs key))
    (steps cs n (next cs key) ++ k ∷ [])) ≡ total (λ k. w k (next cs k))
    (key ∷ steps cs n (next cs key))) turn.1.again.there
    (subst (λ ks. weight w (zip ks (steps cs n (next cs key) ++ after cs n (next cs key) ∷ []))
    ≡ total (λ k. w k (next cs k)) ks) (steps_more cs n key) (zip-steps w cs n key)))

-- the same of the edges round several orbits
weight-orbits : (w : ℕ → ℕ → ℕ) {cs : List Curve} → IsPaired cs → (ks : List ℕ)
    → ((k : ℕ) → Has ks k → Has (starting cs) k)
    → weight w (all_edges (map (orbit cs) ks)) ≡ total (λ k. w k (next cs k)) (orbit_keys cs ks)
weight-orbits w {cs} paired [] from = refl
weight-orbits w {cs} paired (k ∷ ks) from =
    omega (
      arith,
      weight-append w (edges_round (orbit cs k)) (all_edges (map (orbit cs) ks)),
      weight-orbit w paired k (from k (omega (arith, hit_cases k k))),
      weight-orbits w paired ks (λ j has. from j (omega arith)),
      total-append (λ k. w k (next cs k)) (orbit cs k) (orbit_keys cs ks),
    )

-- curves weigh as much as the edges from their starts to what f gives for them
weight-curves : (w : ℕ → ℕ → ℕ) (f : ℕ → ℕ) (ds : List Curve) → map f (starting ds) ≡ ending ds
    → weight w (curve_edges ds) ≡ total (λ k. w k (f k)) (starting ds)
weight-curves w f [] e = refl
weight-curves w f (d ∷ ds) e =
    let head : f d.start ≡ d.end = cc in
    let rest : map f (starting ds) ≡ ending ds = cc in
    omega (arith, weight-curves w f ds rest, ap (w d.start) head)

-- the field `round`: the edges round the loops are the curves, each as often
orbits-round : {cs : List Curve} → IsPaired cs
    → AreAsOften (all_edges (map (orbit cs) (firsts cs))) (curve_edges cs)
orbits-round {cs} paired w =
    omega (
      arith,
      weight-orbits w paired (firsts cs) (firsts-start cs),
      total-same (λ k. w k (next cs k)) (orbit_keys cs (firsts cs)) (starting cs)
          (loop_keys-count paired),
      weight-curves w (next cs) cs (map-next cs paired.once),
    )

-- ---- their first keys

-- the field `least`: a loop begins with its least key
orbit-least : {cs : List Curve} → IsPaired cs → (key : ℕ) → Has (firsts cs) key
    → BeginsWithLeast (orbit cs key)
orbit-least {cs} paired key has =
    let from = firsts-start cs key has in
    let turn = orbit-turn paired key from in
    let rest = steps cs turn.0 (next cs key) in
    let walk : orbit cs key ≡ key ∷ rest = turn.1.walk ∙ steps_more cs turn.0 key in
    let above : (z : ℕ) → Has rest z → key < z = λ z in_rest.
    let low : key ≤ z = firsts-least cs key z has
    (subst (λ ks. Has ks z) (sym walk) (omega (arith, in_rest))) in
    ⊎_elim
    (λ e. absurd (omega (arith, in_rest, turn.1.again.fresh, ap (λ k. count_of k rest) e)))
    (λ ne. omega (arith, low, ne))
    (cases_eq z key) in
    subst BeginsWithLeast (sym walk) (AllByRecursion-from (λ k. key < k) rest above)

-- what holds of the orbit of each key of a list
All-orbits : (P : List ℕ → Type 0) (cs : List Curve) (ks : List ℕ)
    → ((k : ℕ) → Has ks k → P (orbit cs k)) → AllByRecursion P (map (orbit cs) ks)
All-orbits P cs [] each = tt
All-orbits P cs (k ∷ ks) each = (
  each k (omega (arith, hit_cases k k)),
  All-orbits P cs ks (λ j has. each j (omega arith)),
)

-- for the field `rising`: the first keys of orbits are the keys from which they are told
first_keys-orbits : (cs : List Curve) (ks : List ℕ) → first_keys (map (orbit cs) ks) ≡ ks
first_keys-orbits cs [] = refl
first_keys-orbits cs (k ∷ ks) =
    let head : take 1 (orbit cs k) ≡ k ∷ [] = ap (take 1) (orbit_is cs k) in
    ap (λ front. front ++ first_keys (map (orbit cs) ks)) head
    ∙ ap (λ rest. k ∷ rest) (first_keys-orbits cs ks)

-- numbers in a row rise
range-rises : (a n : ℕ) → IsStrictlyIncreasing (range_with_len a n)
range-rises a n k within =
    let long = length-range_with_len a n in
    omega (
      arith,
      get_or-range_with_len a n k 0 (omega arith),
      get_or-range_with_len a n (k + 1) 0 (omega arith),
    )

-- the loops of paired curves are their orbits
pub loops_of-orbits : {cs : List Curve} → IsPaired cs → AreOrbits cs (loops_of cs)
loops_of-orbits {cs} paired =
    subst (AreOrbits cs) (sym (loops_of_is cs)) (record {
      round = orbits-round paired;
      least = All-orbits BeginsWithLeast cs (firsts cs) (orbit-least paired);
      rising = subst IsStrictlyIncreasing (sym (first_keys-orbits cs (firsts cs)))
          (IsStrictlyIncreasing-filter (λ key. starts cs key && is_least cs key) key_numbers
          (range-rises 0 16));
    })

-- ---- their sizes

-- for the sizes: no key starts more curves than it is among the 16 numbers
starting-few : {cs : List Curve} → IsPaired cs → (z : ℕ)
    → count_of z (starting cs) ≤ count_of z key_numbers
starting-few {cs} paired z =
    ⊎_elim
    (λ none. omega (arith, none))
    (λ some. omega (
      arith,
      paired.once z,
      count_of-range 0 16 z (omega arith) (paired.below z some),
    ))
    (none_or_some (count_of z (starting cs)))

-- the loops of paired curves have at most 16 keys together
pub loop_keys-short : {cs : List Curve} → IsPaired cs
    → length (flat_map (λ keys. keys) (loops_of cs)) ≤ 16
loop_keys-short {cs} paired =
    subst (λ ls. length (flat_map (λ keys. keys) ls) ≤ 16) (sym (loops_of_is cs))
    (length-le_count (orbit_keys cs (firsts cs)) key_numbers
    (λ z. omega (arith, loop_keys-count paired z, starting-few paired z)))

-- of each orbit that is a loop
loops_of-all : (P : List ℕ → Type 0) (cs : List Curve)
    → ((k : ℕ) → Has (starting cs) k → P (orbit cs k)) → AllByRecursion P (loops_of cs)
loops_of-all P cs each = subst (AllByRecursion P) (sym (loops_of_is cs))
    (All-orbits P cs (firsts cs) (λ k has. each k (firsts-start cs k has)))

-- the keys in the loops of paired curves are below 16
pub loops_of-below : {cs : List Curve} → IsPaired cs
    → AllByRecursion (λ keys. AllByRecursion (λ k. k < 16) keys) (loops_of cs)
loops_of-below {cs} paired =
    loops_of-all (AllByRecursion (λ k. k < 16)) cs
    (λ key from. AllByRecursion-from (λ k. k < 16) (orbit cs key)
    (λ k has. paired.below k (orbit-starts paired key k from has)))

-- an orbit that neither one step nor two lead round has three keys
orbit-three : {cs : List Curve} → IsPaired cs → (key : ℕ) → Has (starting cs) key
    → next cs key ≢ key → next cs (next cs key) ≢ key → (n : ℕ) → IsOrbit cs key n
    → 3 ≤ length (orbit cs key)
orbit-three paired key from one two zero turn = absurd (one turn.again.there)
orbit-three paired key from one two (suc zero) turn = absurd (two turn.again.there)
orbit-three {cs} paired key from one two (suc (suc n)) turn =
    omega (arith, ap length turn.walk, length-steps cs (suc (suc (suc n))) key)

-- where no one or two steps lead back to a key, each loop has three keys
pub loops_of-three : {cs : List Curve} → IsPaired cs
    → ((k : ℕ) → Has (starting cs) k → next cs k ≢ k)
    → ((k : ℕ) → Has (starting cs) k → next cs (next cs k) ≢ k)
    → AllByRecursion (λ keys. 3 ≤ length keys) (loops_of cs)
loops_of-three {cs} paired one two =
    loops_of-all (λ keys. 3 ≤ length keys) cs (λ key from. let turn = orbit-turn paired key from in
    orbit-three paired key from (one key from) (two key from) turn.0 turn.1)

-- lists of three keys and more have three times as many keys as there are lists
pub three_times : (ls : List (List ℕ)) → AllByRecursion (λ keys. 3 ≤ length keys) ls
    → 3 * length ls ≤ length (flat_map (λ keys. keys) ls)
three_times [] all = omega arith
three_times (keys ∷ ls) all = omega (
  arith,
  three_times ls all.1,
  all.0,
  length-append keys (flat_map (λ ks. ks) ls),
)
