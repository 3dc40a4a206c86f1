-- Curves of which each key that starts one starts just one and ends just one: the steps from key to key go in circles,
-- and the circles part the keys (docs/rules.md, "Curves, loops and fans").
--
-- For `AreOrbits` and `LoopFrom`. One step takes starts to starts and keeps them apart. So keys until the first comes
-- again are all different (`steps-once`), and as all are below 16 it comes again within 16 steps (`orbit-turn`). Then
-- to be in an orbit is passed on (`orbit-trans`) and goes both ways (`orbit-sym`, by steps that lead on round the
-- circle).
use Rattle.std.proofs.Common.{◌≡◌, ◌≢◌, ◌⊎◌, ℕ, zero, suc, ◌+◌, ◌<◌, ◌≤◌, true, not, List, [], ◌∷◌, ◌++◌, arith, map, length, take_while, inl, inr, ⊎_elim, ◌==◌, sym, ap, ◌∙◌, refl, subst, eq-eqb, ne_eqb, eqb-true}
use Rattle.std.proofs.lemmas.Bool.{cases_eq, cond-true, cond-false, or_cases, or_left, or_right, true≢false, not_from_true, not_from_false}
use Rattle.std.proofs.lemmas.List.Sums.{take_while-cons}
use Rattle.terrain.specs.declared.curve.Curve.{Curve}
use Rattle.terrain.specs.Curves.{count_of, next, steps, orbit, starts, key_numbers}
use Rattle.face_curves.proofs.CountOf.{hit_cases, Has, none_or_some, count_of-append, length-le_count, count_of-range, count_of-map_two, count_of-map_one, count_of-map_apart}

-- the keys at which the curves start
abbrev pub starting : List Curve → List ℕ
starting cs = map (λ c. c.start) cs

-- the keys at which they end
abbrev pub ending : List Curve → List ℕ
ending cs = map (λ c. c.end) cs

-- no key starts two curves, each key ends as many as it starts, and a key that starts one is below 16
pub record IsPaired (cs : List Curve) : Type 0 where
  pub once : (k : ℕ) → count_of k (starting cs) ≤ 1
  pub even : (k : ℕ) → count_of k (ending cs) ≡ count_of k (starting cs)
  pub below : (k : ℕ) → Has (starting cs) k → k < 16

-- a key that passes the test starts a curve
pub Has-from_starts : (cs : List Curve) (key : ℕ) → starts cs key ≡ true → Has (starting cs) key
Has-from_starts [] key h = absurd (true≢false (sym h))
Has-from_starts (c ∷ cs) key h =
    ⊎_elim
    (λ a. omega (arith, hit_cases key c.start))
    (λ ne. ⊎_elim (λ t. absurd (ne.0 (eqb-true c.start key t)))
    (λ t. omega (arith, Has-from_starts cs key t))
    (or_cases (c.start == key) (starts cs key) h))
    (hit_cases key c.start)

-- a key that starts a curve passes the test
pub starts-from_Has : (cs : List Curve) (key : ℕ) → Has (starting cs) key → starts cs key ≡ true
starts-from_Has [] key has = absurd (omega arith)
starts-from_Has (c ∷ cs) key has =
    ⊎_elim
    (λ a. or_left (c.start == key) (starts cs key) (eq-eqb c.start key a.0))
    (λ a. or_right (c.start == key) (starts cs key) (starts-from_Has cs key (omega arith)))
    (hit_cases key c.start)

-- ---- one step

-- the next key after the start of the first curve is its end
pub next_here : (c : Curve) (cs : List Curve) (key : ℕ) → c.start ≡ key → next (c ∷ cs) key ≡ c.end
unfolding next
next_here c cs key e = cond-true (c.start == key) c.end (next cs key) (eq-eqb c.start key e)

-- the next key after any other start is that of the other curves
pub next_there : (c : Curve) (cs : List Curve) (key : ℕ) → c.start ≢ key
    → next (c ∷ cs) key ≡ next cs key
unfolding next
next_there c cs key ne = cond-false (c.start == key) c.end (next cs key) (ne_eqb c.start key ne)

-- a first curve that starts at none of the keys doesn't matter to what comes next after them
map-next_there : (c : Curve) (cs : List Curve) (ks : List ℕ) → count_of c.start ks ≡ 0
    → map (next (c ∷ cs)) ks ≡ map (next cs) ks
map-next_there c cs [] none = refl
map-next_there c cs (k ∷ ks) none =
    let ne : c.start ≢ k = λ e. absurd (omega (arith, hit_cases c.start k)) in
    let head : next (c ∷ cs) k ≡ next cs k = next_there c cs k ne in
    let rest : map (next (c ∷ cs)) ks ≡ map (next cs) ks = map-next_there c cs ks (omega arith) in
    cc

-- where no key starts two curves, the ends are what comes next after the starts
pub map-next : (cs : List Curve) → ((k : ℕ) → count_of k (starting cs) ≤ 1)
    → map (next cs) (starting cs) ≡ ending cs
map-next [] once = refl
map-next (c ∷ cs) once =
    let head : next (c ∷ cs) c.start ≡ c.end = next_here c cs c.start refl in
    let rest : map (next (c ∷ cs)) (starting cs) ≡ map (next cs) (starting cs) =
    map-next_there c cs (starting cs) (omega (arith, once c.start, hit_cases c.start c.start))
    in
    let more : map (next cs) (starting cs) ≡ ending cs = map-next cs (λ k. omega (arith, once k)) in
    cc

-- what comes next after a key that starts a curve ends one
pub next-ends : (cs : List Curve) (key : ℕ) → Has (starting cs) key → Has (ending cs) (next cs key)
next-ends [] key has = absurd (omega arith)
next-ends (c ∷ cs) key has =
    ⊎_elim
    (λ a. let e = next_here c cs key a.0 in omega (arith, hit_cases (next (c ∷ cs) key) c.end))
    (λ a. subst (Has (ending (c ∷ cs))) (sym (next_there c cs key a.0))
    (omega (arith, next-ends cs key (omega arith))))
    (hit_cases key c.start)

-- the next key after a start is a start again
pub next-starts : {cs : List Curve} → IsPaired cs → (key : ℕ) → Has (starting cs) key
    → Has (starting cs) (next cs key)
next-starts {cs} paired key has = omega (arith, next-ends cs key has, paired.even (next cs key))

-- two keys with one next are one key: else that next would end two curves
next-apart : {cs : List Curve} → IsPaired cs → (x y : ℕ) → Has (starting cs) x
    → Has (starting cs) y → next cs x ≡ next cs y → x ≡ y
next-apart {cs} paired x y hx hy e =
    ⊎_elim
    (λ same. same)
    (λ ne. absurd (omega (
      arith,
      count_of-map_two (next cs) x y (starting cs) ne e,
      ap (count_of (next cs x)) (map-next cs paired.once),
      paired.even (next cs x),
      paired.once (next cs x),
    )))
    (cases_eq x y)

-- ---- many steps

-- the key n steps on
abbrev pub after : List Curve → ℕ → ℕ → ℕ
after cs zero key = key
after cs (suc n) key = after cs n (next cs key)

-- i steps and then j more are i + j steps
after-after : (cs : List Curve) (i j key : ℕ)
    → after cs j (after cs i key) ≡ after cs (i + j) key
after-after cs zero j key =
    let same : j ≡ 0 + j = omega arith in
    ap (λ n. after cs n key) same
after-after cs (suc i) j key =
    let more : suc (i + j) ≡ suc i + j = omega arith in
    after-after cs i j (next cs key) ∙ ap (λ n. after cs n key) more

-- one step more at the front
pub steps_more : (cs : List Curve) (n key : ℕ)
    → steps cs (suc n) key ≡ key ∷ steps cs n (next cs key)
unfolding steps
steps_more cs n key = refl

-- so many steps give so many keys
pub length-steps : (cs : List Curve) (n key : ℕ) → length (steps cs n key) ≡ n
unfolding steps
length-steps cs zero key = refl
length-steps cs (suc n) key = omega (arith, length-steps cs n (next cs key))

-- a step from each of n keys of a walk gives the n keys that begin one step later
map-next-steps : (cs : List Curve) (n key : ℕ)
    → map (next cs) (steps cs n key) ≡ steps cs n (next cs key)
unfolding steps
map-next-steps cs zero key = refl
map-next-steps cs (suc n) key = ap (λ ks. next cs key ∷ ks) (map-next-steps cs n (next cs key))

-- one step more at the end
steps_end : (cs : List Curve) (n key : ℕ)
    → steps cs (suc n) key ≡ steps cs n key ++ after cs n key ∷ []
unfolding steps
steps_end cs zero key = refl
steps_end cs (suc n) key = ap (λ ks. key ∷ ks) (steps_end cs n (next cs key))

-- a walk from a start stays among the starts
steps-starts : {cs : List Curve} → IsPaired cs → (n key z : ℕ) → Has (starting cs) key
    → Has (steps cs n key) z → Has (starting cs) z
unfolding steps
steps-starts {cs} paired zero key z from has = absurd (omega arith)
steps-starts {cs} paired (suc n) key z from has =
    ⊎_elim
    (λ a. subst (Has (starting cs)) a.0 from)
    (λ a. steps-starts paired n (next cs key) z (next-starts paired key from) (omega arith))
    (hit_cases z key)

-- a key of a walk is the key some steps on
steps-after : (cs : List Curve) (n key z : ℕ) → Has (steps cs n key) z
    → (i : ℕ) × (after cs i key ≡ z)
unfolding steps
steps-after cs zero key z has = absurd (omega arith)
steps-after cs (suc n) key z has =
    ⊎_elim
    (λ a. (0, a.0))
    (λ a. let r = steps-after cs n (next cs key) z (omega arith) in (suc r.0, r.1))
    (hit_cases z key)

-- until a key comes again, no key comes twice
steps-once : {cs : List Curve} → IsPaired cs → (n key : ℕ) → Has (starting cs) key
    → count_of key (steps cs n (next cs key)) ≡ 0 → (z : ℕ) → count_of z (steps cs (suc n) key) ≤ 1
unfolding steps
steps-once {cs} paired zero key from fresh z = omega (arith, hit_cases z key)
steps-once {cs} paired (suc n) key from fresh z =
    let ks = steps cs (suc n) key in
    let parts = ap (count_of key) (steps_end cs n (next cs key))
    ∙ count_of-append key (steps cs n (next cs key)) (after cs n (next cs key) ∷ []) in
    let once : (k : ℕ) → count_of k ks ≤ 1 = steps-once paired n key from (omega (arith, parts)) in
    let apart : (x y : ℕ) → Has ks x → Has ks y → next cs x ≡ next cs y → x ≡ y =
    λ x y hx hy e. next-apart paired x y (steps-starts paired (suc n) key x from hx)
    (steps-starts paired (suc n) key y from hy) e in
    let moved : count_of z (map (next cs) ks) ≤ 1 = count_of-map_apart (next cs) ks apart once z in
    ⊎_elim
    (λ a. omega (arith, hit_cases z key, ap (λ k. count_of k (steps cs (suc n) (next cs key))) a.0))
    (λ a. omega (arith, ap (count_of z) (map-next-steps cs (suc n) key)))
    (hit_cases z key)

-- a key below 16 comes again within 16 steps
steps-short : {cs : List Curve} → IsPaired cs → (n key : ℕ) → Has (starting cs) key
    → count_of key (steps cs n (next cs key)) ≡ 0 → n < 16
steps-short {cs} paired n key from fresh =
    let fewer : (z : ℕ) → count_of z (steps cs (suc n) key) ≤ count_of z key_numbers =
    λ z. ⊎_elim
    (λ none. omega (arith, none))
    (λ some. omega (
      arith,
      steps-once paired n key from fresh z,
      count_of-range 0 16 z (omega arith)
          (paired.below z (steps-starts paired (suc n) key z from some)),
    ))
    (none_or_some (count_of z (steps cs (suc n) key))) in
    omega (
      arith,
      length-le_count (steps cs (suc n) key) key_numbers fewer,
      length-steps cs (suc n) key,
    )

-- the first n steps from a key go to `key` at the last, and not before
pub record ComesAt (cs : List Curve) (key n from : ℕ) : Type 0 where
  pub there : after cs n from ≡ key
  pub fresh : count_of key (steps cs n from) ≡ 0

-- among the first m steps, the key comes nowhere or at some n
steps-find : (cs : List Curve) (key m from : ℕ) → (count_of key (steps cs m from) ≡ 0)
    ⊎ ((n : ℕ) × (n < m) × ComesAt cs key n from
    × (take_while (λ k. not (k == key)) (steps cs m from) ≡ steps cs n from))
unfolding steps
steps-find cs key zero from = inl refl
steps-find cs key (suc m) from =
    ⊎_elim
    (λ a. inr (
      0,
      omega arith,
      record { there = a.0; fresh = refl },
      take_while-cons (λ k. not (k == key)) from (steps cs m (next cs from))
          ∙ cond-false _ _ _ (not_from_true _ (eq-eqb from key a.0)),
    ))
    (λ a. ⊎_elim
    (λ none. inl (omega (arith, none)))
    (λ some. inr (
      suc some.0,
      omega (arith, some.1),
      record { there = some.2.there; fresh = omega (arith, some.2.fresh) },
      take_while-cons (λ k. not (k == key)) from (steps cs m (next cs from))
          ∙ (cond-true _ _ _ (not_from_false _ (ne_eqb from key a.0))
          ∙ ap (λ ks. from ∷ ks) some.3),
    ))
    (steps-find cs key m (next cs from)))
    (hit_cases key from)

-- an orbit is its first key, and what comes until that key comes again
pub orbit_is : (cs : List Curve) (key : ℕ) → orbit cs key ≡ key ∷ take_while (λ k. not (k == key))
    (steps cs 16 (next cs key))
unfolding orbit
orbit_is cs key = refl

-- the orbit of a key that starts a curve: the key, and n more until it comes again
pub record IsOrbit (cs : List Curve) (key n : ℕ) : Type 0 where
  pub short : n < 16
  pub again : ComesAt cs key n (next cs key)
  pub walk : orbit cs key ≡ steps cs (suc n) key

-- an orbit of paired curves comes back to its first key after at most 16 steps
pub orbit-turn : {cs : List Curve} → IsPaired cs → (key : ℕ) → Has (starting cs) key
    → (n : ℕ) × IsOrbit cs key n
orbit-turn {cs} paired key from =
    ⊎_elim
    (λ none. absurd (omega (arith, steps-short paired 16 key from none)))
    (λ some. (
      some.0,
      record {
        short = some.1;
        again = some.2;
        walk = orbit_is cs key ∙ (ap (λ ks. key ∷ ks) some.3 ∙ sym (steps_more cs some.0 key));
      },
    ))
    (steps-find cs key 16 (next cs key))

-- ---- being in an orbit

-- an orbit has each key at most once
pub orbit-once : {cs : List Curve} → IsPaired cs → (key : ℕ) → Has (starting cs) key → (z : ℕ)
    → count_of z (orbit cs key) ≤ 1
orbit-once {cs} paired key from z =
    let turn = orbit-turn paired key from in
    subst (λ ks. count_of z ks ≤ 1) (sym turn.1.walk)
    (steps-once paired turn.0 key from turn.1.again.fresh z)

-- each key of an orbit starts a curve
pub orbit-starts : {cs : List Curve} → IsPaired cs → (key z : ℕ) → Has (starting cs) key
    → Has (orbit cs key) z → Has (starting cs) z
orbit-starts {cs} paired key z from has =
    let turn = orbit-turn paired key from in
    steps-starts paired (suc turn.0) key z from (subst (λ ks. Has ks z) turn.1.walk has)

-- an orbit has the key that it begins with
orbit-itself : (cs : List Curve) (key : ℕ) → Has (orbit cs key) key
orbit-itself cs key = subst (λ ks. Has ks key) (sym (orbit_is cs key))
    (omega (arith, hit_cases key key))

-- with a key an orbit has the next one: the step after its last key leads to its first
orbit-next : {cs : List Curve} → IsPaired cs → (key z : ℕ) → Has (starting cs) key
    → Has (orbit cs key) z → Has (orbit cs key) (next cs z)
orbit-next {cs} paired key z from has =
    let turn = orbit-turn paired key from in
    let n = turn.0 in let y = next cs z in let rest = steps cs n (next cs key) in
    let here : Has (steps cs (suc n) key) z = subst (λ ks. Has ks z) turn.1.walk has in
    let moved : count_of y (map (next cs) (steps cs (suc n) key))
    ≡ count_of y (steps cs (suc n) (next cs key)) =
    ap (count_of y) (map-next-steps cs (suc n) key) in
    let parts : count_of y (steps cs (suc n) (next cs key)) ≡ count_of y rest + count_of y
    (after cs n (next cs key) ∷ []) =
    ap (count_of y) (steps_end cs n (next cs key))
    ∙ count_of-append y rest (after cs n (next cs key) ∷ []) in
    let last : count_of y (after cs n (next cs key) ∷ []) ≡ count_of y (key ∷ []) =
    ap (λ k. count_of y (k ∷ [])) turn.1.again.there in
    let whole : count_of y (steps cs (suc n) key) ≡ count_of y (key ∷ rest) =
    ap (count_of y) (steps_more cs n key) in
    subst (λ ks. Has ks y) (sym turn.1.walk) (omega (
      arith,
      here,
      count_of-map_one (next cs) z (steps cs (suc n) key),
      moved,
      parts,
      last,
      whole,
    ))

-- with a key an orbit has all that come after it
orbit-after : {cs : List Curve} → IsPaired cs → (key i z : ℕ) → Has (starting cs) key
    → Has (orbit cs key) z → Has (orbit cs key) (after cs i z)
orbit-after paired key zero z from has = has
orbit-after {cs} paired key (suc i) z from has =
    orbit-after paired key i (next cs z) from (orbit-next paired key z from has)

-- a key of an orbit is some steps on from its first key
after-orbit : {cs : List Curve} → IsPaired cs → (key z : ℕ) → Has (starting cs) key
    → Has (orbit cs key) z → (i : ℕ) × (after cs i key ≡ z)
after-orbit {cs} paired key z from has =
    let turn = orbit-turn paired key from in
    steps-after cs (suc turn.0) key z (subst (λ ks. Has ks z) turn.1.walk has)

-- a key of an orbit's key's orbit is in the orbit
pub orbit-trans : {cs : List Curve} → IsPaired cs → (x y z : ℕ) → Has (starting cs) x
    → Has (orbit cs x) y → Has (orbit cs y) z → Has (orbit cs x) z
orbit-trans {cs} paired x y z from xy yz =
    let way = after-orbit paired y z (orbit-starts paired x y from xy) yz in
    subst (Has (orbit cs x)) way.1 (orbit-after paired x way.0 y from xy)

-- from where i steps lead, some steps lead back
after-back : {cs : List Curve} → IsPaired cs → (i key : ℕ) → Has (starting cs) key
    → (j : ℕ) × (after cs j (after cs i key) ≡ key)
after-back paired zero key from = (0, refl)
after-back {cs} paired (suc i) key from =
    let turn = orbit-turn paired key from in
    let back = after-back paired i (next cs key) (next-starts paired key from) in (
      back.0 + turn.0,
      sym (after-after cs back.0 turn.0 (after cs i (next cs key)))
          ∙ (ap (after cs turn.0) back.1 ∙ turn.1.again.there),
    )

-- a key has those keys in its orbit whose orbits have it
pub orbit-sym : {cs : List Curve} → IsPaired cs → (x y : ℕ) → Has (starting cs) x
    → Has (orbit cs x) y → Has (orbit cs y) x
orbit-sym {cs} paired x y from xy =
    let way = after-orbit paired x y from xy in
    let back = after-back paired way.0 x from in
    let home : after cs back.0 y ≡ x = subst (λ k. after cs back.0 k ≡ x) way.1 back.1 in
    subst (Has (orbit cs y)) home (orbit-after paired y back.0 y (orbit-starts paired x y from xy)
    (orbit-itself cs y))
