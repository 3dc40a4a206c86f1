-- A walk along an orbit, and what it finds: the loop that is listed from a key, or that there is none.
--
-- For the loop of `Followers::loop_from`, whose invariant is `Walked`: at a key the walk has listed the orbit so far,
-- and nothing below the first key. It ends in three ways, each a lemma: the table has no follower (`Walked-none`; then
-- no curve starts at the first key, since an orbit of 16 keys that gets stuck would be too long), the walk is back
-- (`Walked-turn`), or it comes to a lesser key, so that the loop is told from there (`Walked-below`). Else it goes on
-- (`Walked-on`).
use Rattle.std.proofs.Common.{◌≡◌, ◌≢◌, ℕ, ◌+◌, ◌<◌, ◌≤◌, zero, suc, Bool, true, false, not, ◌&&◌, ◌||◌, ◌==◌, nat_le, ◌⊎◌, ⊎_elim, inl, inr, Option, Some, None, List, [], ◌∷◌, ◌++◌, length, cond, eq-eqb, ne_eqb, refl, sym, ap, ◌∙◌, arith}
use Rattle.std.specs.List.{take_while, list_all}
use Rattle.std.proofs.lemmas.List.{append_assoc, length-append}
use Rattle.std.proofs.lemmas.List.Sums.{take_while-cons}
use Rattle.std.proofs.lemmas.List.Folds.{list_all-append}
use Rattle.std.proofs.lemmas.Bool.{le-leb, lt-leb}
use Rattle.arrayvec.specs.ArrayVec.{ArrayVec}
use Rattle.terrain.specs.declared.curve.Curve.{Curve}
use Rattle.terrain.specs.Curves.{starts, next, steps, orbit, is_least}
use Rattle.face_curves.specs.Followers.{follower, begins_loop, loop_from}
use Rattle.face_curves.proofs.Orbit.{steps_more, orbit_is}

-- what of the orbit comes after a key, in n more steps
abbrev pub rest_from : List Curve → ℕ → ℕ → ℕ → List ℕ
rest_from cs key n at = take_while (λ k. not (k == key)) (steps cs n (next cs at))

-- the next of the keys that come, unfolded
rest_from-more : (cs : List Curve) (key n at : ℕ)
    → rest_from cs key (suc n) at ≡ cond (not (next cs at == key))
    (next cs at ∷ rest_from cs key n (next cs at)) []
rest_from-more cs key n at = ap (take_while (λ k. not (k == key))) (steps_more cs n (next cs at))
    ∙ take_while-cons (λ k. not (k == key)) (next cs at) (steps cs n (next cs (next cs at)))

-- nothing comes after a key whose next is the first
pub rest_from-turn : (cs : List Curve) (key n at : ℕ) → next cs at ≡ key
    → rest_from cs key (suc n) at ≡ []
rest_from-turn cs key n at turn = rest_from-more cs key n at
    ∙ ap (λ b. cond (not b) (next cs at ∷ rest_from cs key n (next cs at)) [])
    (eq-eqb (next cs at) key turn)

-- where the next isn't the first key, it is the next to come
rest_from-on : (cs : List Curve) (key n at : ℕ) → next cs at ≢ key
    → rest_from cs key (suc n) at ≡ next cs at ∷ rest_from cs key n (next cs at)
rest_from-on cs key n at other = rest_from-more cs key n at
    ∙ ap (λ b. cond (not b) (next cs at ∷ rest_from cs key n (next cs at)) [])
    (ne_eqb (next cs at) key other)

-- a key whose next is itself never comes round to another
rest_from-stuck : (cs : List Curve) (key n at : ℕ) → next cs at ≡ at → at ≢ key
    → length (rest_from cs key n at) ≡ n
unfolding steps
rest_from-stuck cs key zero at stuck other = refl
rest_from-stuck cs key (suc n) at stuck other =
    ap length (rest_from-on cs key n at (λ e. other (sym stuck ∙ e)))
    ∙ ap suc (ap (λ k. length (rest_from cs key n k)) stuck
    ∙ rest_from-stuck cs key n at stuck other)

-- at a key the walk has so far listed some keys, none below the first, and they begin the orbit
pub record Walked (cs : List Curve) (key : ℕ) (keys : List ℕ) (at left : ℕ) : Type 0 where
  pub so_far : orbit cs key ≡ keys ++ at ∷ rest_from cs key left at
  pub above : list_all (λ k. nat_le key k) keys ≡ true
  pub here : key ≤ at
  pub count : length keys + left ≡ 16
  pub first : left ≡ 16 → at ≡ key
  pub moved : left < 16 → (at ≢ key) × (starts cs key ≡ true)

-- the walk begins at the first key
pub Walked-first : (cs : List Curve) (key : ℕ) → Walked cs key [] key 16
Walked-first cs key = record {
  so_far = orbit_is cs key;
  above = refl;
  here = omega arith;
  count = refl;
  first = λ _. refl;
  moved = λ lt. absurd (omega arith);
}

-- the key is the first, or the walk has moved
first_or_moved : (left : ℕ) → left ≤ 16 → (left ≡ 16) ⊎ (left < 16)
first_or_moved left within = grind arith

-- the follower of a key is the end of the curve that starts there, or there is none
follower-cases : (cs : List Curve) (at : ℕ)
    → ((starts cs at ≡ true) × (follower cs at ≡ Some (next cs at)))
    ⊎ ((starts cs at ≡ false) × (follower cs at ≡ None))
follower-cases cs at = go (starts cs at) refl
  where
    go : (b : Bool) → starts cs at ≡ b
        → ((starts cs at ≡ true) × (follower cs at ≡ Some (next cs at)))
        ⊎ ((starts cs at ≡ false) × (follower cs at ≡ None))
    go true e = inl (e, ap (λ b. cond {A = Option ℕ} b (Some (next cs at)) None) e)
    go false e = inr (e, ap (λ b. cond {A = Option ℕ} b (Some (next cs at)) None) e)

-- the end of a first curve that doesn't start at the key isn't taken
passed_over : (b s : Bool) (end rest key : ℕ) → (b || s) ≡ false → (s ≡ false → rest ≡ key)
    → cond b end rest ≡ key
passed_over true s end rest key none then' = cc
passed_over false s end rest key none then' = then' none

-- a key at which no curve starts is its own next
pub next-none : (cs : List Curve) (key : ℕ) → starts cs key ≡ false → next cs key ≡ key
unfolding next
next-none [] key none = refl
next-none (c ∷ cs) key none = passed_over (c.start == key) (starts cs key) c.end (next cs key)
    key none (λ e. next-none cs key e)

-- no loop is listed from the key
loop_from-none : (cs : List Curve) (key : ℕ) → begins_loop cs key ≡ false → loop_from cs key ≡ None
loop_from-none cs key none =
    ap (λ b. cond {A = Option (ArrayVec ℕ)} b (Some (record { items = orbit cs key })) None) none

-- a loop is listed from the key
loop_from-some : (cs : List Curve) (key : ℕ) (keys : ArrayVec ℕ) → begins_loop cs key ≡ true
    → keys.items ≡ orbit cs key → Some keys ≡ loop_from cs key
loop_from-some cs key keys begins same =
    ap (λ items. let v : ArrayVec ℕ = record { items = items } in Some v) same
    ∙ sym (ap (λ b. cond {A = Option (ArrayVec ℕ)} b (Some (record { items = orbit cs key }))
    None) begins)

-- the table has nothing at the key at hand
pub Walked-none : (cs : List Curve) (key : ℕ) (keys : List ℕ) (at left : ℕ) → left ≤ 16
    → Walked cs key keys at left → length (orbit cs key) ≤ 16 → follower cs at ≡ None
    → None ≡ loop_from cs key
Walked-none cs key keys at left within walked short none =
    ⊎_elim
    (λ some. absurd (let e : Some (next cs at) ≡ None = sym some.1 ∙ none in let no : ⊥ = cc in no))
    (λ gone. ⊎_elim
    (λ begun. sym (loop_from-none cs key (ap (λ b. b && is_least cs key)
    (ap (starts cs) (sym (walked.first begun)) ∙ gone.0))))
    (λ moved. absurd (omega (
      arith,
      walked.count,
      short,
      ap length walked.so_far,
      length-append keys (at ∷ rest_from cs key left at),
      rest_from-stuck cs key left at (next-none cs at gone.0) (walked.moved moved).0,
    )))
    (first_or_moved left within))
    (follower-cases cs at)

-- a follower of a key is the end of the curve that starts there
some_next : (cs : List Curve) (at end : ℕ) → follower cs at ≡ Some end
    → (starts cs at ≡ true) × (next cs at ≡ end)
some_next cs at end some =
    ⊎_elim
    (λ there. let e : Some (next cs at) ≡ Some end = sym there.1 ∙ some in (there.0, cc))
    (λ gone. absurd (let e : None ≡ Some end = sym gone.1 ∙ some in let no : ⊥ = cc in no))
    (follower-cases cs at)

-- where a curve starts at the key at hand, one starts at the first key
Walked-starts : (cs : List Curve) (key : ℕ) (keys : List ℕ) (at left : ℕ) → left ≤ 16
    → Walked cs key keys at left → starts cs at ≡ true → starts cs key ≡ true
Walked-starts cs key keys at left within walked there =
    ⊎_elim (λ begun. ap (starts cs) (sym (walked.first begun))
    ∙ there) (λ moved. (walked.moved moved).1) (first_or_moved left within)

-- the listed keys stay at or above the first
above_more : (key at : ℕ) (keys : List ℕ) → list_all (λ k. nat_le key k) keys ≡ true → key ≤ at
    → list_all (λ k. nat_le key k) (keys ++ at ∷ []) ≡ true
above_more key at keys above here =
    list_all-append (λ k. nat_le key k) keys (at ∷ [])
    ∙ ap (λ b. b && list_all (λ k. nat_le key k) (at ∷ [])) above
    ∙ ap (λ b. b && true) (le-leb key at here)

-- the walk is back at the first key
pub Walked-turn : (cs : List Curve) (key : ℕ) (keys : List ℕ) (at left : ℕ) (listed : ArrayVec ℕ)
    → 0 < left → left ≤ 16 → Walked cs key keys at left → follower cs at ≡ Some key
    → listed.items ≡ keys ++ at ∷ [] → Some listed ≡ loop_from cs key
Walked-turn cs key keys at zero listed more within walked some list = absurd (omega arith)
Walked-turn cs key keys at (suc left) listed more within walked some list =
    let there = some_next cs at key some in
    let all : orbit cs key ≡ keys ++ at ∷ [] = walked.so_far
    ∙ ap (λ ks. keys ++ at ∷ ks) (rest_from-turn cs key left at there.1) in
    let least : is_least cs key ≡ true = ap (list_all (λ k. nat_le key k)) all
    ∙ above_more key at keys walked.above walked.here in
    loop_from-some cs key listed (ap (λ b. b && is_least cs key)
    (Walked-starts cs key keys at (suc left) within walked there.0) ∙ least) (list ∙ sym all)

-- the walk comes to a key below the first
pub Walked-below : (cs : List Curve) (key : ℕ) (keys : List ℕ) (at left end : ℕ) → 0 < left
    → left ≤ 16 → Walked cs key keys at left → follower cs at ≡ Some end → end < key
    → None ≡ loop_from cs key
Walked-below cs key keys at zero end more within walked some below = absurd (omega arith)
Walked-below cs key keys at (suc left) end more within walked some below =
    let there = some_next cs at end some in
    let all : orbit cs key ≡ keys ++ at ∷ end ∷ rest_from cs key left end =
    walked.so_far ∙ ap (λ ks. keys ++ at ∷ ks)
    (rest_from-on cs key left at (λ e. omega (arith, there.1))
    ∙ ap (λ k. k ∷ rest_from cs key left k) there.1) in
    let test = λ (k : ℕ). nat_le key k in
    let least : is_least cs key ≡ false =
    ap (list_all test) all ∙ list_all-append test keys (at ∷ end ∷ rest_from cs key left end)
    ∙ ap (λ b. list_all test keys
    && (test at && (b && list_all test (rest_from cs key left end)))) (lt-leb key end below)
    ∙ both_false (list_all test keys) (test at) in
    sym (loop_from-none cs key (ap (λ b. starts cs key && b) least ∙ one_false (starts cs key)))
  where
    one_false : (b : Bool) → (b && false) ≡ false
    one_false true = refl
    one_false false = refl

    both_false : (b d : Bool) → (b && (d && false)) ≡ false
    both_false true d = one_false d
    both_false false d = refl

-- the walk goes on
pub Walked-on : (cs : List Curve) (key : ℕ) (keys : List ℕ) (at left end : ℕ)
    → Walked cs key keys at (suc left) → suc left ≤ 16 → follower cs at ≡ Some end → end ≢ key
    → key ≤ end → Walked cs key (keys ++ at ∷ []) end left
Walked-on cs key keys at left end walked within some other above =
    let there = some_next cs at end some in
    record {
      so_far = walked.so_far ∙ ap (λ ks. keys ++ at ∷ ks)
          (rest_from-on cs key left at (λ e. other (sym there.1 ∙ e))
          ∙ ap (λ k. k ∷ rest_from cs key left k) there.1)
          ∙ sym (append_assoc keys (at ∷ []) (end ∷ rest_from cs key left end));
      above = above_more key at keys walked.above walked.here;
      here = above;
      count = omega (arith, walked.count, length-append keys (at ∷ []));
      first = λ begun. absurd (omega arith);
      moved = λ _. (other, Walked-starts cs key keys at (suc left) within walked there.0);
    }

-- what the walk found says whether a loop is listed from the key
pub found_some : (cs : List Curve) (key : ℕ) (keys : ArrayVec ℕ) → Some keys ≡ loop_from cs key
    → (begins_loop cs key ≡ true) × (keys.items ≡ orbit cs key)
found_some cs key keys = go (begins_loop cs key)
  where
    go : (b : Bool) → Some keys ≡ cond {A = Option (ArrayVec ℕ)} b
        (Some (record { items = orbit cs key })) None → (b ≡ true) × (keys.items ≡ orbit cs key)
    go true e = (refl, cc)
    go false e = cc

-- where the walk finds no loop, none is listed from the key
pub found_none : (cs : List Curve) (key : ℕ) → None ≡ loop_from cs key → begins_loop cs key ≡ false
found_none cs key = go (begins_loop cs key)
  where
    go : (b : Bool) → None ≡ cond {A = Option (ArrayVec ℕ)} b
        (Some (record { items = orbit cs key })) None → b ≡ false
    go true e = cc
    go false e = refl
