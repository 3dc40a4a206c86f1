-- One edge more.
use Rattle.std.proofs.Common.{◌≡◌, ◌+◌, ◌<◌, ◌++◌, [], ◌∷◌, length, false, cond, sym, ap, ◌∙◌, arith, get_or, refl}
use Rattle.std.specs.Prelude.{List, Some, is_some, slice_get}
use Rattle.std.specs.List.{list_any}
use Rattle.std.proofs.lemmas.List.{length-map}
use Rattle.std.proofs.lemmas.List.Quantifiers.{position-Some}
use Rattle.std.proofs.lemmas.Option.{get_or_from_slice_get}
use Rattle.audits.specs.Audit.{pairs_of}
use Rattle.audits.specs.Tally.{uses_of}
use Rattle.audits.proofs.TallyLemmas.{Apart-back, Pair, back_of, goes-back, goes-self, uses_along, uses_back}
use Rattle.audits.proofs.TallySteps.{IsTallyOf-known, IsTallyOf-loop, IsTallyOf-new, all-apart, differ, is_pair, key_tells, not-false, not-true, pair_tells, some-inside, times-few, uses-read}
use Rattle.audits.proofs.tally.Tally.add_edge.Goals as goal
use Rattle.audits.proofs.tally.Tally.add_edge.Goals.{In_ok-place}

pub returns-then-eq : goal.returns-then-eq
returns-then-eq c edges =
    let same = key_tells c.args.from c.args.to (sym c.eq.ensures ∙ c.if-eq.true) in
    IsTallyOf-loop c.keys_are_told_apart.ensures c.args.self.now edges (c.args.from, c.args.to) same

pub overflow_add-index_mut : goal.overflow_add-index_mut
overflow_add-index_mut c =
    let keys = c.args.self.now.pairs.keys in
    let e : Pair = (c.args.from, c.args.to) in
    let edges = c.requires.edges in
    let at = position-Some (is_pair (back_of e)) keys c.in-Some.place e
    (sym c.get_index_of.ensures.index ∙ c.in-Some.is) in
    let read = uses-read c.args.self.now edges c.in-Some.place e c.index_mut.result.now
    c.requires.counts at.0 c.index_mut.ensures.value in
    let q = get_or keys c.in-Some.place e in
    omega (arith, ap (λ (u : _). u.back) read, times-few q.1 q.0 edges, c.requires.few)

pub returns-in-Some : goal.returns-in-Some
returns-in-Some c edges counts =
    let keys = c.args.self.now.pairs.keys in
    let e : Pair = (c.args.from, c.args.to) in
    let tells = c.keys_are_told_apart.ensures in
    let at = position-Some (is_pair (back_of e)) keys c.in-Some.place e
    (sym c.get_index_of.ensures.index ∙ c.in-Some.is) in
    let there = pair_tells (back_of e) (get_or keys c.in-Some.place e) at.1 in
    let read = uses-read c.args.self.now edges c.in-Some.place e c.index_mut.result.now
    counts at.0 c.index_mut.ensures.value ∙ ap (uses_of edges) there in
    let proper = differ c.args.from c.args.to (sym c.eq.ensures ∙ c.if-eq.false) in
    IsTallyOf-known tells c.args.self.now _ edges e (back_of e) c.in-Some.place _
    (λ p apart. Apart-back p (back_of e) apart) (goes-back tells e) at.0 there refl refl
    ((λ i. record { along = (read i).along; back = (read i).back + 1 })
    ∙ uses_back tells edges e proper) counts

-- the pairs so far
known : (c : In_ok-place) → List Pair
known c = c.args.self.now.pairs.keys

-- the edge at hand
edge : (c : In_ok-place) → Pair
edge c = (c.args.from, c.args.to)

none-back : (c : In_ok-place) → list_any (is_pair (back_of (edge c))) (known c) ≡ false
unfolding known edge
none-back c = sym c.get_index_of.ensures.found ∙ ap is_some c.in_default.is

keys-are : (c : In_ok-place) → c.insert_full.new.self.keys
    ≡ cond (list_any (is_pair (edge c)) (known c)) (known c) (known c ++ edge c ∷ [])
unfolding known edge
keys-are c = c.in_ok-place.ensures.keys

-- a pair that is among the others stands at the place
record IsThere (c : In_ok-place) : Type 0 where
  keys : c.insert_full.new.self.keys ≡ known c
  inside : c.in_ok-place.place < length (known c)
  at : get_or (known c) c.in_ok-place.place (edge c) ≡ edge c

is-there : (c : In_ok-place) → c.in_ok-place.is_new ≡ false → IsThere c
unfolding known edge
is-there c old =
    let any = not-false (list_any (is_pair (edge c)) (known c))
    (sym c.in_ok-place.ensures.added ∙ old) in
    let same : c.insert_full.new.self.keys ≡ known c =
    keys-are c ∙ ap (λ b. cond b (known c) (known c ++ edge c ∷ [])) any in
    let stored = c.in_ok-place.ensures.stored in
    let p : Pair = stored.0 in
    let got : slice_get (known c) c.in_ok-place.place ≡ Some p =
    ap (λ (ps : List Pair). slice_get ps c.in_ok-place.place) (sym same) ∙ stored.1 in
    record {
      keys = same;
      inside = some-inside (known c) c.in_ok-place.place p got;
      at = get_or_from_slice_get (known c) c.in_ok-place.place p (edge c) got
          ∙ pair_tells (edge c) p stored.2;
    }

pub returns-then-is_new : goal.returns-then-is_new
unfolding known edge
returns-then-is_new c edges counts =
    let d = (goal.at.returns-then-is_new c).In_ok-place in
    let none = not-true (list_any (is_pair (edge d)) (known d))
    (sym c.in_ok-place.ensures.added ∙ c.if-is_new.true) in
    IsTallyOf-new c.keys_are_told_apart.ensures c.args.self.now _ edges (edge d)
    (differ c.args.from c.args.to (sym c.eq.ensures ∙ c.if-eq.false))
    (all-apart (edge d) (known d) none (none-back d))
    (keys-are d ∙ ap (λ b. cond b (known d) (known d ++ edge d ∷ [])) none)
    c.in_ok-push.ensures.items counts

pub index_mut-requires-2 : goal.index_mut-requires-2
unfolding known edge
index_mut-requires-2 c =
    let d = (goal.at.index_mut-requires-2 c).In_ok-place in
    let there = is-there d c.if-is_new.false in
    let counts = c.requires.counts in
    let long = ap length counts.uses
    ∙ length-map (pairs_of c.requires.edges) (uses_of c.requires.edges)
    ∙ ap length (sym counts.pairs) in
    grind (arith, there.inside, long)

pub overflow_add-index_mut-2 : goal.overflow_add-index_mut-2
unfolding known edge
overflow_add-index_mut-2 c =
    let d = (goal.at.overflow_add-index_mut-2 c).In_ok-place in
    let there = is-there d c.if-is_new.false in
    let edges = c.requires.edges in
    let read = uses-read c.args.self.now edges c.in_ok-place.place (edge d)
    c.index_mut-2.result.now c.requires.counts there.inside c.index_mut-2.ensures.value in
    let q = get_or (known d) c.in_ok-place.place (edge d) in
    omega (arith, ap (λ (u : _). u.along) read, times-few q.0 q.1 edges, c.requires.few)

pub returns : goal.returns
unfolding known edge
returns c edges counts =
    let d = (goal.at.returns c).In_ok-place in
    let there = is-there d c.if-is_new.false in
    let tells = c.keys_are_told_apart.ensures in
    let read = uses-read c.args.self.now edges c.in_ok-place.place (edge d)
    c.index_mut-2.result.now counts there.inside c.index_mut-2.ensures.value
    ∙ ap (uses_of edges) there.at in
    IsTallyOf-known tells c.args.self.now _ edges (edge d) (edge d) c.in_ok-place.place _
    (λ p apart. apart) (goes-self tells (edge d)) there.inside there.at there.keys refl
    ((λ i. record { along = (read i).along + 1; back = (read i).back })
    ∙ uses_along tells edges (edge d)
    (differ c.args.from c.args.to (sym c.eq.ensures ∙ c.if-eq.false))) counts
