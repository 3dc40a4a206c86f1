-- The tally that the code keeps with one edge more is that of the edges with it.
-- First the code's own test of pairs: it passes for equal pairs alone (pair_tells), and where it fails both ways round
-- for all known pairs, the edge is apart from them (all-apart). Then the three ways of `add_edge`, each by its lemma of
-- TallyLemmas: an edge from a key to itself (IsTallyOf-loop), an edge of a known pair, either way round
-- (IsTallyOf-known), and one of a new pair (IsTallyOf-new). At the end what is read of a tally, and small facts on
-- tests.
use Rattle.std.proofs.Common.{◌≡◌, ℕ, zero, suc, ◌+◌, ◌<◌, ◌≤◌, Bool, true, false, cond, eqb, ◌&&◌, ◌||◌, not, List, [], ◌∷◌, ◌++◌, length, map, get_or, set, refl, sym, ap, ◌∙◌, subst, arith, ⊎_elim}
use Rattle.std.specs.Prelude.{Some, is_some, slice_get}
use Rattle.std.proofs.lemmas.Option.{slice_get_cases}
use Rattle.lattice.specs.Key.{is_same_key}
use Rattle.std.specs.List.{list_any, AllByRecursion}
use Rattle.std.proofs.lemmas.Bool.{true≢false, eqb-true, eq-eqb}
use Rattle.std.proofs.lemmas.List.{get_or-map, map-append}
use Rattle.lattice.specs.contracts.key.KeyPartialEq.TheImpl.{eq-value}
use Rattle.lattice.specs.declared.key.Key.{Key}
use Rattle.lattice.specs.declared.point.Axis.{Axis}
use Rattle.lattice.specs.declared.point.Axis.TheVariants.{X, Y, Z}
use Rattle.lattice.specs.declared.point.Point.{Point}
use Rattle.terrain.specs.Blocks.{times}
use Rattle.cell_laws.specs.Laws.{KeysAreTested}
use Rattle.audits.specs.Audit.{goes_between, pairs_of}
use Rattle.audits.specs.Tally.{IsTallyOf, uses_of}
use Rattle.audits.specs.declared.tally.Tally.{Tally}
use Rattle.audits.specs.declared.tally.Uses.{Uses}
use Rattle.audits.proofs.TallyLemmas.{Apart, ArePairs-of, IsProper, Pair, back_of, map-same, pairs_of-more, set-one, unused, uses_along, uses_apart, with_pair-known, with_pair-loop, with_pair-new}

-- ---- the code's test of keys

-- two tests that pass together pass each
both : (b c : Bool) → (b && c) ≡ true → (b ≡ true) × (c ≡ true)
both true c is = (refl, is)
both false c is = absurd (true≢false (sym is))

-- keys that pass the test have the same parts
key_parts : (l k : ℕ) (p q : Point) (a b : Axis)
    → (eq-value).it (record { level = l; at = p; axis = a })
    (record { level = k; at = q; axis = b }) ≡ true
    → (l ≡ k) × (p.z ≡ q.z) × (p.y ≡ q.y) × (p.x ≡ q.x) × (a ≡ b)
key_parts l k p q a b is =
    let outer = both _ _ is in
    let inner = both _ _ outer.1 in
    let z = both _ _ inner.0 in
    let y = both _ _ z.1 in (
      eqb-true l k outer.0,
      eqb-true p.z q.z z.0,
      eqb-true p.y q.y y.0,
      eqb-true p.x q.x y.1,
      axes a b inner.1,
    )
  where
    axes : (a b : Axis)
        → (eq-value).it (record { level = 0; at = record { z = 0; y = 0; x = 0 }; axis = a })
        (record { level = 0; at = record { z = 0; y = 0; x = 0 }; axis = b }) ≡ true → a ≡ b
    axes X X is = refl
    axes Y Y is = refl
    axes Z Z is = refl
    axes X Y is = absurd (true≢false (sym is))
    axes X Z is = absurd (true≢false (sym is))
    axes Y X is = absurd (true≢false (sym is))
    axes Y Z is = absurd (true≢false (sym is))
    axes Z X is = absurd (true≢false (sym is))
    axes Z Y is = absurd (true≢false (sym is))

-- it passes for equal keys alone
pub key_tells : (a b : Key) → (eq-value).it a b ≡ true → a ≡ b
key_tells a b is =
    let parts = key_parts a.level b.level a.at b.at a.axis b.axis is in
    λ i. record {
      level = parts.0 i;
      at = record { z = parts.1 i; y = parts.2 i; x = parts.3 i };
      axis = parts.4 i;
    }

-- and for each key and itself
pub key_self : (a : Key) → (eq-value).it a a ≡ true
key_self a =
    let same : (n : ℕ) → eqb n n ≡ true = λ n. eq-eqb n n refl in
    go a.axis (same a.level) (same a.at.z) (same a.at.y) (same a.at.x)
  where
    go : (axis : Axis) → eqb a.level a.level ≡ true → eqb a.at.z a.at.z ≡ true
        → eqb a.at.y a.at.y ≡ true → eqb a.at.x a.at.x ≡ true
        → (eq-value).it (record { level = a.level; at = a.at; axis = axis })
        (record { level = a.level; at = a.at; axis = axis }) ≡ true
    go X l z y x = λ i. l i && ((z i && (y i && x i)) && true)
    go Y l z y x = λ i. l i && ((z i && (y i && x i)) && true)
    go Z l z y x = λ i. l i && ((z i && (y i && x i)) && true)

-- the code's test of pairs
abbrev pub is_pair : Pair → Pair → Bool
is_pair q p = (eq-value).it q.0 p.0 && (eq-value).it q.1 p.1

-- it passes for equal pairs alone
pub pair_tells : (q p : Pair) → is_pair q p ≡ true → p ≡ q
pair_tells q p is =
    let parts = both _ _ is in
    λ i. (sym (key_tells q.0 p.0 parts.0) i, sym (key_tells q.1 p.1 parts.1) i)

-- pairs differ where the test fails
not-pair : (q p : Pair) → is_pair q p ≡ false → p ≡ q → ⊥
not-pair q p is same =
    let self : is_pair q q ≡ true = λ i. key_self q.0 i && key_self q.1 i in
    true≢false (sym self ∙ ap (is_pair q) (sym same) ∙ is)

-- of two tests that fail together each fails
neither : (b c : Bool) → (b || c) ≡ false → (b ≡ false) × (c ≡ false)
neither true c is = absurd (true≢false is)
neither false c is = (refl, is)

-- an edge that the test finds neither way is of a new pair
pub all-apart : (e : Pair) (ps : List Pair) → list_any (is_pair e) ps ≡ false
    → list_any (is_pair (back_of e)) ps ≡ false → AllByRecursion (λ p. Apart p e) ps
all-apart e [] one two = tt
all-apart e (p ∷ ps) one two =
    let along = neither (is_pair e p) (list_any (is_pair e) ps) one in
    let back = neither (is_pair (back_of e) p) (list_any (is_pair (back_of e)) ps) two in (
      record { along = not-pair e p along.0; back = not-pair (back_of e) p back.0 },
      all-apart e ps along.1 back.1,
    )

-- ---- steps

-- what the item at a place passes, one of the list passes
any-at : (test : Pair → Bool) (ps : List Pair) (k : ℕ) (d : Pair) → k < length ps
    → test (get_or ps k d) ≡ true → list_any test ps ≡ true
any-at test [] k d inside is = absurd (omega arith)
any-at test (p ∷ ps) zero d inside is = ap (λ b. b || list_any test ps) is
any-at test (p ∷ ps) (suc k) d inside is =
    go (test p) (any-at test ps k d (omega arith) is)
  where
    go : (b : Bool) {c : Bool} → c ≡ true → (b || c) ≡ true
    go true is = refl
    go false is = is

-- an edge from a key to itself changes nothing
pub IsTallyOf-loop : KeysAreTested → (t : Tally) (edges : List Pair) (e : Pair) → e.0 ≡ e.1
    → IsTallyOf t edges → IsTallyOf t (edges ++ e ∷ [])
IsTallyOf-loop tells t edges e loop counts =
    let ps = pairs_of edges in
    let same : ps ≡ pairs_of (edges ++ e ∷ []) =
    sym (pairs_of-more [] edges e ∙ with_pair-loop tells ps e loop) in
    record {
      pairs = counts.pairs ∙ same;
      uses = counts.uses
          ∙ map-same (uses_of edges) (uses_of (edges ++ e ∷ [])) e ps (uses_apart tells edges e)
          (all ps (ArePairs-of tells edges).proper)
          ∙ ap (map (uses_of (edges ++ e ∷ []))) same;
    }
  where
    all : (ps : List Pair) → AllByRecursion IsProper ps → AllByRecursion (λ p. Apart p e) ps
    all [] proper = tt
    all (p ∷ ps) proper = (
      record {
        along = λ h. proper.0 (ap (λ (q : Pair). q.0) h ∙ loop
            ∙ sym (ap (λ (q : Pair). q.1) h));
        back = λ h. proper.0 (ap (λ (q : Pair). q.0) h ∙ sym loop
            ∙ sym (ap (λ (q : Pair). q.1) h));
      },
      all ps proper.1,
    )

-- an edge of a pair that is known changes that pair's uses
pub IsTallyOf-known : KeysAreTested → (old new : Tally) (edges : List Pair) (e q : Pair) (k : ℕ)
    (u : Uses)
    → ((p : Pair) → Apart p q → Apart p e) → goes_between q e ≡ true
    → k < length old.pairs.keys → get_or old.pairs.keys k e ≡ q
    → new.pairs.keys ≡ old.pairs.keys → new.uses.items ≡ set old.uses.items k u
    → u ≡ uses_of (edges ++ e ∷ []) q → IsTallyOf old edges → IsTallyOf new (edges ++ e ∷ [])
IsTallyOf-known tells old new edges e q k u apart goes inside at keys uses u-is counts =
    let ps = pairs_of edges in
    let f = uses_of edges in
    let g = uses_of (edges ++ e ∷ []) in
    let within : k < length ps = subst (λ (xs : List Pair). k < length xs) counts.pairs inside in
    let there : get_or ps k e ≡ q = subst (λ (xs : List Pair). get_or xs k e ≡ q) counts.pairs at in
    let known = any-at (λ p. goes_between p e) ps k e within
    (ap (λ p. goes_between p e) there ∙ goes) in
    let same : ps ≡ pairs_of (edges ++ e ∷ []) =
    sym (pairs_of-more [] edges e ∙ with_pair-known ps e known) in
    let one = set-one f g e ps k (ArePairs-of tells edges).apart within
    (λ p far. uses_apart tells edges e p (apart p (subst (Apart p) there far))) in
    record {
      pairs = keys ∙ counts.pairs ∙ same;
      uses = uses ∙ ap (λ us. set us k u) counts.uses
          ∙ ap (set (map f ps) k) (u-is ∙ ap g (sym there)) ∙ one ∙ ap (map g) same;
    }

-- an edge of a new pair is counted behind the others
pub IsTallyOf-new : KeysAreTested → (old new : Tally) (edges : List Pair) (e : Pair) → IsProper e
    → AllByRecursion (λ p. Apart p e) old.pairs.keys
    → new.pairs.keys ≡ old.pairs.keys ++ e ∷ []
    → new.uses.items ≡ old.uses.items ++ record { along = 1; back = 0 } ∷ []
    → IsTallyOf old edges → IsTallyOf new (edges ++ e ∷ [])
IsTallyOf-new tells old new edges e proper apart keys uses counts =
    let ps = pairs_of edges in
    let f = uses_of edges in
    let g = uses_of (edges ++ e ∷ []) in
    let all = subst (AllByRecursion (λ p. Apart p e)) counts.pairs apart in
    let more : ps ++ e ∷ [] ≡ pairs_of (edges ++ e ∷ []) =
    sym (pairs_of-more [] edges e ∙ with_pair-new tells ps e proper all) in
    let none = unused tells e [] edges proper all in
    let once : record { along = 1; back = 0 } ≡ g e =
    (λ i. record { along = (sym none i).along + 1; back = (sym none i).back })
    ∙ uses_along tells edges e proper in
    record {
      pairs = keys ∙ ap (λ (xs : List Pair). xs ++ e ∷ []) counts.pairs ∙ more;
      uses = uses ∙ ap (λ (us : List Uses). us ++ record { along = 1; back = 0 } ∷ []) counts.uses
          ∙ (λ i. map-same f g e ps (uses_apart tells edges e) all i ++ once i ∷ [])
          ∙ sym (map-append g ps (e ∷ [])) ∙ ap (map g) more;
    }

-- what is read of a tally
pub uses-read : (t : Tally) (edges : List Pair) (k : ℕ) (d : Pair) (u : Uses) → IsTallyOf t edges
    → k < length t.pairs.keys → u ≡ get_or t.uses.items k u
    → u ≡ uses_of edges (get_or t.pairs.keys k d)
uses-read t edges k d u counts inside read =
    read ∙ ap (λ us. get_or us k u) (counts.uses ∙ ap (map (uses_of edges)) (sym counts.pairs))
    ∙ get_or-map (uses_of edges) t.pairs.keys k d u inside

-- no edge is used more often than there are edges
pub times-few : (a b : Key) (edges : List Pair) → times a b edges ≤ length edges
times-few a b [] = omega arith
times-few a b (x ∷ xs) =
    omega (arith, few (is_same_key x.0 a && is_same_key x.1 b), times-few a b xs)
  where
    few : (b : Bool) → cond b 1 0 ≤ 1
    few true = omega arith
    few false = omega arith

-- an element that is read is inside
pub some-inside : (ps : List Pair) (k : ℕ) (p : Pair) → slice_get ps k ≡ Some p → k < length ps
some-inside ps k p is = ⊎_elim (λ (there : _). there.1) (λ (past : _).
    absurd (true≢false (ap is_some (sym is ∙ past.1)))) (slice_get_cases ps k).1

-- a test whose negation passes fails
pub not-true : (b : Bool) → not b ≡ true → b ≡ false
not-true true is = absurd (true≢false (sym is))
not-true false is = refl

-- and one whose negation fails passes
pub not-false : (b : Bool) → not b ≡ false → b ≡ true
not-false true is = refl
not-false false is = absurd (true≢false is)

-- keys differ where the code's test fails
pub differ : (a b : Key) → (eq-value).it a b ≡ false → a ≡ b → ⊥
differ a b is same = true≢false (sym (key_self a) ∙ ap (λ k. (eq-value).it a k) same ∙ is)
