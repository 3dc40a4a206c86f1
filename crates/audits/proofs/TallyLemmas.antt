-- What one edge more changes in the pairs of edges and in how often each pair is used, by the definitions alone.
-- A pair and its reverse are one: pairs are told from an edge where they are neither it nor its reverse (Apart). The
-- pairs of edges are apart from one another (ArePairs-of). An edge from a key to itself adds nothing (with_pair-loop),
-- one of a known pair changes that pair's uses alone (uses_apart, uses_along, uses_back, set-one), and one of a new
-- pair puts this pair behind the others, where it was used nowhere before (with_pair-new, unused). TallySteps has the
-- same of the tally that the code keeps.
use Rattle.std.proofs.Common.{◌≡◌, ℕ, zero, suc, ◌+◌, ◌<◌, Bool, true, false, cond, ◌&&◌, ◌||◌, List, [], ◌∷◌, ◌++◌, length, map, get_or, set, refl, sym, ap, ◌∙◌, subst, arith}
use Rattle.std.specs.Prelude.{IsTrue}
use Rattle.std.specs.List.{list_any, AllByRecursion}
use Rattle.std.proofs.lemmas.Bool.{true≢false}
use Rattle.lattice.specs.declared.key.Key.{Key}
use Rattle.lattice.specs.Key.{is_same_key}
use Rattle.terrain.specs.Blocks.{times}
use Rattle.cell_laws.specs.Laws.{KeysAreTested}
use Rattle.audits.specs.Audit.{goes_between, pairs_of, with_pair, with_pairs}
use Rattle.audits.specs.Tally.{uses_of}
use Rattle.audits.specs.declared.tally.Uses.{Uses}

-- two keys, as an edge or a pair has them
abbrev pub Pair : Type 0
Pair = Key × Key

-- the edge the other way
abbrev pub back_of : Pair → Pair
back_of e = (e.1, e.0)

-- an edge between two keys
abbrev pub IsProper : Pair → Type 0
IsProper e = e.0 ≡ e.1 → ⊥

-- a pair isn't that of an edge
pub record Apart (p e : Pair) : Type 0 where
  pub along : p ≡ e → ⊥
  pub back : p ≡ back_of e → ⊥

-- of two pairs each is apart from the other
Apart-sym : (p e : Pair) → Apart p e → Apart e p
Apart-sym p e apart = record {
  along = λ h. apart.along (sym h);
  back = λ h. apart.back (ap back_of (sym h));
}

-- the edge the other way has the same pair
pub Apart-back : (p e : Pair) → Apart p e → Apart p (back_of e)
Apart-back p e apart = record { along = apart.back; back = apart.along }

-- each pair of a list is apart from the later ones
abbrev pub AreApart : List Pair → Type 0
AreApart [] = Unit {0}
AreApart (p ∷ ps) = AllByRecursion (Apart p) ps × AreApart ps

-- ---- lists

-- what holds of a list holds of its front
All-front : (P : Pair → Type 0) (ps qs : List Pair) → AllByRecursion P (ps ++ qs)
    → AllByRecursion P ps
All-front P [] qs all = tt
All-front P (p ∷ ps) qs all = (all.0, All-front P ps qs all.1)

-- of its last pair
All-end : (P : Pair → Type 0) (ps : List Pair) (p : Pair) → AllByRecursion P (ps ++ p ∷ []) → P p
All-end P [] p all = all.0
All-end P (q ∷ ps) p all = All-end P ps p all.1

-- what holds of a list and of one pair more
pub All-last : (P : Pair → Type 0) (ps : List Pair) (p : Pair) → AllByRecursion P ps → P p
    → AllByRecursion P (ps ++ p ∷ [])
All-last P [] p all last = (last, tt)
All-last P (q ∷ ps) p all last = (all.0, All-last P ps p all.1 last)

-- and of the pair at a place
All-at : (P : Pair → Type 0) (ps : List Pair) (k : ℕ) (d : Pair) → AllByRecursion P ps
    → k < length ps → P (get_or ps k d)
All-at P [] k d all inside = absurd (omega arith)
All-at P (p ∷ ps) zero d all inside = all.0
All-at P (p ∷ ps) (suc k) d all inside = All-at P ps k d all.1 (omega arith)

-- a pair that is apart from all goes last
pub AreApart-last : (ps : List Pair) (e : Pair) → AreApart ps → AllByRecursion (λ p. Apart p e) ps
    → AreApart (ps ++ e ∷ [])
AreApart-last [] e apart all = (tt, tt)
AreApart-last (p ∷ ps) e apart all =
    (All-last (Apart p) ps e apart.0 all.0, AreApart-last ps e apart.1 all.1)

-- what two functions give for pairs that are apart from one
pub map-same : (f g : Pair → Uses) (q : Pair) (ps : List Pair)
    → ((p : Pair) → Apart p q → f p ≡ g p) → AllByRecursion (λ p. Apart p q) ps
    → map f ps ≡ map g ps
map-same f g q [] same all = refl
map-same f g q (p ∷ ps) same all = λ i. same p all.0 i ∷ map-same f g q ps same all.1 i

-- pairs from which one is apart are apart from it
All-sym : (q : Pair) (ps : List Pair) → AllByRecursion (Apart q) ps
    → AllByRecursion (λ p. Apart p q) ps
All-sym q [] all = tt
All-sym q (p ∷ ps) all = (Apart-sym q p all.0, All-sym q ps all.1)

-- one pair's uses change
pub set-one : (f g : Pair → Uses) (d : Pair) (ps : List Pair) (k : ℕ) → AreApart ps → k < length ps
    → ((p : Pair) → Apart p (get_or ps k d) → f p ≡ g p)
    → set (map f ps) k (g (get_or ps k d)) ≡ map g ps
set-one f g d [] k apart inside same = absurd (omega arith)
set-one f g d (p ∷ ps) zero apart inside same =
    ap (λ us. g p ∷ us) (map-same f g p ps same (All-sym p ps apart.0))
set-one f g d (p ∷ ps) (suc k) apart inside same =
    let first = same p (All-at (Apart p) ps k d apart.0 (omega arith)) in
    let rest = set-one f g d ps k apart.1 (omega arith) same in
    λ i. first i ∷ rest i

-- ---- edges

-- 1 for an edge from one key to another, and 0 for other edges
abbrev hit : Key → Key → Pair → ℕ
hit a b e = cond (is_same_key e.0 a && is_same_key e.1 b) 1 0

-- how often an edge goes from one key to another, with one edge more
times-more : (a b : Key) (edges : List Pair) (e : Pair)
    → times a b (edges ++ e ∷ []) ≡ times a b edges + hit a b e
times-more a b [] e = omega arith
times-more a b (x ∷ xs) e = omega (arith, times-more a b xs e)

-- an edge goes between its own keys
hit-same : KeysAreTested → (a b : Key) → hit a b (a, b) ≡ 1
hit-same tells a b = λ i. cond ((tells a a).1 refl i && (tells b b).1 refl i) 1 0

-- and not between others
hit-not : KeysAreTested → (a b : Key) (e : Pair) → (e.0 ≡ a → e.1 ≡ b → ⊥) → hit a b e ≡ 0
hit-not tells a b e apart = go (is_same_key e.0 a) (is_same_key e.1 b) refl refl
  where
    go : (p q : Bool) → is_same_key e.0 a ≡ p → is_same_key e.1 b ≡ q → hit a b e ≡ 0
    go true true x y = absurd (apart ((tells e.0 a).0 x) ((tells e.1 b).0 y))
    go true false x y = λ i. cond (x i && y i) 1 0
    go false q x y = λ i. cond (x i && is_same_key e.1 b) 1 0

-- an edge changes no other pair's uses
pub uses_apart : KeysAreTested → (edges : List Pair) (e p : Pair) → Apart p e
    → uses_of edges p ≡ uses_of (edges ++ e ∷ []) p
uses_apart tells edges e p apart =
    let one = hit-not tells p.0 p.1 e (λ x y. apart.along (λ i. (sym x i, sym y i))) in
    let two = hit-not tells p.1 p.0 e (λ x y. apart.back (λ i. (sym y i, sym x i))) in
    let along : times p.0 p.1 edges ≡ times p.0 p.1 (edges ++ e ∷ []) =
    omega (arith, one, times-more p.0 p.1 edges e) in
    let back : times p.1 p.0 edges ≡ times p.1 p.0 (edges ++ e ∷ []) =
    omega (arith, two, times-more p.1 p.0 edges e) in
    λ i. record { along = along i; back = back i }

-- but its own pair is used once more along it
pub uses_along : KeysAreTested → (edges : List Pair) (e : Pair) → IsProper e
    → record { along = times e.0 e.1 edges + 1; back = times e.1 e.0 edges }
    ≡ uses_of (edges ++ e ∷ []) e
uses_along tells edges e proper =
    let one = hit-same tells e.0 e.1 in
    let two = hit-not tells e.1 e.0 e (λ x y. proper x) in
    let along : times e.0 e.1 edges + 1 ≡ times e.0 e.1 (edges ++ e ∷ []) =
    omega (arith, one, times-more e.0 e.1 edges e) in
    let back : times e.1 e.0 edges ≡ times e.1 e.0 (edges ++ e ∷ []) =
    omega (arith, two, times-more e.1 e.0 edges e) in
    λ i. record { along = along i; back = back i }

-- and the pair the other way back
pub uses_back : KeysAreTested → (edges : List Pair) (e : Pair) → IsProper e
    → record { along = times e.1 e.0 edges; back = times e.0 e.1 edges + 1 }
    ≡ uses_of (edges ++ e ∷ []) (back_of e)
uses_back tells edges e proper =
    let now = uses_along tells edges e proper in
    λ i. record { along = (now i).back; back = (now i).along }

-- ---- pairs

-- what is apart from an edge is so whichever way it goes
goes-other : KeysAreTested → (p x e : Pair) → IsTrue (goes_between p x) → Apart p e → Apart x e
goes-other tells p x e goes apart =
    go (is_same_key x.0 p.0) (is_same_key x.1 p.1) (is_same_key x.1 p.0) (is_same_key x.0 p.1)
    refl refl refl refl goes
  where
    go : (a b c d : Bool) → is_same_key x.0 p.0 ≡ a → is_same_key x.1 p.1 ≡ b
        → is_same_key x.1 p.0 ≡ c → is_same_key x.0 p.1 ≡ d → (a && b || c && d) ≡ true
        → Apart x e
    go true true c d ha hb hc hd is =
        let same : x ≡ p = λ i. ((tells x.0 p.0).0 ha i, (tells x.1 p.1).0 hb i) in
        subst (λ q. Apart q e) (sym same) apart
    go true false true true ha hb hc hd is =
        let same : x ≡ back_of p = λ i. ((tells x.0 p.1).0 hd i, (tells x.1 p.0).0 hc i) in
        subst (λ q. Apart q e) (sym same)
        (Apart-sym e (back_of p) (Apart-back e p (Apart-sym p e apart)))
    go false b true true ha hb hc hd is =
        let same : x ≡ back_of p = λ i. ((tells x.0 p.1).0 hd i, (tells x.1 p.0).0 hc i) in
        subst (λ q. Apart q e) (sym same)
        (Apart-sym e (back_of p) (Apart-back e p (Apart-sym p e apart)))
    go true false true false ha hb hc hd is = absurd (true≢false (sym is))
    go true false false d ha hb hc hd is = absurd (true≢false (sym is))
    go false b true false ha hb hc hd is = absurd (true≢false (sym is))
    go false b false d ha hb hc hd is = absurd (true≢false (sym is))

-- an edge goes between the keys of its own pair
pub goes-self : KeysAreTested → (e : Pair) → goes_between e e ≡ true
goes-self tells e =
    λ i. (tells e.0 e.0).1 refl i && (tells e.1 e.1).1 refl i
    || is_same_key e.1 e.0 && is_same_key e.0 e.1

-- and of that pair the other way
pub goes-back : KeysAreTested → (e : Pair) → goes_between (back_of e) e ≡ true
goes-back tells e = go (is_same_key e.0 e.1 && is_same_key e.1 e.0)
    (λ i. (tells e.1 e.1).1 refl i && (tells e.0 e.0).1 refl i)
  where
    go : (b : Bool) {c : Bool} → c ≡ true → (b || c) ≡ true
    go true is = refl
    go false is = is

-- a pair between whose keys an edge doesn't go is apart from it
not-goes : KeysAreTested → (p e : Pair) → goes_between p e ≡ false → Apart p e
not-goes tells p e none = record {
  along = λ h.
      true≢false (sym (goes-self tells e) ∙ ap (λ q. goes_between q e) (sym h) ∙ none);
  back = λ h.
      true≢false (sym (goes-back tells e) ∙ ap (λ q. goes_between q e) (sym h) ∙ none);
}

-- and the other way round
goes-apart : KeysAreTested → (p e : Pair) → Apart p e → goes_between p e ≡ false
goes-apart tells p e apart = go (goes_between p e) refl
  where
    go : (b : Bool) → goes_between p e ≡ b → goes_between p e ≡ false
    go true is = absurd ((goes-other tells p e e is apart).along refl)
    go false is = is

-- one of two tests passes
either : (b c : Bool) (P : Type 0) → (b || c) ≡ true → (b ≡ true → P) → (c ≡ true → P) → P
either true c P is left right = left refl
either false c P is left right = right is

-- both fail
neither : (b c : Bool) → (b || c) ≡ false → (b ≡ false) × (c ≡ false)
neither true c is = absurd (true≢false is)
neither false c is = (refl, is)

-- an edge of a pair that is apart from another edge is apart from it too
any-apart : KeysAreTested → (x e : Pair) (ps : List Pair)
    → list_any (λ p. goes_between p x) ps ≡ true
    → AllByRecursion (λ p. Apart p e) ps → Apart x e
any-apart tells x e [] is all = absurd (true≢false (sym is))
any-apart tells x e (p ∷ ps) is all =
    either (goes_between p x) (list_any (λ p. goes_between p x) ps) (Apart x e) is
    (λ here. goes-other tells p x e here all.0) (λ there. any-apart tells x e ps there all.1)

-- an edge that goes between no known pair is apart from all
none-apart : KeysAreTested → (e : Pair) (ps : List Pair)
    → list_any (λ p. goes_between p e) ps ≡ false
    → AllByRecursion (λ p. Apart p e) ps
none-apart tells e [] is = tt
none-apart tells e (p ∷ ps) is =
    let both = neither (goes_between p e) (list_any (λ p. goes_between p e) ps) is in
    (not-goes tells p e both.0, none-apart tells e ps both.1)

-- and the other way round
apart-none : KeysAreTested → (e : Pair) (ps : List Pair) → AllByRecursion (λ p. Apart p e) ps
    → list_any (λ p. goes_between p e) ps ≡ false
apart-none tells e [] all = refl
apart-none tells e (p ∷ ps) all =
    λ i. goes-apart tells p e all.0 i || apart-none tells e ps all.1 i

-- the test of an edge between two keys fails
pub proper-test : KeysAreTested → (e : Pair) → IsProper e → is_same_key e.0 e.1 ≡ false
proper-test tells e proper = go (is_same_key e.0 e.1) refl
  where
    go : (b : Bool) → is_same_key e.0 e.1 ≡ b → is_same_key e.0 e.1 ≡ false
    go true is = absurd (proper ((tells e.0 e.1).0 is))
    go false is = is

-- what holds of a list with the pair of an edge holds of one of three
with_pair-cases : KeysAreTested → (known : List Pair) (e : Pair) (P : List Pair → Type 0)
    → (e.0 ≡ e.1 → P known) → (list_any (λ p. goes_between p e) known ≡ true → P known)
    → (IsProper e → AllByRecursion (λ p. Apart p e) known → P (known ++ e ∷ []))
    → P (with_pair known e)
with_pair-cases tells known e P loop old new =
    go (is_same_key e.0 e.1) (list_any (λ p. goes_between p e) known) refl refl
  where
    go : (b c : Bool) → is_same_key e.0 e.1 ≡ b → list_any (λ p. goes_between p e) known ≡ c
        → P (cond (b || c) known (known ++ e ∷ []))
    go true c hb hc = loop ((tells e.0 e.1).0 hb)
    go false true hb hc = old hc
    go false false hb hc =
        new (λ h. true≢false (sym ((tells e.0 e.1).1 h) ∙ hb)) (none-apart tells e known hc)

-- an edge from a key to itself has no pair
pub with_pair-loop : KeysAreTested → (known : List Pair) (e : Pair) → e.0 ≡ e.1
    → with_pair known e ≡ known
with_pair-loop tells known e loop =
    ap (λ b. cond (b || list_any (λ p. goes_between p e) known) known (known ++ e ∷ []))
    ((tells e.0 e.1).1 loop)

-- a pair that is known stays the one
pub with_pair-known : (known : List Pair) (e : Pair)
    → list_any (λ p. goes_between p e) known ≡ true → with_pair known e ≡ known
with_pair-known known e is =
    ap (λ b. cond (is_same_key e.0 e.1 || b) known (known ++ e ∷ [])) is
    ∙ go (is_same_key e.0 e.1)
  where
    go : (b : Bool) → cond (b || true) known (known ++ e ∷ []) ≡ known
    go true = refl
    go false = refl

-- a new pair goes last
pub with_pair-new : KeysAreTested → (known : List Pair) (e : Pair) → IsProper e
    → AllByRecursion (λ p. Apart p e) known → with_pair known e ≡ known ++ e ∷ []
with_pair-new tells known e proper all =
    λ i. cond (proper-test tells e proper i || apart-none tells e known all i) known
    (known ++ e ∷ [])

-- the pairs with one edge more
pub pairs_of-more : (known edges : List Pair) (e : Pair)
    → with_pairs known (edges ++ e ∷ []) ≡ with_pair (with_pairs known edges) e
pairs_of-more known [] e = refl
pairs_of-more known (x ∷ xs) e = pairs_of-more (with_pair known x) xs e

-- pairs are apart, and each is of two keys
pub record ArePairs (ps : List Pair) : Type 0 where
  pub apart : AreApart ps
  pub proper : AllByRecursion IsProper ps

-- pairs with those of more edges
ArePairs-more : KeysAreTested → (known edges : List Pair) → ArePairs known
    → ArePairs (with_pairs known edges)
ArePairs-more tells known [] pairs = pairs
ArePairs-more tells known (x ∷ xs) pairs =
    ArePairs-more tells (with_pair known x) xs
    (with_pair-cases tells known x ArePairs (λ loop. pairs) (λ old. pairs) (λ proper all. record {
      apart = AreApart-last known x pairs.apart all;
      proper = All-last IsProper known x pairs.proper proper;
    }))

-- the pairs of edges are such
pub ArePairs-of : KeysAreTested → (edges : List Pair) → ArePairs (pairs_of edges)
ArePairs-of tells edges = ArePairs-more tells [] edges (record { apart = tt; proper = tt })

-- what is apart from all pairs is apart from the known ones
front-of : KeysAreTested → (e : Pair) (known edges : List Pair)
    → AllByRecursion (λ p. Apart p e) (with_pairs known edges)
    → AllByRecursion (λ p. Apart p e) known
front-of tells e known [] all = all
front-of tells e known (x ∷ xs) all =
    with_pair-cases tells known x
    (λ ps. AllByRecursion (λ p. Apart p e) ps → AllByRecursion (λ p. Apart p e) known)
    (λ loop h. h) (λ old h. h) (λ proper new h. All-front (λ p. Apart p e) known (x ∷ []) h)
    (front-of tells e (with_pair known x) xs all)

-- what is apart from all pairs is apart from each edge, which may have gone between known ones
edge-apart : KeysAreTested → (e x : Pair) (known : List Pair) → IsProper e
    → AllByRecursion (λ p. Apart p e) (with_pair known x) → Apart x e
edge-apart tells e x known proper =
    with_pair-cases tells known x (λ ps. AllByRecursion (λ p. Apart p e) ps → Apart x e)
    (λ loop all. record {
      along = λ h. proper (ap (λ (p : Pair). p.0) (sym h) ∙ loop ∙ ap (λ (p : Pair). p.1) h);
      back = λ h. proper (ap (λ (p : Pair). p.1) (sym h) ∙ sym loop ∙ ap (λ (p : Pair). p.0) h);
    })
    (λ old all. any-apart tells x e known old all)
    (λ one new all. All-end (λ p. Apart p e) known x all)

-- a pair that isn't among those of edges has no use
pub unused : KeysAreTested → (e : Pair) (known edges : List Pair) → IsProper e
    → AllByRecursion (λ p. Apart p e) (with_pairs known edges)
    → uses_of edges e ≡ record { along = 0; back = 0 }
unused tells e known [] proper all = refl
unused tells e known (x ∷ xs) proper all =
    let next : List Pair = with_pair known x in
    let rest = unused tells e next xs proper all in
    let apart = edge-apart tells e x known proper (front-of tells e next xs all) in
    let one = hit-not tells e.0 e.1 x (λ a b. apart.along (λ i. (a i, b i))) in
    let two = hit-not tells e.1 e.0 x (λ a b. apart.back (λ i. (a i, b i))) in
    λ i. record { along = one i + (rest i).along; back = two i + (rest i).back }
