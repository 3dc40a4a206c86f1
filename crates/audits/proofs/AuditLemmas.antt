-- An audit counts what its definition counts: the open pairs off the border of the world, and on it.
-- The loop of `open_pairs` takes one pair after another, and adds 1 to one of two counts (counted-step). A pair is open
-- exactly where its uses differ (open-is), which is what the code tests. No open pair of a history's mesh is off the
-- border (open-on_border, from the law that the mesh has no crack), so the first count is 0 (filter-none) and the
-- second has all open pairs (filter-all). At the end frames, leaf by leaf: their edges, and that their triangles are
-- few.
use Rattle.std.proofs.Common.{◌≡◌, ℕ, ◌+◌, ◌*◌, ◌<◌, ◌≤◌, Bool, true, false, cond, not, eqb, pos, ◌-ℤ◌, List, [], ◌∷◌, ◌++◌, length, length-append, map, get_or, take, refl, sym, ap, ◌∙◌, arith, append-nil}
use Rattle.std.specs.Prelude.{filter, unsigned_abs}
use Rattle.std.proofs.lemmas.Bool.{true≢false, eqb-true, eq-eqb}
use Rattle.std.proofs.lemmas.Bool.Decides.{eqb_tells}
use Rattle.std.proofs.lemmas.List.{take_more}
use Rattle.std.proofs.lemmas.List.Elements.{filter-append}
use Rattle.std.proofs.lemmas.List.Concat.{flat_map-append}
use Rattle.lattice.specs.declared.node.Node.{Node}
use Rattle.lattice.specs.declared.settings.Settings.{Settings}
use Rattle.snapshots.specs.Seamless.{IsSeamless}
use Rattle.terrain.specs.declared.event.Event.{Event}
use Rattle.terrain.specs.Blocks.{Mesh, frame_edges, scratch, times}
use Rattle.terrain.specs.Curves.{all_edges}
use Rattle.audits.specs.Audit.{is_on_border, is_open}
use Rattle.snapshots.specs.Stats.{triangle_count}
use Rattle.audits.proofs.LeafLemmas.{map-more}
use Rattle.audits.proofs.TallyLemmas.{Pair}

-- ---- counts of pairs

-- whether one pair passes two tests
filter-one : (q : Pair → Bool) (x : Pair) (b c : Bool) → q x ≡ c
    → length (filter q (cond b (x ∷ []) [])) ≡ cond b (cond c 1 0) 0
filter-one q x false c is = refl
filter-one q x true c is = ap (λ b. length (cond b (x ∷ []) [])) is ∙ go c
  where
    go : (c : Bool) → length (cond c (x ∷ []) []) ≡ cond c 1 0
    go true = refl
    go false = refl

-- how many pairs pass two tests, with one pair more
pub counted-more : (p q : Pair → Bool) (xs : List Pair) (x : Pair) (b c : Bool) → p x ≡ b
    → q x ≡ c → length (filter q (filter p (xs ++ x ∷ [])))
    ≡ length (filter q (filter p xs)) + cond b (cond c 1 0) 0
counted-more p q xs x b c p-is q-is =
    let one : length (filter q (filter p (x ∷ []))) ≡ cond b (cond c 1 0) 0 =
    ap (λ d. length (filter q (cond d (x ∷ []) []))) p-is ∙ filter-one q x b c q-is in
    let both : filter q (filter p (xs ++ x ∷ []))
    ≡ filter q (filter p xs) ++ filter q (filter p (x ∷ [])) =
    ap (filter q) (filter-append p xs (x ∷ []))
    ∙ filter-append q (filter p xs) (filter p (x ∷ [])) in
    ap length both ∙ length-append (filter q (filter p xs)) (filter q (filter p (x ∷ [])))
    ∙ ap (λ n. length (filter q (filter p xs)) + n) one

-- how many of the pairs so far pass two tests, with one more
pub counted-step : (p q : Pair → Bool) (ps : List Pair) (i : ℕ) (d : Pair) (b c : Bool) (n : ℕ)
    → i < length ps → p (get_or ps i d) ≡ b → q (get_or ps i d) ≡ c
    → n ≡ length (filter q (filter p (take i ps)))
    → n + cond b (cond c 1 0) 0 ≡ length (filter q (filter p (take (i + 1) ps)))
counted-step p q ps i d b c n inside p-is q-is so_far =
    ap (λ m. m + cond b (cond c 1 0) 0) so_far
    ∙ sym (counted-more p q (take i ps) (get_or ps i d) b c p-is q-is)
    ∙ ap (λ xs. length (filter q (filter p xs))) (sym (take_more ps i d inside))

-- two numbers differ exactly where their difference isn't 0
pub apart-is : (m n : ℕ) → eqb (unsigned_abs (pos m -ℤ pos n)) 0 ≡ eqb m n
apart-is m n = grind (arith, eqb_tells)

-- a pair is open exactly where its uses differ
pub open-is : (edges : List Pair) (pair : Pair) → is_open edges pair
    ≡ not (eqb (times pair.0 pair.1 edges) (times pair.1 pair.0 edges))
open-is edges pair =
    ap not (apart-is (times pair.0 pair.1 edges) (times pair.1 pair.0 edges))

-- the test of numbers that differ
pub test-apart : (m n : ℕ) → (m ≡ n → ⊥) → not (eqb m n) ≡ true
test-apart m n apart = go (eqb m n) refl
  where
    go : (b : Bool) → eqb m n ≡ b → not (eqb m n) ≡ true
    go true is = absurd (apart (eqb-true m n is))
    go false is = ap not is

-- and of equal ones
pub test-same : (m n : ℕ) → m ≡ n → not (eqb m n) ≡ false
test-same m n same = ap not (eq-eqb m n same)

-- in a seamless mesh an open pair lies on the border
pub open-on_border : (rules : Settings) (history : List Event) → IsSeamless rules history
    → (pair : Pair) → is_open (frame_edges (scratch rules history)) pair ≡ true
    → is_on_border rules.depth pair ≡ true
open-on_border rules history seamless pair is =
    go (is_on_border rules.depth pair) refl
  where
    go : (b : Bool) → is_on_border rules.depth pair ≡ b → is_on_border rules.depth pair ≡ true
    go true on = on
    go false off =
        let edges : List Pair = frame_edges (scratch rules history) in
        let same = seamless.closed pair.0 pair.1 (λ on. true≢false (sym on ∙ off)) in
        let shut = open-is edges pair
        ∙ test-same (times pair.0 pair.1 edges) (times pair.1 pair.0 edges) same in
        absurd (true≢false (sym is ∙ shut))

-- no pair passes two tests of which the second fails where the first passes
pub filter-none : (p q : Pair → Bool) (xs : List Pair)
    → ((x : Pair) → p x ≡ true → q x ≡ false) → filter q (filter p xs) ≡ []
filter-none p q [] none = refl
filter-none p q (x ∷ xs) none = go (p x) refl (filter-none p q xs none)
  where
    go : (b : Bool) → p x ≡ b → filter q (filter p xs) ≡ []
        → filter q (filter p (x ∷ xs)) ≡ []
    go true is rest =
        ap (λ c. filter q (cond c (x ∷ filter p xs) (filter p xs))) is
        ∙ ap (λ c. cond c (x ∷ filter q (filter p xs)) (filter q (filter p xs))) (none x is) ∙ rest
    go false is rest = ap (λ c. filter q (cond c (x ∷ filter p xs) (filter p xs))) is ∙ rest

-- a second test that passes where the first does changes nothing
pub filter-all : (p q : Pair → Bool) (xs : List Pair) → ((x : Pair) → p x ≡ true → q x ≡ true)
    → filter q (filter p xs) ≡ filter p xs
filter-all p q [] all = refl
filter-all p q (x ∷ xs) all = go (p x) refl (filter-all p q xs all)
  where
    go : (b : Bool) → p x ≡ b → filter q (filter p xs) ≡ filter p xs
        → filter q (filter p (x ∷ xs)) ≡ filter p (x ∷ xs)
    go true is rest =
        ap (λ c. filter q (cond c (x ∷ filter p xs) (filter p xs))) is
        ∙ ap (λ c. cond c (x ∷ filter q (filter p xs)) (filter q (filter p xs))) (all x is)
        ∙ ap (λ ys. x ∷ ys) rest
        ∙ ap (λ c. cond c (x ∷ filter p xs) (filter p xs)) (sym is)
    go false is rest =
        ap (λ c. filter q (cond c (x ∷ filter p xs) (filter p xs))) is ∙ rest
        ∙ ap (λ c. cond c (x ∷ filter p xs) (filter p xs)) (sym is)

-- tests that are equal for each pair leave the same
pub filter-same : (p q : Pair → Bool) (xs : List Pair) → ((x : Pair) → p x ≡ q x)
    → filter p xs ≡ filter q xs
filter-same p q [] same = refl
filter-same p q (x ∷ xs) same =
    λ i. cond (same x i) (x ∷ filter-same p q xs same i) (filter-same p q xs same i)

-- ---- frames

-- the edges of a frame with one leaf more
pub frame_edges-more : (f : Node → Mesh) (xs : List Node) (i : ℕ) (d : Node) → i < length xs
    → frame_edges (map f (take i xs)) ++ all_edges (f (get_or xs i d)).triangles
    ≡ frame_edges (map f (take (i + 1) xs))
frame_edges-more f xs i d inside =
    let m = f (get_or xs i d) in
    let edges : Mesh → List Pair = λ m. all_edges m.triangles in
    ap (λ (es : List Pair). frame_edges (map f (take i xs)) ++ es)
    (sym (append-nil (all_edges m.triangles)))
    ∙ sym (flat_map-append edges (map f (take i xs)) (m ∷ []))
    ∙ ap frame_edges (sym (map-more f xs i d inside))

-- the triangles of meshes that have few
pub triangles-few : (f : Node → Mesh) (most : ℕ) (xs : List Node)
    → ((n : Node) → length (f n).triangles ≤ most) → triangle_count (map f xs) ≤ most * length xs
triangles-few f most [] few = omega arith
triangles-few f most (x ∷ xs) few =
    let rest = triangles-few f most xs few in
    let one = few x in
    grind (arith, rest, one)
