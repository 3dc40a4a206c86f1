-- Tests of the cells of all sign numbers, by computing them: 256 regular cells, and 512 transition cells in two turns.
--
-- For `CellsAreClosed`, `FewTriangles`, `IsPresent` and `SquareNets`. What is to hold of every cell is written as a
-- test of a sign number and its faces; that all pass is one line by `refl` (`regular_pass`, `transition_pass` there),
-- and `at_regular` and `at_transition` give it for one cell. The six faces of a leaf have two turns, so XHigh and XLow
-- stand for all.
--
-- Offered to the proofs of the crates above, which import them: `All-passing`, `all_below`, `at_below`, `all_regular`
-- and `at_regular`.
use Rattle.std.proofs.Common.{◌≡◌, ℕ, ◌<◌, Bool, true, ◌&&◌, List, [], ◌∷◌}
use Rattle.std.specs.List.{list_all, AllByRecursion}
use Rattle.std.proofs.lemmas.Bool.{and_parts, agree_below, agree_below_at}
use Rattle.lattice.specs.declared.point.Face.{Face}
use Rattle.lattice.specs.declared.point.Face.TheVariants.{XLow, XHigh, YLow, YHigh, ZLow, ZHigh}
use Rattle.terrain.specs.Curves.{Polygon}
use Rattle.terrain.specs.Cells.{regular_faces, transition_faces}
use Rattle.terrain.specs.declared.cells.TheConstants.{REGULAR_CASES, TRANSITION_CASES}

-- where all items of a list pass, what follows of each holds of all
pub All-passing : {X : Type 0} (test : X → Bool) (P : X → Type 0)
    → ((x : X) → test x ≡ true → P x) → (xs : List X) → list_all test xs ≡ true
    → AllByRecursion P xs
All-passing test P each [] pass = tt
All-passing test P each (x ∷ xs) pass =
    let parts = and_parts (test x) (list_all test xs) pass in
    (each x parts.0, All-passing test P each xs parts.1)

-- whether all numbers below n pass
abbrev pub all_below : ℕ → (ℕ → Bool) → Bool
all_below n test = agree_below test (λ k. true) n

-- where they do, each of them does
pub at_below : (n : ℕ) (test : ℕ → Bool) → all_below n test ≡ true → (k : ℕ) → k < n → test k ≡ true
at_below n test pass k lt = agree_below_at test (λ k. true) n k pass lt

-- whether the faces of each regular cell pass
unfoldable pub all_regular : (ℕ → List Polygon → Bool) → Bool
all_regular test = all_below REGULAR_CASES (λ signs. test signs (regular_faces signs))

-- where they do, those of one sign number do
pub at_regular : (test : ℕ → List Polygon → Bool) → all_regular test ≡ true → (signs : ℕ)
    → signs < REGULAR_CASES → test signs (regular_faces signs) ≡ true
unfolding all_regular
at_regular test pass signs lt =
    at_below REGULAR_CASES (λ signs. test signs (regular_faces signs)) pass signs lt

-- whether the faces of each transition cell pass, in both turns
unfoldable pub all_transition : (ℕ → List Polygon → Bool) → Bool
all_transition test = all_below TRANSITION_CASES (λ signs.
    test signs (transition_faces XHigh signs) && test signs (transition_faces XLow signs))

-- where they do, those of one sign number do, on each face
pub at_transition : (test : ℕ → List Polygon → Bool) → all_transition test ≡ true → (face : Face)
    (signs : ℕ) → signs < TRANSITION_CASES → test signs (transition_faces face signs) ≡ true
unfolding all_transition
at_transition test pass face signs lt =
    let straight : ℕ → Bool = λ signs. test signs (transition_faces XHigh signs) in
    let reversed : ℕ → Bool = λ signs. test signs (transition_faces XLow signs) in
    let both = and_parts (straight signs) (reversed signs)
    (at_below TRANSITION_CASES (λ signs. straight signs && reversed signs) pass signs lt) in
    go face both.0 both.1
  where
    go : (face : Face) → test signs (transition_faces XHigh signs) ≡ true
        → test signs (transition_faces XLow signs) ≡ true
        → test signs (transition_faces face signs) ≡ true
    go XLow straight reversed = reversed
    go XHigh straight reversed = straight
    go YLow straight reversed = straight
    go YHigh straight reversed = reversed
    go ZLow straight reversed = reversed
    go ZHigh straight reversed = straight
