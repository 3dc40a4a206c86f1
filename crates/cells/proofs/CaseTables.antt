-- Tables of cases, case by case.
use Rattle.std.proofs.Common.{◌≡◌, ℕ, ◌+◌, ◌<◌, List, [], ◌∷◌, ◌++◌, length, get_or, sym, ap, ◌∙◌, subst, arith, ◌⊎◌, inl, inr, length-append}
use Rattle.std.proofs.lemmas.List.{get_or_append_left}
use Rattle.std.proofs.Math.Seq.{get_or-append_seam}
use Rattle.std.specs.List.{AllByRecursion}
use Rattle.terrain.specs.Curves.{Polygon, fan}
use Rattle.terrain.specs.Cells.{triangles_of}
use Rattle.cells.specs.declared.case.Case.{Case}
use Rattle.cells.specs.Cases.{IsCase, AreCases}
use Rattle.cells.proofs.FanKeys.{All-fan}

-- one more case behind those of a table
pub cases-more : (faces : ℕ → List Polygon) (bound count : ℕ) (cases : List Case) (case : Case)
    → AreCases faces bound count cases → IsCase (faces count) bound case
    → AreCases faces bound (count + 1) (cases ++ case ∷ [])
cases-more faces bound count cases case so_far here = record {
  whole = length-append cases (case ∷ []) ∙ ap (λ n. n + 1) so_far.whole;
  each = λ signs none lt.
      let places : (signs < count) ⊎ (count ≡ signs) = grind arith in
      elim places [
        | inl below ↦
            let within : signs < length cases = omega (arith, so_far.whole, below) in
            subst (IsCase (faces signs) bound) (sym
            (get_or_append_left cases (case ∷ []) none signs within))
            (so_far.each signs none below)
        | inr same ↦
            subst (λ (i : ℕ). IsCase (faces i) bound (get_or (cases ++ case ∷ []) i none)) same
            (subst (λ (i : ℕ). IsCase (faces count) bound (get_or (cases ++ case ∷ []) i none))
            so_far.whole
            (subst (IsCase (faces count) bound) (sym (get_or-append_seam cases case [] none)) here))
      ];
}

-- the case at the place of a sign number is the one of that number
pub case-at : (faces : ℕ → List Polygon) (bound count signs place : ℕ) (cases : List Case)
    (case : Case) → AreCases faces bound count cases → signs < count → place ≡ signs
    → case ≡ get_or cases place case → IsCase (faces signs) bound case
case-at faces bound count signs place cases case all within same is =
    subst (IsCase (faces signs) bound) (sym (is ∙ ap (λ i. get_or cases i case) same))
    (all.each signs case within)

-- what holds of the keys of a case's loops holds of those of its triangles
pub triangles-below : (faces : List Polygon) (bound : ℕ) (case : Case) → IsCase faces bound case
    → AllByRecursion (AllByRecursion (λ key. key < bound)) case.triangles.items
unfolding triangles_of
triangles-below faces bound case is =
    subst (AllByRecursion (AllByRecursion (λ key. key < bound)))
    (ap fan is.loops.exact ∙ sym is.triangles)
    (All-fan (λ key. key < bound) case.loops is.loops.below)
