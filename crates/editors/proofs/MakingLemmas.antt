-- Editors that are made, one after another.
use Rattle.std.proofs.Common.{◌≡◌, ℕ, ◌+◌, ◌<◌, List, [], ◌∷◌, ◌++◌, length, slice_index_or, subst, sym, arith, zero, suc}
use Rattle.editors.specs.declared.editor.Editor.{Editor}
use Rattle.editors.specs.Mail.{AreNumbered}

-- one more, whose number is the next, at a place of the list with it
numbered-at : (first : ℕ) (editors : List Editor) (editor : Editor)
    → editor.number ≡ first + length editors
    → ((k : ℕ) (d : Editor) → k < length editors → (slice_index_or editors k d).number ≡ first + k)
    → (k : ℕ) (d : Editor) → k < length (editors ++ editor ∷ [])
    → (slice_index_or (editors ++ editor ∷ []) k d).number ≡ first + k
numbered-at first [] editor next are zero d within = omega (arith, next)
numbered-at first [] editor next are (suc k) d within = absurd (omega arith)
numbered-at first (e ∷ editors) editor next are zero d within = are 0 d (omega arith)
numbered-at first (e ∷ editors) editor next are (suc k) d within =
    omega (
      arith,
      numbered-at (first + 1) editors editor (omega (arith, next))
          (λ i x i_in. omega (arith, are (suc i) x (omega arith))) k d (omega arith),
    )

-- so the list with it is numbered
pub numbered-push : (editors : List Editor) (editor : Editor) (all : List Editor)
    → all ≡ editors ++ editor ∷ [] → editor.number ≡ length editors → AreNumbered editors
    → AreNumbered all
numbered-push editors editor all is next are =
    subst AreNumbered (sym is) (λ k d within.
    omega (
      arith,
      numbered-at 0 editors editor (omega (arith, next))
          (λ i x i_in. omega (arith, are i x i_in)) k d within,
    ))
