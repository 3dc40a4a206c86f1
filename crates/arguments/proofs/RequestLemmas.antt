-- Arguments against the one that they may be alone, and those of a drill or of editors against other forms.
-- Those of one form have a first argument that differs from the first of each other form in a byte (`drill_alone`,
-- `editing_alone`), so what was found in them is all that they ask for.
use Rattle.std.proofs.Common.{◌≡◌, ℕ, ◌<◌, ◌≤◌, Bool, List, [], ◌∷◌, length, get_or, nat_eq, sym, ap, ◌∙◌, arith}
use Rattle.std.specs.Prelude.{IsTrue}
use Rattle.std.specs.Borrow.{Bor}
use lib.Pointwise.{bytes_decides, pointwise}
use Rattle.std.proofs.lemmas.Bool.{false≢true}
use Rattle.arguments.specs.Drill.{IsDrill}
use Rattle.arguments.specs.Editing.{IsEditing}
use Rattle.arguments.specs.Request.{AskFor, IsOnly, texts}
use Rattle.arguments.specs.declared.drill.Drill.{Drill as DrillOf}
use Rattle.arguments.specs.declared.editing.Editing.{Editing as EditingOf}
use Rattle.arguments.specs.declared.request.Request.{Request}
use Rattle.arguments.specs.declared.request.Request.TheVariants.{Drill, Edit, Help, Mirror, Run, Version, Wire}

-- the first of a list, or nothing
head_of : List (List ℕ) → List ℕ
head_of [] = []
head_of (argument ∷ behind) = argument

-- one argument is the text, if their bytes are the same
pub is_only_one : (text : List ℕ) (arguments : List (Bor (List ℕ))) (d : Bor (List ℕ)) (b : Bool)
    → 1 ≤ length arguments → length arguments < 2
    → b ≡ pointwise nat_eq (get_or arguments 0 d).now text
    → (IsTrue b → IsOnly text (texts arguments)) × (IsOnly text (texts arguments) → IsTrue b)
unfolding head_of
is_only_one text [] d b least most test = absurd (omega arith)
is_only_one text (argument ∷ []) d b least most test = (
  λ yes. ap (λ w. w ∷ []) ((bytes_decides argument.now text).0 (sym test ∙ yes)),
  λ only. test ∙ (bytes_decides argument.now text).1 (ap head_of only),
)
is_only_one text (argument ∷ next ∷ behind) d b least most test = absurd (omega arith)

-- the arguments of a drill ask for nothing else: the first of another form has another third byte
pub drill_alone : (arguments : List (List ℕ)) (drill : DrillOf) (request : Request)
    → IsDrill arguments drill
    → ((other : DrillOf) → IsDrill arguments other → other ≡ drill)
    → AskFor arguments request → Drill drill ≡ request
drill_alone arguments drill Help is one asked =
    absurd (false≢true (ap (λ l. nat_eq (get_or (get_or l 0 []) 2 0) 104) (sym is.form ∙ asked)))
drill_alone arguments drill Version is one asked =
    absurd (false≢true (ap (λ l. nat_eq (get_or (get_or l 0 []) 2 0) 118) (sym is.form ∙ asked)))
drill_alone arguments drill (Run options) is one asked =
    absurd (false≢true
    (ap (λ l. nat_eq (get_or (get_or l 0 []) 2 0) 110) (sym is.form ∙ asked.form)))
drill_alone arguments drill (Drill other) is one asked = ap Drill (sym (one other asked))
drill_alone arguments drill (Edit other) is one asked =
    absurd (false≢true
    (ap (λ l. nat_eq (get_or (get_or l 0 []) 0 0) 101) (sym is.form ∙ asked.form)))
drill_alone arguments drill Wire is one asked =
    absurd (false≢true (ap (λ l. nat_eq (get_or (get_or l 0 []) 2 0) 114) (sym is.form ∙ asked)))
drill_alone arguments drill Mirror is one asked =
    absurd (false≢true (ap (λ l. nat_eq (get_or (get_or l 0 []) 2 0) 114) (sym is.form ∙ asked)))

-- nor do those of editors
pub editing_alone : (arguments : List (List ℕ)) (editing : EditingOf) (request : Request)
    → IsEditing arguments editing
    → ((other : EditingOf) → IsEditing arguments other → other ≡ editing)
    → AskFor arguments request → Edit editing ≡ request
editing_alone arguments editing Help is one asked =
    absurd (false≢true (ap (λ l. nat_eq (get_or (get_or l 0 []) 2 0) 104) (sym is.form ∙ asked)))
editing_alone arguments editing Version is one asked =
    absurd (false≢true (ap (λ l. nat_eq (get_or (get_or l 0 []) 2 0) 118) (sym is.form ∙ asked)))
editing_alone arguments editing (Run options) is one asked =
    absurd (false≢true
    (ap (λ l. nat_eq (get_or (get_or l 0 []) 2 0) 110) (sym is.form ∙ asked.form)))
editing_alone arguments editing (Drill other) is one asked =
    absurd (false≢true
    (ap (λ l. nat_eq (get_or (get_or l 0 []) 0 0) 101) (sym asked.form ∙ is.form)))
editing_alone arguments editing (Edit other) is one asked = ap Edit (sym (one other asked))
editing_alone arguments editing Wire is one asked =
    absurd (false≢true (ap (λ l. nat_eq (get_or (get_or l 0 []) 2 0) 114) (sym is.form ∙ asked)))
editing_alone arguments editing Mirror is one asked =
    absurd (false≢true (ap (λ l. nat_eq (get_or (get_or l 0 []) 2 0) 114) (sym is.form ∙ asked)))
