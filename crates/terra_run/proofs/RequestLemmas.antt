-- Arguments ask for one thing alone, which is what was found in them: a run, a wire, a drill, several editors, a text,
-- or nothing.
-- `request_in` says that what it finds is what the arguments ask for. So two things that they ask for are the same
-- (one_request), and a number for each form tells that arguments of one form are of no other (form-no_drill,
-- drill-no_form). Those of a text, and those in which nothing was found, ask for no task (text-no_task, none-no_task).
-- At the end the two texts, which `program` knows by their one argument.
use Rattle.std.proofs.Common.{◌≡◌, ℕ, ◌↔◌, List, [], get_or, nat_eq, Option, None, Some, sym, ap, ◌∙◌, subst, arith}
use Rattle.std.proofs.lemmas.Bool.{false≢true}
use Rattle.std.proofs.lemmas.Option.{none-some, same_Some}
use Rattle.arguments.specs.Drill.{IsDrill}
use Rattle.arguments.specs.Editing.{IsEditing}
use Rattle.arguments.specs.Request.{AskFor, AskForNoTask, IsTask}
use Rattle.arguments.specs.declared.drill.Drill.{Drill}
use Rattle.arguments.specs.declared.editing.Editing.{Editing}
use Rattle.terra_run.specs.Run.{request_of}
use Rattle.requests.specs.declared.form.Form.{Form}
use Rattle.requests.specs.declared.form.Form.TheVariants as forms
use Rattle.arguments.specs.declared.request.Request.{Request}
use Rattle.arguments.specs.declared.request.Request.TheVariants as requests
use Rattle.terra_run.proofs.ExactLemmas.{IsOneRequest}

-- a number for each form
form_number : Request → ℕ
form_number requests.Help = 0
form_number requests.Version = 1
form_number (requests.Run options) = 2
form_number (requests.Drill drill) = 3
form_number (requests.Edit asked) = 4
form_number requests.Wire = 5
form_number requests.Mirror = 6

-- the drill that is asked for, or another
drill_or : Drill → Request → Drill
drill_or other requests.Help = other
drill_or other requests.Version = other
drill_or other (requests.Run options) = other
drill_or other (requests.Drill drill) = drill
drill_or other (requests.Edit asked) = other
drill_or other requests.Wire = other
drill_or other requests.Mirror = other

-- what is asked of editors, or another
editing_or : Editing → Request → Editing
editing_or other requests.Help = other
editing_or other requests.Version = other
editing_or other (requests.Run options) = other
editing_or other (requests.Drill drill) = other
editing_or other (requests.Edit asked) = asked
editing_or other requests.Wire = other
editing_or other requests.Mirror = other

-- a form is no mirror
pub form-no_mirror : (form : Form) → request_of form ≡ requests.Mirror → ⊥
form-no_mirror (forms.Text options) is = cc
form-no_mirror forms.Wire is = cc

-- what the arguments ask for is what was found in them
module _ (arguments : List (List ℕ)) (found : Option Request)
    (tells : (request : Request) → AskFor arguments request ↔ (found ≡ Some request)) where
  -- they ask for one thing
  pub one_request : IsOneRequest arguments
  one_request one other asked too =
      same_Some one other (sym ((tells one).0 asked) ∙ (tells other).0 too)

  -- where nothing was found, they ask for nothing
  pub none-asked : (request : Request) → found ≡ None → AskFor arguments request → ⊥
  none-asked request none asked = none-some request (sym none ∙ (tells request).0 asked)

  -- and where something was, for that
  pub same-asked : (request other : Request) → found ≡ Some request → AskFor arguments other
      → other ≡ request
  same-asked request other is asked = same_Some other request (sym ((tells other).0 asked) ∙ is)

  -- a drill is the one that was found
  pub same-drill : (drill asked : Drill) → found ≡ Some (requests.Drill drill)
      → IsDrill arguments asked → asked ≡ drill
  unfolding drill_or
  same-drill drill asked is asks =
      ap (drill_or drill) (same-asked (requests.Drill drill) (requests.Drill asked) is asks)

  -- where what asks for a form was found, they ask for no drill
  pub form-no_drill : (form : Form) (asked : Drill) → found ≡ Some (request_of form)
      → IsDrill arguments asked → ⊥
  unfolding form_number
  form-no_drill (forms.Text options) asked is asks =
      let same =
      ap form_number (same-asked (requests.Run options) (requests.Drill asked) is asks) in
      omega (arith, same)
  form-no_drill forms.Wire asked is asks =
      let same =
      ap form_number (same-asked requests.Wire (requests.Drill asked) is asks) in
      omega (arith, same)

  -- where a drill was found, for no form
  pub drill-no_form : (drill : Drill) (form : Form) → found ≡ Some (requests.Drill drill)
      → AskFor arguments (request_of form) → ⊥
  unfolding form_number
  drill-no_form drill (forms.Text options) is asks =
      let same =
      ap form_number (same-asked (requests.Drill drill) (requests.Run options) is asks) in
      omega (arith, same)
  drill-no_form drill forms.Wire is asks =
      let same =
      ap form_number (same-asked (requests.Drill drill) requests.Wire is asks) in
      omega (arith, same)

  -- what is asked of editors is what was found
  pub same-editing : (editing asked : Editing) → found ≡ Some (requests.Edit editing)
      → IsEditing arguments asked → asked ≡ editing
  unfolding editing_or
  same-editing editing asked is asks =
      ap (editing_or editing) (same-asked (requests.Edit editing) (requests.Edit asked) is asks)

  -- where editors were found, for no form
  pub edit-no_form : (editing : Editing) (form : Form) → found ≡ Some (requests.Edit editing)
      → AskFor arguments (request_of form) → ⊥
  unfolding form_number
  edit-no_form editing (forms.Text options) is asks =
      let same =
      ap form_number (same-asked (requests.Edit editing) (requests.Run options) is asks) in
      omega (arith, same)
  edit-no_form editing forms.Wire is asks =
      let same =
      ap form_number (same-asked (requests.Edit editing) requests.Wire is asks) in
      omega (arith, same)

  -- where editors were found, for no drill
  pub edit-no_drill : (editing : Editing) (asked : Drill) → found ≡ Some (requests.Edit editing)
      → IsDrill arguments asked → ⊥
  unfolding form_number
  edit-no_drill editing asked is asks =
      let same =
      ap form_number (same-asked (requests.Edit editing) (requests.Drill asked) is asks) in
      omega (arith, same)

  -- where what asks for a form was found, for no editors
  pub form-no_edit : (form : Form) (asked : Editing) → found ≡ Some (request_of form)
      → IsEditing arguments asked → ⊥
  unfolding form_number
  form-no_edit (forms.Text options) asked is asks =
      let same =
      ap form_number (same-asked (requests.Run options) (requests.Edit asked) is asks) in
      omega (arith, same)
  form-no_edit forms.Wire asked is asks =
      let same =
      ap form_number (same-asked requests.Wire (requests.Edit asked) is asks) in
      omega (arith, same)

  -- where a drill was found, for no editors
  pub drill-no_edit : (drill : Drill) (asked : Editing) → found ≡ Some (requests.Drill drill)
      → IsEditing arguments asked → ⊥
  unfolding form_number
  drill-no_edit drill asked is asks =
      let same =
      ap form_number (same-asked (requests.Drill drill) (requests.Edit asked) is asks) in
      omega (arith, same)

  -- where something else was found, they ask for no mirror
  pub no_mirror : (request : Request) → (request ≡ requests.Mirror → ⊥) → found ≡ Some request
      → AskFor arguments requests.Mirror → ⊥
  no_mirror request other is asks = other (sym (same-asked request requests.Mirror is asks))

  -- and where a mirror was found, for nothing else
  pub mirror-alone : (request : Request) → (request ≡ requests.Mirror → ⊥)
      → found ≡ Some requests.Mirror → AskFor arguments request → ⊥
  mirror-alone request other is asks = other (same-asked requests.Mirror request is asks)

  -- and where a text was found, for no task
  pub text-no_task : (request : Request) → (IsTask request → ⊥) → found ≡ Some request
      → AskForNoTask arguments
  text-no_task request text is other task asked =
      text (subst IsTask (same-asked request other is asked) task)

  -- nor where nothing was
  pub none-no_task : found ≡ None → AskForNoTask arguments
  none-no_task none other task asked = none-asked other none asked

-- ---- a text alone: the first argument of another form has another third byte

-- the help is no run
pub help-no_run : (arguments : List (List ℕ)) (form : Form)
    → AskFor arguments requests.Help → AskFor arguments (request_of form) → ⊥
help-no_run arguments (forms.Text options) only asked =
    false≢true (ap (λ l. nat_eq (get_or (get_or l 0 []) 2 0) 110) (sym only ∙ asked.form))
help-no_run arguments forms.Wire only asked =
    false≢true (ap (λ l. nat_eq (get_or (get_or l 0 []) 2 0) 114) (sym only ∙ asked))

-- nor is the version
pub version-no_run : (arguments : List (List ℕ)) (form : Form)
    → AskFor arguments requests.Version → AskFor arguments (request_of form) → ⊥
version-no_run arguments (forms.Text options) only asked =
    false≢true (ap (λ l. nat_eq (get_or (get_or l 0 []) 2 0) 110) (sym only ∙ asked.form))
version-no_run arguments forms.Wire only asked =
    false≢true (ap (λ l. nat_eq (get_or (get_or l 0 []) 2 0) 114) (sym only ∙ asked))

-- neither is a mirror, whose first argument has another byte there
pub help-no_mirror : (arguments : List (List ℕ)) → AskFor arguments requests.Help
    → AskFor arguments requests.Mirror → ⊥
help-no_mirror arguments only asked =
    false≢true (ap (λ l. nat_eq (get_or (get_or l 0 []) 2 0) 114) (sym only ∙ asked))

-- nor is the version
pub version-no_mirror : (arguments : List (List ℕ)) → AskFor arguments requests.Version
    → AskFor arguments requests.Mirror → ⊥
version-no_mirror arguments only asked =
    false≢true (ap (λ l. nat_eq (get_or (get_or l 0 []) 2 0) 114) (sym only ∙ asked))
