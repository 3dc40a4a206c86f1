-- What a run promises of its arguments, from what was found in them and how that was carried out.
-- A run has the row of the table for what was found (`performed-ran`), unless that is a mirror, which has a table of
-- its own. Arguments that ask for a script ask for no mirror, so the table gives both ways of the statuses of a script
-- (`exact-performed`, `limit-performed`). Nothing that is carried out ends with bad words (`performed-nothing`).
use Rattle.std.proofs.Common.{◌≡◌, ℕ, ◌↔◌, List, Option, None, Some, length, refl, subst, sym, ◌∙◌}
use Rattle.arguments.specs.Request.{AskFor, AskForNoTask}
use Rattle.arguments.specs.declared.request.Request.{Request}
use Rattle.arguments.specs.declared.request.Request.TheVariants as requests
use Rattle.terra_io.specs.Stream.{Stream}
use Rattle.terra_run.proofs.RanLemmas.{Ran-edited, Ran-drilled, Ran-plays, Ran-refused}
use Rattle.terra_run.proofs.ExactLemmas.{IsOneRequest, exact-status, limit-status}
use Rattle.terra_run.proofs.MirroringLemmas.{mirrored-no_words}
use Rattle.terra_run.proofs.RequestLemmas.{form-no_mirror, none-no_task, text-no_task}
use Rattle.requests.specs.Drilled.{IsDrilled}
use Rattle.requests.specs.Edited.{HaveEdited}
use Rattle.terra_run.specs.Performed.{DoesNothing, IsPerformed, ReadsNothing}
use Rattle.script_play.specs.Play.{Plays}
use Rattle.terra_run.specs.Run.{IsExact, IsExactAtLimit, Ran, request_of}
use Rattle.requests.specs.Texts.{text_in}
use Rattle.script_play.specs.Script.{said_by}
use Rattle.requests.specs.declared.form.Form.TheVariants as forms
use Rattle.script_play.specs.declared.status.Status.{Status}
use Rattle.script_play.specs.declared.status.Status.TheVariants.{BadWords}

-- the run of arguments that ask for no task
ran-nothing : (arguments : List (List ℕ)) (source source' sink sink' : Stream) (status : Status)
    → AskForNoTask arguments → source' ≡ source → sink' ≡ sink → status ≡ BadWords
    → Ran arguments source source' sink sink' status
ran-nothing arguments source source' sink sink' status other unread unwritten is =
    subst (λ s. Ran arguments source s sink sink' status) (sym unread)
    (subst (λ s. Ran arguments source source sink s status) (sym unwritten)
    (subst (Ran arguments source source sink sink) (sym is)
    (Ran-refused arguments source sink other)))

-- the run of what was found, but for a mirror
pub performed-ran : (arguments : List (List ℕ)) (found : Option Request)
    (source source' sink sink' : Stream) (status : Status)
    → ((request : Request) → AskFor arguments request ↔ (found ≡ Some request))
    → IsPerformed found source source' sink sink' status
    → (ReadsNothing found → source' ≡ source) → (DoesNothing found → sink' ≡ sink)
    → (AskFor arguments requests.Mirror → ⊥) → Ran arguments source source' sink sink' status
performed-ran arguments None source source' sink sink' status tells is unread unwritten other =
    ran-nothing arguments source source' sink sink' status
    (none-no_task arguments None tells refl) (unread _) (unwritten _) is
performed-ran arguments (Some requests.Help) source source' sink sink' status tells is unread
    unwritten other =
    ran-nothing arguments source source' sink sink' status
    (text-no_task arguments (Some requests.Help) tells requests.Help (λ task. task) refl)
    (unread _) (unwritten _) is
performed-ran arguments (Some requests.Version) source source' sink sink' status tells is unread
    unwritten other =
    ran-nothing arguments source source' sink sink' status
    (text-no_task arguments (Some requests.Version) tells requests.Version (λ task. task) refl)
    (unread _) (unwritten _) is
performed-ran arguments (Some (requests.Run options)) source source' sink sink' status tells is
    unread unwritten other =
    Ran-plays arguments (forms.Text options) source source' sink sink' status
    ((tells (requests.Run options)).1 refl) is
performed-ran arguments (Some (requests.Drill drill)) source source' sink sink' status tells is
    unread unwritten other =
    subst (λ s. Ran arguments source s sink sink' status) (sym (unread _))
    (Ran-drilled arguments drill source sink sink' status ((tells (requests.Drill drill)).1 refl)
    is)
performed-ran arguments (Some (requests.Edit asked)) source source' sink sink' status tells is
    unread unwritten other =
    subst (λ s. Ran arguments source s sink sink' status) (sym (unread _))
    (Ran-edited arguments asked source sink sink' status ((tells (requests.Edit asked)).1 refl)
    is)
performed-ran arguments (Some requests.Wire) source source' sink sink' status tells is unread
    unwritten other =
    Ran-plays arguments forms.Wire source source' sink sink' status
    ((tells requests.Wire).1 refl) is
performed-ran arguments (Some requests.Mirror) source source' sink sink' status tells is unread
    unwritten other = absurd (other ((tells requests.Mirror).1 refl))

-- of a script below the limit, the other way round
pub exact-performed : (arguments : List (List ℕ)) (source source' sink sink' : Stream)
    (status : Status) → IsOneRequest arguments
    → ((AskFor arguments requests.Mirror → ⊥) → Ran arguments source source' sink sink' status)
    → IsExact arguments source source' sink sink' status
exact-performed arguments source source' sink sink' status one ran input told below form asked
    calm calm' =
    exact-status arguments source source' sink sink' status
    (ran (λ mirror. form-no_mirror form (one (request_of form) requests.Mirror asked mirror))) one
    input told below form asked calm calm'

-- of a longer one
pub limit-performed : (arguments : List (List ℕ)) (source source' sink sink' : Stream)
    (status : Status) → IsOneRequest arguments
    → ((AskFor arguments requests.Mirror → ⊥) → Ran arguments source source' sink sink' status)
    → IsExactAtLimit arguments source source' sink sink' status
limit-performed arguments source source' sink sink' status one ran input told above form asked
    calm calm' =
    limit-status arguments source source' sink sink' status
    (ran (λ mirror. form-no_mirror form (one (request_of form) requests.Mirror asked mirror))) one
    input told above form asked calm calm'

-- what ends with bad words did nothing
pub performed-nothing : (found : Option Request) (source source' sink sink' : Stream)
    (status : Status) → IsPerformed found source source' sink sink' status → status ≡ BadWords
    → DoesNothing found × ReadsNothing found
performed-nothing None source source' sink sink' status done is = (_, _)
performed-nothing (Some requests.Help) source source' sink sink' status done is = (_, _)
performed-nothing (Some requests.Version) source source' sink sink' status done is = (_, _)
performed-nothing (Some (requests.Run options)) source source' sink sink' status done is =
    let bad = subst (Plays length said_by (text_in (forms.Text options)) source source' sink sink')
    is done in
    absurd bad.table
performed-nothing (Some (requests.Drill drill)) source source' sink sink' status done is =
    absurd (subst (IsDrilled drill sink sink') is done)
performed-nothing (Some (requests.Edit asked)) source source' sink sink' status done is =
    let bad = subst (HaveEdited asked sink sink') is done in absurd bad.2
performed-nothing (Some requests.Wire) source source' sink sink' status done is =
    let bad = subst (Plays length said_by (text_in forms.Wire) source source' sink sink') is
    done in
    absurd bad.table
performed-nothing (Some requests.Mirror) source source' sink sink' status done is =
    absurd (mirrored-no_words done.result (sym done.status_is ∙ is))
