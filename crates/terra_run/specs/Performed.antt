-- What is done where something is asked for, or nothing. This project's rule.
use Rattle.std.specs.Prelude.{◌≡◌, length, Option, Some, None, ⊤}
use Rattle.arguments.specs.declared.request.Request.{Request}
use Rattle.arguments.specs.declared.request.Request.TheVariants as requests
use Rattle.terra_io.specs.Stream.{Stream}
use Rattle.requests.specs.Drilled.{IsDrilled}
use Rattle.requests.specs.Edited.{HaveEdited}
use Rattle.requests.specs.Mirroring.{HasMirrored}
use Rattle.script_play.specs.Play.{Plays}
use Rattle.requests.specs.Texts.{text_in}
use Rattle.script_play.specs.Script.{said_by}
use Rattle.requests.specs.declared.form.Form.TheVariants as forms
use Rattle.script_play.specs.declared.status.Status.{Status}
use Rattle.script_play.specs.declared.status.Status.TheVariants.{BadWords}

-- what was asked for was carried out, and ended so
abbrev pub IsPerformed : Option Request → Stream → Stream → Stream → Stream → Status → Type 0
IsPerformed None source source' sink sink' status = status ≡ BadWords
IsPerformed (Some requests.Help) source source' sink sink' status = status ≡ BadWords
IsPerformed (Some requests.Version) source source' sink sink' status = status ≡ BadWords
IsPerformed (Some (requests.Run options)) source source' sink sink' status =
    Plays length said_by (text_in (forms.Text options)) source source' sink sink' status
IsPerformed (Some (requests.Drill drill)) source source' sink sink' status =
    IsDrilled drill sink sink' status
IsPerformed (Some (requests.Edit asked)) source source' sink sink' status =
    HaveEdited asked sink sink' status
IsPerformed (Some requests.Wire) source source' sink sink' status =
    Plays length said_by (text_in forms.Wire) source source' sink sink' status
IsPerformed (Some requests.Mirror) source source' sink sink' status =
    HasMirrored source source' sink sink' status

-- nothing is read for that
abbrev pub ReadsNothing : Option Request → Type 0
ReadsNothing None = ⊤
ReadsNothing (Some requests.Help) = ⊤
ReadsNothing (Some requests.Version) = ⊤
ReadsNothing (Some (requests.Run options)) = ⊥
ReadsNothing (Some (requests.Drill drill)) = ⊤
ReadsNothing (Some (requests.Edit asked)) = ⊤
ReadsNothing (Some requests.Wire) = ⊥
ReadsNothing (Some requests.Mirror) = ⊥

-- nor written
abbrev pub DoesNothing : Option Request → Type 0
DoesNothing None = ⊤
DoesNothing (Some requests.Help) = ⊤
DoesNothing (Some requests.Version) = ⊤
DoesNothing (Some (requests.Run options)) = ⊥
DoesNothing (Some (requests.Drill drill)) = ⊥
DoesNothing (Some (requests.Edit asked)) = ⊥
DoesNothing (Some requests.Wire) = ⊥
DoesNothing (Some requests.Mirror) = ⊥
