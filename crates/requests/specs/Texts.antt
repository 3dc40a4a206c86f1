-- The text of a script that is carried out in a form: its output, and what comes behind that. This project's rule.
use Rattle.std.specs.Prelude.{ℕ, ◌*◌, Bool, true, false, List, [], ◌++◌, nat_eq, if◌then◌else◌, Option, Some, None, ⊤}
use Rattle.arguments.specs.Options.{IsAllowed}
use Rattle.arguments.specs.declared.options.Options.{Options}
use Rattle.mesh_out.specs.Text.{watch_text}
use Rattle.requests.specs.declared.form.Form.{Form}
use Rattle.requests.specs.declared.form.Form.TheVariants as forms
use Rattle.script_play.specs.Ending.{output_of, wire_of}
use Rattle.script_play.specs.Script.{Refusal, Said}

-- the line of a run's watchers, which counts all looks that the options ask for, no crack, and no look that went back;
-- a run without watchers has none
abbrev pub watch_line : Options → List ℕ
watch_line options =
    if nat_eq options.watchers 0 then []
    else watch_text (record { looks = options.watchers * options.looks; cracks = 0; backward = 0 })

-- what comes behind the output of a script: that line, where the end of the input was seen and no line is refused
abbrev pub closing : Options → Option Refusal → Bool → List ℕ
closing options None true = watch_line options
closing options None false = []
closing options (Some refusal) ended = []

-- the text of a run with these options: the output of what was said, and the line of the watchers behind it
abbrev pub text_of : Options → Bool → Said → List ℕ
text_of options ended said = output_of said ++ closing options said.refusal ended

-- the output of a script in a form, and the text with what comes behind that
abbrev pub output_in : Form → Said → List ℕ
output_in (forms.Text options) said = output_of said
output_in forms.Wire said = wire_of said

abbrev pub text_in : Form → Bool → Said → List ℕ
text_in (forms.Text options) ended said = text_of options ended said
text_in forms.Wire ended said = wire_of said

-- the options of a form are in their ranges
abbrev pub IsAllowedForm : Form → Type 0
IsAllowedForm (forms.Text options) = IsAllowed options
IsAllowedForm forms.Wire = ⊤
