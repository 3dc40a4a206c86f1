-- The readings of both lines, by computing.
use Rattle.std.proofs.Common.{◌≡◌, ◌∙◌, ℕ, length, refl, ap, sym, arith}
use Rattle.std.specs.Prelude.{codes, Result, Ok, List}
use Rattle.std.specs.Cmp.Lexicographic.{same_text}
use Rattle.std.specs.Str.{chars, is_utf8}
use Rattle.std.proofs.Math.Utf8.{encode}
use Rattle.json.specs.Json.{value, items, members}
use Rattle.json.specs.Lex.{lex, punctuate}
use Rattle.json.specs.Text.{content}
use Rattle.json.specs.Word.{word}
use Rattle.terrain.specs.declared.event.Event.TheVariants.{Undo}
use Rattle.camera_script.specs.declared.commands.Command.{Command}
use Rattle.camera_script.specs.declared.commands.Command.TheVariants.{Event, Stats}
use Rattle.camera_script.specs.declared.fault.LineFault.{LineFault}
use Rattle.camera_script.specs.Line.{json_value, line_members}
use Rattle.camera_script.specs.Reading.{command_in, command_reading, form_command}
use Rattle.camera_script.proofs.reading.short_command.Goals as goal

-- the line of stats
stats-read : (depth : ℕ) → command_reading depth (codes "{\"do\":\"stats\"}") ≡ Ok Stats
unfolding command_in form_command line_members json_value is_utf8 chars encode
    value lex punctuate content word
stats-read depth = refl

-- the line of an undo
undo-read : (depth : ℕ) → command_reading depth (codes "{\"do\":\"undo\"}") ≡ Ok (Event Undo)
unfolding command_in form_command line_members json_value is_utf8 chars encode
    value lex punctuate content word
undo-read depth = refl

pub returns-then-eq-clause-reading : goal.returns-then-eq-clause-reading
returns-then-eq-clause-reading c = λ depth.
    ap (command_reading depth) (same_text _ _ (sym c.if-eq.true ∙ c.eq.ensures)) ∙ stats-read depth

pub returns-then-eq-clause-few : goal.returns-then-eq-clause-few
returns-then-eq-clause-few c =
    let line : List ℕ = c.args.line.now in
    let long : length line ≡ 14 = ap length (same_text line _ (sym c.if-eq.true ∙ c.eq.ensures)) in
    omega (arith, long)

pub returns-then-eq-2-clause-reading : goal.returns-then-eq-2-clause-reading
returns-then-eq-2-clause-reading c = λ depth.
    ap (command_reading depth) (same_text _ _ (sym c.if-eq-2.true ∙ c.eq-else-eq.ensures))
    ∙ undo-read depth

pub returns-then-eq-2-clause-few : goal.returns-then-eq-2-clause-few
returns-then-eq-2-clause-few c =
    let line : List ℕ = c.args.line.now in
    let long : length line ≡ 13 =
    ap length (same_text line _ (sym c.if-eq-2.true ∙ c.eq-else-eq.ensures)) in
    omega (arith, long)
