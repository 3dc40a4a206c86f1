-- By what came of the first line.
use Rattle.std.proofs.Common.{◌≡◌, ◌⊎◌, List, ℕ, subst, sym}
use Rattle.std.specs.Prelude.{Err, Ok}
use Rattle.std.proofs.lemmas.Bool.{true≢false}
use Rattle.std.proofs.lemmas.Result.{err_from_is_err_and}
use Rattle.camera_script.specs.declared.fault.LineFault.TheVariants.{NoMemory}
use Rattle.camera_script.specs.Reading.{head_reading}
use Rattle.script_play.specs.Input.{AdvancesTo, Stops, TakesFor, fresh_input, this_line}
use Rattle.script_play.specs.Statuses.{status_from}
use Rattle.requests.specs.Texts.{text_in}
use Rattle.requests.proofs.HeadLemmas.{plays_head, plays_lines, plays_missing, plays_stops_first}
use Rattle.requests.proofs.play.carry_out_script.Goals as goal

pub returns-in_err-advance : goal.returns-in_err-advance
returns-in_err-advance g c =
    let source = g.S.Source.state c.args.source.now in
    let source' = g.S.Source.state c.advance.new.source in
    let input = c.advance.new.self in
    let refusal = c.in_err-advance.field-0.0 in
    let goes = subst (λ i. (more : List ℕ) × TakesFor i input source source' more
    × Stops i input more source source' refusal) c.new-input.ensures
    c.in_err-advance.ensures.goes_on in
    let p = err_from_is_err_and c.from_residual.result c.from_residual.ensures.1 in
    rw (p.1, p.2) (plays_stops_first c.args.form input source source'
    (g.K.Sink.state c.args.sink.now) goes.0
    refusal goes.1 c.advance.ensures.counts goes.2)

pub returns-then-not-branch : goal.returns-then-not-branch
returns-then-not-branch g c =
    let source = g.S.Source.state c.args.source.now in
    let source' = g.S.Source.state c.advance.new.source in
    let input = c.advance.new.self in
    let goes = subst (λ i. (more : List ℕ) × TakesFor i input source source' more
    × AdvancesTo i input more source source' (Ok c.in_ok-advance.field-0)) c.new-input.ensures
    c.in_ok-advance.ensures.goes_on in
    let on = subst (λ b. AdvancesTo fresh_input input goes.0 source source' (Ok b))
    c.if-not-branch.true goes.2 in
    rw (c.refused_status.ensures, c.number-line.ensures) (plays_missing c.args.form input source
    source' (g.K.Sink.state c.args.sink.now) goes.0 goes.1.taken on.0 on.2 c.advance.ensures.counts
    (goes.1.end (λ is. absurd (true≢false (sym is))) on.1) on.1)

pub returns-in-Ok : goal.returns-in-Ok
returns-in-Ok g c =
    let source = g.S.Source.state c.args.source.now in
    let source' = g.S.Source.state c.advance.new.source in
    let input = c.advance.new.self in
    let goes = subst (λ i. (more : List ℕ) × TakesFor i input source source' more
    × AdvancesTo i input more source source' (Ok c.in_ok-advance.field-0)) c.new-input.ensures
    c.in_ok-advance.ensures.goes_on in
    let on = subst (λ b. AdvancesTo fresh_input input goes.0 source source' (Ok b))
    c.if-not-branch.false goes.2 in
    let reads = subst (λ t. head_reading t ≡ Ok c.in-Ok.settings) c.line.ensures
    c.in-Ok.ensures.reading in
    plays_lines (text_in c.args.form) c.in-Ok.settings input (this_line input) source source'
    (g.S.Source.state c.play.new.source) (g.K.Sink.state c.args.sink.now)
    (g.K.Sink.state c.play.new.sink) goes.0 (status_from c.play.result) goes.1.taken on.0 on.3
    reads c.play.ensures

pub returns-in-Err : goal.returns-in-Err
returns-in-Err g c =
    let source = g.S.Source.state c.args.source.now in
    let source' = g.S.Source.state c.advance.new.source in
    let input = c.advance.new.self in
    let goes = subst (λ i. (more : List ℕ) × TakesFor i input source source' more
    × AdvancesTo i input more source source' (Ok c.in_ok-advance.field-0)) c.new-input.ensures
    c.in_ok-advance.ensures.goes_on in
    let on = subst (λ b. AdvancesTo fresh_input input goes.0 source source' (Ok b))
    c.if-not-branch.false goes.2 in
    let reads = subst (λ t. (c.in-Err.fault ≡ NoMemory) ⊎ (head_reading t ≡ Err c.in-Err.fault))
    c.line.ensures c.in-Err.ensures.reading in
    rw (c.refused_status-in-Err.ensures, c.number.ensures) (plays_head c.args.form input source
    source' (g.K.Sink.state c.args.sink.now) goes.0 c.in-Err.fault goes.1 on.0 on.3
    c.advance.ensures.counts reads)
