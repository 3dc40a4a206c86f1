-- What the commands wrote beside the helpers. Where memory runs out before, nothing is written.
use Rattle.std.proofs.Common.{◌≡◌, OnOk, IfErr, ap, rules, subst}
use Rattle.std.proofs.lemmas.Result.{err_from_is_err_and}
use Rattle.terra_io.specs.Stream.{Appends, IsFaultless}
use Rattle.mesh_out.specs.Writing.{StopsWriting}
use Rattle.mesh_out.proofs.WritingLemmas.{StopsWriting-none}
use Rattle.script_play.specs.Output.{output}
use Rattle.requests.proofs.output.write_output.Goals as goal

pub returns-in_err-made-clause-stopped : goal.returns-in_err-made-clause-stopped
returns-in_err-made-clause-stopped g c =
    let residual = c.from_residual in
    let p = err_from_is_err_and residual.result residual.ensures.1 in
    rw (p.1, p.2) (StopsWriting-none (g.K.Sink.state c.args.sink.now)
    (output c.args.settings.now c.args.commands.now))

pub returns-in_err-posts-clause-stopped : goal.returns-in_err-posts-clause-stopped
returns-in_err-posts-clause-stopped g c =
    let residual = c.from_residual-in_err-posts in
    let p = err_from_is_err_and residual.result residual.ensures.1 in
    rw (p.1, p.2) (StopsWriting-none (g.K.Sink.state c.args.sink.now)
    (output c.args.settings.now c.args.commands.now))

pub returns-clause-whole : goal.returns-clause-whole
returns-clause-whole g c =
    let state = g.K.Sink.state in
    let done = c.help_beside in
    let same : done.new.other.6.now ≡ c.sink-1.given.0 = search rules in
    subst (λ s. OnOk done.result (Appends (state c.args.sink.now) s
    (output c.args.settings.now c.args.commands.now))) (ap state same) done.ensures.met.1.0

pub returns-clause-faultless : goal.returns-clause-faultless
returns-clause-faultless g c =
    let state = g.K.Sink.state in
    let done = c.help_beside in
    let same : done.new.other.6.now ≡ c.sink-1.given.0 = search rules in
    subst (λ s. OnOk done.result (IsFaultless (state c.args.sink.now) s)) (ap state same)
    done.ensures.met.1.1.0

pub returns-clause-stopped : goal.returns-clause-stopped
returns-clause-stopped g c =
    let state = g.K.Sink.state in
    let done = c.help_beside in
    let same : done.new.other.6.now ≡ c.sink-1.given.0 = search rules in
    subst (λ s. IfErr done.result (λ fault. StopsWriting fault (state c.args.sink.now) s
    (output c.args.settings.now c.args.commands.now))) (ap state same) done.ensures.met.1.1.1
