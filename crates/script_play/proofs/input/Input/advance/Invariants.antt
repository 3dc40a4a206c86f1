-- No line that isn't skipped was passed so far.
use Rattle.std.proofs.Common.{◌+◌, ◌-◌}
use Rattle.script_play.specs.declared.refusal.TheConstants.{INPUT_LIMIT}
use Rattle.script_play.proofs.InputLemmas.{Went}
use Rattle.script_play.proofs.input.Input.advance.Given as goal

abbrev pub invariant-loop-self : goal.invariant-loop-self
invariant-loop-self g l =
    Went l.fn.self l.self (g.S.Source.state l.fn.source) (g.S.Source.state l.source)

abbrev pub decreases-loop-self : goal.decreases-loop-self
decreases-loop-self g l = INPUT_LIMIT + 2 - l.self.number
