-- No line was cut so far.
use Rattle.std.proofs.Common.{◌-◌}
use Rattle.script_play.specs.declared.refusal.TheConstants.{INPUT_LIMIT}
use Rattle.script_play.proofs.InputLemmas.{Read}
use Rattle.script_play.proofs.input.Input.next_line.Given as goal

abbrev pub invariant-loop-self : goal.invariant-loop-self
invariant-loop-self g l =
    Read l.fn.self l.self (g.S.Source.state l.fn.source) (g.S.Source.state l.source)

abbrev pub decreases-loop-self : goal.decreases-loop-self
decreases-loop-self g l = INPUT_LIMIT - l.self.count
