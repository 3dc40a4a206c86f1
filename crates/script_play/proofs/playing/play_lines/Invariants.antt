-- The lines up to the one that was cut last were carried out, and the counts fit.
use Rattle.std.proofs.Common.{◌≡◌, ◌+◌, ◌-◌, ◌≤◌, []}
use Rattle.script_play.specs.declared.refusal.TheConstants.{INPUT_LIMIT}
use Rattle.script_play.specs.Input.{CountsFit}
use Rattle.script_play.proofs.PlayLemmas.{SoFar}
use Rattle.script_play.proofs.playing.play_lines.Given as goal

abbrev pub invariant-loop-input : goal.invariant-loop-input
invariant-loop-input g l = record {
  so_far : SoFar l.settings l.fn.input l.input (g.S.Source.state l.fn.source)
      (g.S.Source.state l.source) (g.K.Sink.state l.fn.sink) (g.K.Sink.state l.sink)
      (g.X.Executor.state l.fn.executor).left (g.X.Executor.state l.executor) [];
  settings : (g.X.Executor.state l.executor).world.settings ≡ l.settings;
  shots : (g.X.Executor.state l.executor).shot ≤ l.input.number;
  counts : CountsFit l.input;
}

abbrev pub decreases-loop-input : goal.decreases-loop-input
decreases-loop-input g l = INPUT_LIMIT + 2 - l.input.number
