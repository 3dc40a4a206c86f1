-- One more block is kept.
use Rattle.std.proofs.Common.{Some, refl}
use Rattle.std.proofs.lemmas.List.Elements.{All-pop}
use Rattle.std.specs.Arc.{arc_value}
use Rattle.mesh_jobs.specs.Round.{IsMadeOf}
use Rattle.mesh_board.proofs.KeepingLemmas.{keeps-both, keeps-none}
use Rattle.mesh_jobs.proofs.RoundLemmas.{round-there}
use Rattle.mesh_jobs.proofs.round.Round.keep_haul.Goals as goal

pub loop-done-init : goal.loop-done-init
loop-done-init c = record {
  round = c.requires.round;
  haul = c.requires.haul;
  keeps = keeps-none c.args.board.now c.args.board.now refl;
}

pub keep_made-requires-clause-made : goal.keep_made-requires-clause-made
keep_made-requires-clause-made c =
    (All-pop (λ done. IsMadeOf c.args.self.now (arc_value done)) c.loop-done.haul.made.items
    c.pop.new.self.items (Some c.in-Some.done) c.in-Some.ensures.items
    c.loop-done.invariant.haul).1

pub loop-done-preserved : goal.loop-done-preserved
loop-done-preserved c =
    let so_far = c.loop-done.invariant in record {
      round = round-there c.loop-done.board c.keep_made.new.board c.args.self.now
          c.keep_made.ensures.world so_far.round;
      haul = (All-pop (λ done. IsMadeOf c.args.self.now (arc_value done))
          c.loop-done.haul.made.items c.pop.new.self.items (Some c.in-Some.done)
          c.in-Some.ensures.items so_far.haul).0;
      keeps = keeps-both c.args.board.now c.loop-done.board c.keep_made.new.board so_far.keeps
          c.keep_made.ensures;
    }
