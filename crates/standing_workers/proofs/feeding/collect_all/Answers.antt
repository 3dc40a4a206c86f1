-- One more outcome is delivered.
use Rattle.std.proofs.Common.{◌∙◌}
use Rattle.mesh_board.proofs.KeepingLemmas.{keeps-both}
use Rattle.standing_workers.proofs.feeding.collect_all.Goals as goal

pub loop-preserved : goal.loop-preserved
loop-preserved g c = record {
  desk_of = c.in-Some-collect_one.ensures.desk;
  seats = c.in-Some-collect_one.ensures.seats ∙ c.loop.invariant.seats;
  kept = keeps-both c.args.board.now c.loop.board c.collect_one.new.board
      c.loop.invariant.kept c.in-Some-collect_one.ensures.board;
}

pub returns-in_default-clause-board : goal.returns-in_default-clause-board
returns-in_default-clause-board g c =
    keeps-both c.args.board.now c.loop.board c.collect_one.new.board
    c.loop.invariant.kept c.in_default.ensures.board
