-- One more leaf is out, or none was wanted.
use Rattle.std.proofs.Common.{◌∙◌}
use Rattle.mesh_board.proofs.KeepingLemmas.{keeps-both}
use Rattle.standing_workers.proofs.feeding.hand_out_all.Goals as goal

pub handing-preserved : goal.handing-preserved
handing-preserved g c = record {
  desk_of = c.hand_out.ensures.desk;
  seats = c.hand_out.ensures.seats ∙ c.handing.invariant.seats;
  kept = keeps-both c.args.board.now c.handing.board c.take.new.self c.handing.invariant.kept
      c.in_ok-brick.ensures.keeps;
}

pub returns-in_err-brick-clause-board : goal.returns-in_err-brick-clause-board
returns-in_err-brick-clause-board g c =
    keeps-both c.args.board.now c.handing.board c.take.new.self c.handing.invariant.kept
    c.in_err-brick.ensures.keeps

pub returns-in_default-clause-board : goal.returns-in_default-clause-board
returns-in_default-clause-board g c =
    keeps-both c.args.board.now c.handing.board c.take.new.self c.handing.invariant.kept
    c.in_ok-brick.ensures.keeps
