-- The frame is the one of the marked journal, before an update and after it.
use Rattle.std.proofs.Common.{◌≡◌, Bool, IsTrue, arith, false, refl, rules, subst, sym}
use Rattle.std.proofs.lemmas.Grind.{common_steps}
use Rattle.mesh_board.specs.Board.{IsReady}
use Rattle.terra_world.specs.Game.{GameState}
use Rattle.terra_world.proofs.Marked.{fits_marked}
use Rattle.terra_world.proofs.game.GameWorld.update.Goals as goal

is_not : (b : Bool) → b ≡ false → IsTrue b → ⊥
is_not b is_false is_true = cc

pub returns-then-not-ready-clause-not_ready : goal.returns-then-not-ready-clause-not_ready
returns-then-not-ready-clause-not_ready c =
    let IsReadyGame : GameState → Type 0 = λ game. IsReady game.board in (
      λ _ ready. is_not c.ready.result c.if-not-ready.true
          (c.ready.ensures.1 (subst IsReadyGame (sym c.self.view_is) ready)),
      λ _. refl,
    )

pub go_on-requires-clause-fits : goal.go_on-requires-clause-fits
go_on-requires-clause-fits c =
    fits_marked c.self.inside.board c.self.inside.frame c.in_ok-patch.patch c.self.invariant
    c.in_ok-patch.ensures.leads

pub invariant_of-self-2 : goal.invariant_of-self-2
invariant_of-self-2 c = record {
  sound = c.go_on.ensures.sound;
  settings = search rules;
  journal = grind (arith, common_steps);
}

pub returns-clause-seamless : goal.returns-clause-seamless
returns-clause-seamless c =
    c.sound_frames_have_no_crack.ensures.seamless c.go_on.new.self c.go_on.ensures.sound
