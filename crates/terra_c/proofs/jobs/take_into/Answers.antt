-- The brick that is taken is that of a wanted leaf, and one is wanted.
use Rattle.std.proofs.Common.{◌≡◌, ◌≢◌, MatchOption, arith, inl, refl, subst, sym}
use Rattle.lattice.specs.declared.node.Node.{Node}
use Rattle.mesh_board.specs.Board.{Takes, state_of}
use Rattle.mesh_board.specs.LeafStates.{wanted}
use Rattle.terra_c.specs.Held.{job_of}
use Rattle.terra_c.proofs.jobs.take_into.Goals as goal

pub returns-in-Ok-Some : goal.returns-in-Ok-Some
returns-in-Ok-Some c =
    let world = c.args.world.now in record {
      answers = inl refl;
      done = λ _. subst (λ held. MatchOption (job_of held) ⊥
          (Takes world.board c.take.new.self.board)) (sym c.set.ensures)
          (subst (λ taken. MatchOption taken
          (((n : Node) → state_of world.board n ≢ wanted) × (c.take.new.self ≡ world))
          (Takes world.board c.take.new.self.board)) c.in-Ok-Some.field-0-is
          c.in-Ok-Some.ensures.taken);
      only = c.take.ensures.only;
      nothing = (
        (λ status. absurd (omega (arith, status))),
        (λ none. absurd (c.requires none)),
      );
      kept = λ other. absurd (other refl);
      world = λ other. absurd (other refl);
    }
