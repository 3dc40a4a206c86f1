-- All editors were handed in, and all notes were taken.
use Rattle.std.proofs.Common.{◌≡◌, length, arith}
use Rattle.crossbeam_queue.specs.Passes.{view}
use Rattle.editors.proofs.LetterLemmas.{letters_are}
use Rattle.editors.proofs.closing.close_for_owners.Goals as goal

pub returns-clause-letters : goal.returns-clause-letters
returns-clause-letters g c =
    let clerk = c.args.clerk in
    let left = c.count_left-left.ensures in
    let taken : c.len.result ≡ length clerk.owners.items =
    omega (arith, c.len.ensures, clerk.owners.ok.0) in (
      left.0,
      letters_are c.args.mail clerk c.args.ended.items (view c.hand_in_all.new.pass) left.0 _ _
          c.requires.clerk c.requires.ended c.requires.each c.hand_in_all.ensures.shown left.1
          taken,
    )
