-- The board isn't marked, so its patches lead from before any event.
use Rattle.std.proofs.Common.{◌≡◌, ◌++◌, ◌∷◌, [], ap, drop, subst, sym, take, ◌∙◌}
use Rattle.snapshots.specs.Frame.{StandsFor}
use Rattle.board_examples.proofs.standing.patches.Goals as goal

pub returns-clause-first : goal.returns-clause-first
returns-clause-first g c = λ frame stands.
    let board = c.patch_after-earlier.new.board in
    let marked : board.marked ≡ 0 =
    c.patch_after-earlier.ensures.marked ∙ c.opened-board.ensures.marked in
    let settings : board.world.settings ≡ c.args.settings =
    c.patch_after-earlier.ensures.settings ∙ c.opened-board.ensures.settings in
    c.patch_after-earlier.ensures.leads frame
    (subst (λ n. StandsFor frame board.world.settings (take n board.world.events)) (sym marked)
    (subst (λ s. StandsFor frame s []) (sym settings) stands))

pub returns-clause-second : goal.returns-clause-second
returns-clause-second g c = λ frame stands.
    let board = c.patch_after-later.new.board in
    let marked : board.marked ≡ 0 =
    c.patch_after-later.ensures.marked ∙ c.patch_after-earlier.ensures.marked
    ∙ c.opened-board.ensures.marked in
    let settings : board.world.settings ≡ c.args.settings =
    c.patch_after-later.ensures.settings ∙ c.patch_after-earlier.ensures.settings
    ∙ c.opened-board.ensures.settings in
    c.patch_after-later.ensures.leads frame
    (subst (λ n. StandsFor frame board.world.settings (take n board.world.events)) (sym marked)
    (subst (λ s. StandsFor frame s []) (sym settings) stands))

pub returns-clause-first_events : goal.returns-clause-first_events
returns-clause-first_events g c =
    c.patch_after-earlier.ensures.events
    ∙ ap (λ n. drop n c.patch_after-earlier.new.board.world.events)
    (c.patch_after-earlier.ensures.marked ∙ c.opened-board.ensures.marked)
    ∙ c.patch_after-earlier.ensures.journal
    ∙ ap (λ events. events ++ c.args.first ∷ []) c.opened-board.ensures.journal

pub returns-clause-second_events : goal.returns-clause-second_events
returns-clause-second_events g c =
    c.patch_after-later.ensures.events
    ∙ ap (λ n. drop n c.patch_after-later.new.board.world.events)
    (c.patch_after-later.ensures.marked ∙ c.patch_after-earlier.ensures.marked
    ∙ c.opened-board.ensures.marked)
    ∙ c.patch_after-later.ensures.journal
    ∙ ap (λ events. events ++ c.args.second ∷ [])
    (c.patch_after-earlier.ensures.journal
    ∙ ap (λ events. events ++ c.args.first ∷ []) c.opened-board.ensures.journal)
