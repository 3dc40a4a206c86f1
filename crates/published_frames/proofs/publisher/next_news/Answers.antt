-- The frame stands for the longer journal, and the news names what the patch's events change.
use Rattle.std.proofs.Common.{◌++◌, ap, subst, sym, ◌∙◌}
use Rattle.snapshots.specs.Frame.{StandsFor}
use Rattle.published_frames.specs.News.{News}
use Rattle.published_frames.specs.Pasts.{Continues, past_of}
use Rattle.published_frames.proofs.NewsLemmas.{changes_are}
use Rattle.published_frames.proofs.publisher.next_news.Goals as goal
use Rattle.published_frames.proofs.publisher.next_news.Goals.{In_ok-next-2}

pub returns-clause-changes : goal.returns-clause-changes
returns-clause-changes c =
    ap (λ (news : News). news.changes) c.of.ensures
    ∙ changes_are c.args.patch.now c.args.shown.now c.in_ok-put.put.items c.in_ok-gone.gone.items
    c.requires.fits (rw (sym c.deref.ensures.value) c.in_ok-put.ensures)
    (c.in_ok-gone.ensures.items_if_clones_equal (λ x y same. same) ∙ c.deref-2.ensures.value)

stands : (c : In_ok-next-2) → StandsFor c.in_ok-next-2.next.value c.args.shown.now.settings
    (c.args.shown.now.events ++ c.args.patch.now.events.items)
stands c =
    let shown = c.args.shown.now in
    subst (λ frame. StandsFor frame shown.settings (shown.events ++ c.args.patch.now.events.items))
    (sym c.in_ok-next-2.ensures.ok)
    (c.in_ok-next.ensures.leads shown.settings shown.events c.requires.sound.stands c.requires.fits
    c.requires.room)

pub returns-clause-stands : goal.returns-clause-stands
returns-clause-stands c =
    let shown = c.args.shown.now in
    subst (λ (news : News). StandsFor news.frame shown.settings
    (shown.events ++ c.args.patch.now.events.items)) (sym c.of.ensures)
    (stands (goal.at.returns-clause-stands c).In_ok-next-2)

pub returns-clause-goes_on : goal.returns-clause-goes_on
returns-clause-goes_on c =
    let stands_for = stands (goal.at.returns-clause-goes_on c).In_ok-next-2 in
    subst (λ (news : News). Continues news.frame (past_of c.args.shown.now)) (sym c.of.ensures)
    (record {
      settings = stands_for.settings;
      journal = (c.args.patch.now.events.items, stands_for.journal);
    })
