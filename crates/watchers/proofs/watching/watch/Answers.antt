-- The entered frame goes on from the frame of the look before.
use Rattle.std.proofs.Common.{◌≡◌, [], ◌∷◌, sym, ap, ◌∙◌, rules, subst}
use Rattle.std.specs.Arc.{arc_value}
use Rattle.fault_counts.specs.Counts.{next_count}
use Rattle.published_frames.specs.Pasts.{GoesOnFromAll, past_of}
use Rattle.watchers.proofs.LookLemmas.{begins-entered, clean-more, count_after-more, count_after-none}
use Rattle.watchers.proofs.watching.watch.Goals as goal

pub loop-init : goal.loop-init
loop-init g c = rw (count_after-none (g.D.Door.entries c.args.door.now)) (search rules)

pub loop-preserved : goal.loop-preserved
loop-preserved g c =
    let so_far = c.loop.invariant in
    let kept : arc_value c.in_ok-frame.frame ≡ c.in-Ok.entered.frame =
    c.in_ok-frame.ensures.value in
    let shown : c.deref.result.now ≡ arc_value c.in_ok-frame.frame = c.deref.ensures in
    let begins = begins-entered arc_value c.loop.last c.journal_of.result.now c.loop.viewer.seen
    c.deref.result.now c.journal_of.ensures so_far.4
    (subst (λ frame. GoesOnFromAll frame c.loop.viewer.seen) (sym (shown ∙ kept))
    c.in-Ok.ensures.entered.later) in
    let clean = clean-more c.loop.counts c.in_ok-counts.counts c.journal_of.result.now
    c.deref.result.now c.loop.counter so_far.0 so_far.1 c.in_ok-counts.ensures.counted
    c.in_ok-counts.ensures.whole begins in (
      clean.0,
      clean.1,
      c.in-Ok.ensures.counted ∙ so_far.2,
      c.in-Ok.ensures.entries ∙ ap next_count so_far.3
          ∙ count_after-more (g.D.Door.entries c.args.door.now) c.loop.counter,
      (
        c.in_ok-frame.ensures.sound,
        ap (λ viewer. viewer.seen) c.leave-viewer.ensures
            ∙ ap (λ frame. past_of frame ∷ []) (sym kept),
      ),
    )
