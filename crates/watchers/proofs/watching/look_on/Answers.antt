-- The frame's journal begins with itself, and with none.
use Rattle.std.proofs.Common.{[], refl, sym, subst, inl, inr}
use Rattle.std.proofs.lemmas.List.{append-nil}
use Rattle.published_frames.specs.Pasts.{BeginsWith}
use Rattle.watchers.proofs.LookLemmas.{clean-more}
use Rattle.watchers.proofs.watching.look_on.Goals as goal

pub loop-preserved : goal.loop-preserved
loop-preserved g c =
    let so_far = c.loop.invariant in
    let journal = c.args.frame.now.events in
    let begins : BeginsWith journal c.loop.last.now =
    elim so_far.2 [
      | inl none ↦ subst (BeginsWith journal) (sym none) (journal, refl)
      | inr same ↦ subst (BeginsWith journal) (sym same) ([], sym (append-nil journal))
    ] in
    let clean = clean-more c.loop.counts c.in_ok-counts.counts c.loop.last.now c.args.frame.now
    c.loop.counter so_far.0 so_far.1 c.in_ok-counts.ensures.counted
    c.in_ok-counts.ensures.whole begins in
    (clean.0, clean.1, inr c.events-last.ensures.value)
