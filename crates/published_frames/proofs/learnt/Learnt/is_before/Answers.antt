-- A frame goes on from one past where it goes on from all of it, and never from two that are apart.
use Rattle.std.proofs.Common.{[], false, ◌↔◌, IsTrue, subst, sym}
use Rattle.std.proofs.lemmas.Bool.{false≢true}
use Rattle.published_frames.specs.Seen.{AreUnrelated, pasts_of}
use Rattle.published_frames.specs.Pasts.{GoesOnFromAll}
use Rattle.published_frames.proofs.SeenLemmas.{apart_never, one_is_all}
use Rattle.published_frames.proofs.learnt.Learnt.is_before.Goals as goal

pub returns-in-Newest : goal.returns-in-Newest
returns-in-Newest c =
    let all = one_is_all c.args.frame.now _ in
    subst (λ learnt. IsTrue c.is_before.result ↔ GoesOnFromAll c.args.frame.now (pasts_of learnt))
    (sym c.in-Newest.is)
    (λ is. all.0 (c.is_before.ensures.0 is), λ every. c.is_before.ensures.1 (all.1 every))

pub returns-in-Apart : goal.returns-in-Apart
returns-in-Apart c =
    let apart = subst AreUnrelated c.in-Apart.is c.requires.unrelated in
    subst (λ learnt. IsTrue false ↔ GoesOnFromAll c.args.frame.now (pasts_of learnt))
    (sym c.in-Apart.is) (
      λ never. absurd (false≢true never),
      λ every. absurd (apart_never _ _ [] apart.0 apart.1 c.args.frame.now every),
    )
