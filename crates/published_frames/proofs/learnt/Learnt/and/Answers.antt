-- The first frame that is learnt says what it says, and one more says nothing where two are unrelated.
use Rattle.std.proofs.Common.{[], ◌∷◌, subst, sym}
use Rattle.std.proofs.lemmas.List.Elements.{All-tail}
use Rattle.published_frames.specs.Seen.{AreUnrelated, pasts_of}
use Rattle.published_frames.specs.Pasts.{Continues, IsAsMuch, past_of}
use Rattle.published_frames.proofs.SeenLemmas.{apart_never, as_much_itself, as_much_never}
use Rattle.published_frames.proofs.learnt.Learnt.and.Goals as goal

pub returns-in-Nothing-clause-as_much : goal.returns-in-Nothing-clause-as_much
returns-in-Nothing-clause-as_much c =
    subst (λ learnt. IsAsMuch (past_of c.args.frame ∷ []) (past_of c.args.frame ∷ pasts_of learnt))
    (sym c.in-Nothing.is) (as_much_itself (past_of c.args.frame ∷ []))

pub returns-in-Apart-clause-as_much : goal.returns-in-Apart-clause-as_much
returns-in-Apart-clause-as_much c =
    let one = c.in-Apart.one in
    let other = c.in-Apart.other in
    let two = past_of one ∷ past_of other ∷ [] in
    let apart = subst AreUnrelated c.in-Apart.is c.requires in
    subst (λ learnt. IsAsMuch two (past_of c.args.frame ∷ pasts_of learnt)) (sym c.in-Apart.is)
    (as_much_never two (past_of c.args.frame ∷ two)
    (λ frame all. apart_never one other [] apart.0 apart.1 frame all)
    (λ frame all. apart_never one other [] apart.0 apart.1 frame
    (All-tail (Continues frame) (past_of c.args.frame) two all)))
