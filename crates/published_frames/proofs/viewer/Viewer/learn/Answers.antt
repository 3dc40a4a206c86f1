-- What the viewer has seen is seen besides.
use Rattle.std.proofs.Common.{◌∷◌, ◌++◌, subst}
use Rattle.published_frames.specs.Seen.{pasts_of, seen_of}
use Rattle.published_frames.specs.Pasts.{IsAsMuch, past_of}
use Rattle.published_frames.proofs.SeenLemmas.{and_the_rest}
use Rattle.published_frames.proofs.viewer.Viewer.learn.Goals as goal

pub returns-clause-seen : goal.returns-clause-seen
returns-clause-seen c =
    let mine = pasts_of c.self.inside.learnt in
    let seen = seen_of c.self.inside.outside in
    let after = pasts_of c.and.result ++ seen in
    subst (λ viewer. IsAsMuch after (past_of c.args.news.frame ∷ viewer.seen)) c.self.view_is
    (subst (λ frame. IsAsMuch after ((past_of frame ∷ mine) ++ seen)) c.into_frame.ensures
    (and_the_rest (pasts_of c.and.result) (past_of c.into_frame.result ∷ mine) seen
    c.and.ensures.as_much))
