-- The chain gives the corners from this one on, counted round; those that it takes are the run.
use Rattle.std.proofs.Common.{rules, tests, take, drop, length, take_while, ◌++◌, ap, ◌∙◌}
use Rattle.std.proofs.lemmas.Iterator.{YieldsList-from_slice}
use Rattle.std.proofs.lemmas.Iterator.Consumers.{YieldsList-at, YieldsList-from_chain, count_from_yields_List}
use Rattle.std.proofs.lemmas.Iterator.Search.{YieldsList-from_take_while}
use Rattle.face_curves.proofs.polygon.Polygon.run_length.Goals as goal

pub returns : goal.returns
returns c =
    let solid = c.self.inside.solid.items in
    let k = c.args.corner in
    count_from_yields_List c.take_while.result c.count.result c.count.ensures.ran
    (YieldsList-from_take_while _ (λ x. x)
    (YieldsList-at c.take_while.ensures.source (YieldsList-from_chain
    (YieldsList-from_slice (drop k solid) (cc)) (YieldsList-from_slice (take k solid) (cc)) (cc)
    (cc)))
    c.take_while.ensures.closure (cc) (λ x r q k. search (rules, tests)))
    ∙ ap (λ face. length (take_while (λ corner. corner) (drop k face.solid ++ take k face.solid)))
    c.self.view_is
