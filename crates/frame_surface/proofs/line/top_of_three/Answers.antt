-- What three marks cover at the most is what two of them cover.
use Rattle.frame_surface.proofs.MarkLemmas.{IfCovers-three, three_at_most}
use Rattle.frame_surface.proofs.line.top_of_three.Goals as goal

pub returns-clause-covers : goal.returns-clause-covers
returns-clause-covers c =
    IfCovers-three c.args.a c.args.b c.args.c c.args.at c.top_of_two.result c.top_of_two-2.result
    c.top_of_two-3.result c.greater-two.result c.greater.result c.top_of_two.ensures.covers
    c.top_of_two-2.ensures.covers c.top_of_two-3.ensures.covers c.greater-two.ensures.either
    c.greater.ensures.either

pub returns-clause-greatest : goal.returns-clause-greatest
returns-clause-greatest c =
    three_at_most c.args.a c.args.b c.args.c c.args.at c.top_of_two.result c.top_of_two-2.result
    c.top_of_two-3.result c.greater-two.result c.greater.result c.top_of_two.ensures.greatest
    c.top_of_two-2.ensures.greatest c.top_of_two-3.ensures.greatest
    c.greater-two.ensures.above_a c.greater-two.ensures.above_b c.greater.ensures.above_a
    c.greater.ensures.above_b
