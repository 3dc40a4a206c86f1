-- A hit's height in whole units is the greatest number that is reached; where there is no hit, none is.
use Rattle.std.proofs.Common.{◌∙◌, ap, arith, sym}
use Rattle.std.specs.Prelude.{Some}
use Rattle.lattice.proofs.SizeLemmas.{side_most}
use Rattle.frame_surface.proofs.TopLemmas.{height-hit, height-none, height-within}
use Rattle.frame_surface.specs.Surface.{surface_after}
use Rattle.frame_surface.proofs.tops.height_over.Goals as goal

pub whole_units-requires-clause-some : goal.whole_units-requires-clause-some
whole_units-requires-clause-some c = c.in-Some.ensures.reached.some

pub whole_units-requires-clause-fits : goal.whole_units-requires-clause-fits
whole_units-requires-clause-fits c =
    let frame = c.args.frame.now in
    let within = height-within frame.settings.depth (surface_after frame.settings frame.events)
    c.args.x c.args.y c.in-Some.hit
    (c.surfaces_stand_over_their_nodes.ensures frame.settings frame.events)
    (c.triangles_lie_in_their_leaf.ensures frame.settings frame.events)
    c.in-Some.ensures.reached in
    let most = side_most frame.settings.depth c.requires.sound.allowed.depth in
    omega (arith, within, most)

pub returns-in-Some : goal.returns-in-Some
returns-in-Some c =
    let frame = c.args.frame.now in
    let surface = surface_after frame.settings frame.events in
    let stands = c.surfaces_stand_over_their_nodes.ensures frame.settings frame.events in
    let found = c.in-Some.ensures in
    ap Some c.whole_units.ensures.whole
    ∙ sym (height-hit frame.settings.depth surface c.args.x c.args.y c.nodes_in_order.ensures.each
    stands c.in-Some.hit c.whole_units.ensures.few found.small.den
    (height-within frame.settings.depth surface c.args.x c.args.y c.in-Some.hit stands
    (c.triangles_lie_in_their_leaf.ensures frame.settings frame.events) found.reached)
    found.reached found.highest)

pub returns-in-None : goal.returns-in-None
returns-in-None c =
    let frame = c.args.frame.now in
    sym (height-none frame.settings.depth (surface_after frame.settings frame.events) c.args.x
    c.args.y c.in-None.ensures.none)
