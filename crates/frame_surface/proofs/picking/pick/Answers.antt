-- All levels are passed.
use Rattle.std.proofs.Common.{◌≡◌, ◌+◌, ap, subst, arith}
use Rattle.lattice.proofs.SizeLemmas.{side_most}
use Rattle.lattice.specs.declared.settings.Settings.{Settings}
use Rattle.frame_surface.proofs.ColumnLemmas.{all-bare, all-highest, node_at}
use Rattle.frame_surface.specs.Scan.{IsBestBefore}
use Rattle.frame_surface.specs.Surface.{surface_after}
use Rattle.frame_surface.proofs.picking.pick.Goals as goal
use Rattle.frame_surface.proofs.picking.pick.Goals.{After-loop-level}

pub scan_level-best-requires-clause-at : goal.scan_level-best-requires-clause-at
scan_level-best-requires-clause-at c =
    let most = side_most c.args.frame.now.settings.depth c.requires.sound.allowed.depth in
    record { x = omega (arith, c.requires.x, most); y = omega (arith, c.requires.y, most) }

-- the best of all triangles
best : (c : After-loop-level) → IsBestBefore
    (surface_after c.args.frame.now.settings c.args.frame.now.events) c.args.x c.args.y
    (node_at (c.args.frame.now.settings.depth + 1) 0 0 0) 0 c.loop-level.best
best c =
    let frame = c.args.frame.now in
    let depth = ap (λ (s : Settings). s.depth) c.settings.ensures.value in
    let all : c.loop-level.level ≡ frame.settings.depth + 1 = omega (arith, depth) in
    subst (λ l. IsBestBefore (surface_after frame.settings frame.events) c.args.x c.args.y
    (node_at l 0 0 0) 0 c.loop-level.best) all c.loop-level.invariant.1

pub returns-clause-highest : goal.returns-clause-highest
returns-clause-highest c =
    let frame = c.args.frame.now in
    all-highest (surface_after frame.settings frame.events) c.args.x c.args.y frame.settings.depth
    (c.surfaces_stand_over_their_nodes.ensures frame.settings frame.events) c.loop-level.best
    (best c)

pub returns-clause-none : goal.returns-clause-none
returns-clause-none c =
    let frame = c.args.frame.now in
    all-bare (surface_after frame.settings frame.events) c.args.x c.args.y frame.settings.depth
    (c.surfaces_stand_over_their_nodes.ensures frame.settings frame.events) c.loop-level.best
    (best c)
