-- The code's numbers are those of the key's ends.
use Rattle.std.proofs.Common.{◌∙◌, rules}
use Rattle.lattice.specs.declared.settings.TheConstants.{MAX_DEPTH}
use Rattle.vertex_places.proofs.PlaceLemmas.{IsKeyEnd-greatest, near_inside, placed-is}
use Rattle.vertex_places.proofs.places.position.Goals as goal

pub on-requires-clause-end : goal.on-requires-clause-end
on-requires-clause-end c =
    IsKeyEnd-greatest c.args.key.now.level c.args.near.now c.requires.key.level c.requires.near

pub on-requires-2-clause-end : goal.on-requires-2-clause-end
on-requires-2-clause-end c =
    IsKeyEnd-greatest c.args.key.now.level c.args.far.now c.requires.key.level c.requires.far

pub on-requires-3-clause-end : goal.on-requires-3-clause-end
on-requires-3-clause-end c =
    IsKeyEnd-greatest c.args.key.now.level c.args.near.now c.requires.key.level c.requires.near

pub on-requires-3-clause-point : goal.on-requires-3-clause-point
on-requires-3-clause-point c = near_inside MAX_DEPTH c.args.key.now c.requires.key

pub on-requires-4-clause-end : goal.on-requires-4-clause-end
on-requires-4-clause-end c =
    IsKeyEnd-greatest c.args.key.now.level c.args.far.now c.requires.key.level c.requires.far

pub on-requires-5-clause-end : goal.on-requires-5-clause-end
on-requires-5-clause-end c =
    IsKeyEnd-greatest c.args.key.now.level c.args.near.now c.requires.key.level c.requires.near

pub on-requires-5-clause-point : goal.on-requires-5-clause-point
on-requires-5-clause-point c = near_inside MAX_DEPTH c.args.key.now c.requires.key

pub on-requires-6-clause-end : goal.on-requires-6-clause-end
on-requires-6-clause-end c =
    IsKeyEnd-greatest c.args.key.now.level c.args.far.now c.requires.key.level c.requires.far

pub returns-clause-value : goal.returns-clause-value
returns-clause-value c = search rules

pub returns-clause-place : goal.returns-clause-place
returns-clause-place c depth s m near far =
    returns-clause-value c
    ∙ placed-is depth s m c.args.key.now c.args.near.now c.args.far.now near far
