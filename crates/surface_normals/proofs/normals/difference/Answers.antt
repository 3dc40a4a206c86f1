-- The difference of two samples doesn't wrap.
use Rattle.surface_normals.proofs.SlopeLemmas.{difference}
use Rattle.surface_normals.proofs.normals.difference.Goals as goal

pub returns-clause-value : goal.returns-clause-value
returns-clause-value c =
    difference c.args.further c.args.before c.from.result c.from-2.result c.requires.further
    c.requires.before c.from.ensures c.from-2.ensures
