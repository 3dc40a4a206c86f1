-- The line, piece by piece.
use Rattle.std.proofs.Common.{◌++◌, codes}
use Rattle.digits.proofs.LineLemmas.{puts-same}
use Rattle.digits.specs.Digits.{coordinate_text}
use Rattle.mesh_out.proofs.PieceLemmas.{pieces, spaced}
use Rattle.mesh_out.proofs.obj.put_vertex.Goals as goal

pub returns-clause-line : goal.returns-clause-line
returns-clause-line c =
    let p = c.args.position in
    puts-same _ _ _ _ _ _
    (pieces _ _ _ _ _ _ _ _ _ _ _ _ _ _ _ _ _ c.put-x.ensures c.put_coordinate-y.ensures.line
    c.put_coordinate-z.ensures.line c.put_coordinate-last.ensures.line c.put.ensures)
    (spaced (codes "v " ++ coordinate_text p.x) (coordinate_text p.y) (coordinate_text p.z)
    (codes "\n"))
