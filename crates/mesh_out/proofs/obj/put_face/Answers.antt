-- The line, piece by piece.
use Rattle.std.proofs.Common.{List, ℕ, codes, ap, ◌∙◌, get_or}
use Rattle.digits.proofs.LineLemmas.{puts-same}
use Rattle.mesh_out.proofs.PieceLemmas.{cornered, pieces, three}
use Rattle.mesh_out.specs.Numerals.{vertex_number}
use Rattle.mesh_out.specs.Text.{face_line}
use Rattle.mesh_out.proofs.obj.put_face.Goals as goal

pub returns-clause-line : goal.returns-clause-line
returns-clause-line c =
    let places : List ℕ = c.args.places.now in
    puts-same _ _ _ _ _ _
    (pieces _ _ _ _ _ _ _ _ _ _ _ _ _ _ _ _ _ c.put-first.ensures
    c.put_number-second.ensures.line c.put_number-third.ensures.line
    c.put_number-last.ensures.line c.put.ensures)
    (cornered (vertex_number c.args.base) (codes "f") (codes "\n") (get_or places 0 0)
    (get_or places 1 0) (get_or places 2 0)
    ∙ ap (face_line c.args.base) (three places c.told-places))
