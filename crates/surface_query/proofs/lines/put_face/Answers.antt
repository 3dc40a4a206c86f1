-- The line, piece by piece.
use Rattle.std.proofs.Common.{List, ℕ, codes, ap, ◌∙◌, get_or}
use Rattle.digits.proofs.LineLemmas.{puts-same}
use Rattle.surface_query.proofs.MeshLemmas.{places_line}
use Rattle.surface_query.proofs.PieceLemmas.{cornered, pieces, three}
use Rattle.surface_query.specs.NormalText.{corner_text}
use Rattle.surface_query.proofs.lines.put_face.Goals as goal

pub returns-clause-line : goal.returns-clause-line
returns-clause-line c =
    let bases = c.args.bases in
    let places : List ℕ = c.args.places.now in
    puts-same _ _ _ _ _ _
    (pieces _ _ _ _ _ _ _ _ _ _ _ _ _ _ _ _ _ c.put-first.ensures
    c.put_kept_corner-second.ensures.line c.put_kept_corner-third.ensures.line
    c.put_kept_corner-last.ensures.line c.put.ensures)
    (cornered (corner_text bases) (codes "f") (codes "\n") (get_or places 0 0) (get_or places 1 0)
    (get_or places 2 0)
    ∙ ap (places_line bases) (three places c.told-places))
