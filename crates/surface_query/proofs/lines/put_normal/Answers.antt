-- The line, piece by piece.
use Rattle.std.proofs.Common.{◌≡◌, ◌++◌, codes, ◌∙◌, rules, w32}
use Rattle.std.proofs.lemmas.Int.{to_z-of_z}
use Rattle.std.specs.Fmt.{signed_decimal}
use Rattle.digits.proofs.LineLemmas.{puts-same}
use Rattle.surface_normals.proofs.SlopeLemmas.{tz}
use Rattle.surface_query.proofs.PieceLemmas.{pieces, spaced}
use Rattle.surface_query.proofs.lines.put_normal.Goals as goal

pub returns-clause-line : goal.returns-clause-line
returns-clause-line c =
    let n = c.args.normal in
    let x : tz n.x ≡ n.x = to_z-of_z w32 n.x (search rules) in
    let y : tz n.y ≡ n.y = to_z-of_z w32 n.y (search rules) in
    let z : tz n.z ≡ n.z = to_z-of_z w32 n.z (search rules) in
    puts-same _ _ _ _ _ _
    (pieces _ _ _ _ _ _ _ _ _ _ _ _ _ _ _ _ _ c.put-x.ensures c.put_signed-y.ensures.line
    c.put_signed-z.ensures.line c.put_signed-last.ensures.line c.put.ensures)
    (spaced (codes "vn " ++ signed_decimal (tz n.x)) (signed_decimal (tz n.y))
    (signed_decimal (tz n.z)) (codes "\n")
    ∙ (λ i. codes "vn " ++ signed_decimal (x i) ++ codes " " ++ signed_decimal (y i) ++ codes " "
    ++ signed_decimal (z i) ++ codes "\n"))
