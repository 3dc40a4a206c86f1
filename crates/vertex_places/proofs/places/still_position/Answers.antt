-- The vertex is where the key begins, and the way along the key further on its axis.
use Rattle.std.proofs.Common.{◌≡◌, unsigned_abs, ap, ◌∙◌, w8}
use Rattle.std.proofs.lemmas.Int.{to_z-of_z}
use Rattle.vertex_places.specs.Places.{further}
use Rattle.vertex_places.proofs.PlaceLemmas.{begin, place-still}
use Rattle.vertex_places.proofs.places.still_position.Goals as goal

pub returns : goal.returns
returns c depth s m near far at end =
    let key = c.args.key.now in
    let a : c.unsigned_abs.result ≡ unsigned_abs (s key.at) =
    c.unsigned_abs.ensures.value
    ∙ ap unsigned_abs (to_z-of_z w8 c.args.near c.ranges.near ∙ near) in
    let b : c.unsigned_abs-2.result ≡ unsigned_abs (s _) =
    c.unsigned_abs-2.ensures.value
    ∙ ap unsigned_abs (to_z-of_z w8 c.args.far c.ranges.far ∙ far) in
    let along = c.part_of_side-along.ensures.value in
    c.further.ensures ∙ ap (λ n. further key.axis n (begin key)) along
    ∙ place-still depth s m key c.unsigned_abs.result c.unsigned_abs-2.result at end a b
