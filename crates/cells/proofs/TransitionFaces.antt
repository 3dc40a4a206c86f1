-- The lateral faces of a transition cell, one after another, are those of the definition in the turn of a leaf's face.
-- This serves the loop that lists the faces of a cell while the cases are traced.
-- The definition's faces depend on the turn alone, straight or reversed, so the table of the four lateral faces is
-- compared with them by eight computations (at-turn). Then the list is followed as it grows by one face at a time
-- (lateral-more). Last, faces with the same turn have the same cells (same_turn): this is why two tables do for six
-- faces.
use Rattle.std.proofs.Common.{◌≡◌, ℕ, zero, suc, ◌+◌, ◌<◌, Bool, true, false, List, [], ◌∷◌, ◌++◌, map, take, drop, length, get_or, refl, sym, ap, ◌∙◌, arith}
use Rattle.std.proofs.lemmas.List.{take_more, append_assoc}
use Rattle.lattice.specs.declared.point.Face.{Face}
use Rattle.terrain.specs.Curves.{Polygon}
use Rattle.terrain.specs.Cells.{polygon, is_straight, straight_outlines, reversed, transition_faces}
use Rattle.cells.specs.declared.outline.Lateral.{Lateral}
use Rattle.cells.specs.declared.transition.TheConstants.{LATERAL_FACES}
use Rattle.cells.specs.Faces.{reversed_polygon, turned_polygon}

-- a face in one of the two turns, and all faces in it
in_turn : Bool → Polygon → Polygon
in_turn straight p = elim straight [ true ↦ p | false ↦ reversed_polygon p ]

-- all nine faces in one of the two turns, with the signs of their corners
all_in_turn : Bool → ℕ → List Polygon
all_in_turn straight signs =
    map (polygon signs)
    (elim straight [ true ↦ straight_outlines | false ↦ map reversed straight_outlines ])

-- a lateral face, with the signs of its corners
abbrev pub face_of : ℕ → Lateral → Polygon
face_of signs lateral = polygon signs (record { corners = lateral.corners; sides = lateral.sides })

-- an entry of the table is the lateral face of that number, in either turn
at-turn : (straight : Bool) (signs i : ℕ) (other : Lateral) (none : Polygon) → i < 4
    → in_turn straight (face_of signs (get_or LATERAL_FACES i other))
    ≡ get_or (drop 5 (all_in_turn straight signs)) i none
unfolding in_turn all_in_turn
at-turn true signs zero other none lt = refl
at-turn true signs (suc zero) other none lt = refl
at-turn true signs (suc (suc zero)) other none lt = refl
at-turn true signs (suc (suc (suc zero))) other none lt = refl
at-turn true signs (suc (suc (suc (suc i)))) other none lt = absurd (omega arith)
at-turn false signs zero other none lt = refl
at-turn false signs (suc zero) other none lt = refl
at-turn false signs (suc (suc zero)) other none lt = refl
at-turn false signs (suc (suc (suc zero))) other none lt = refl
at-turn false signs (suc (suc (suc (suc i)))) other none lt = absurd (omega arith)

-- behind the five squares there are four lateral faces, in either turn
count-turn : (straight : Bool) (signs : ℕ) → length (drop 5 (all_in_turn straight signs)) ≡ 4
unfolding all_in_turn
count-turn true signs = refl
count-turn false signs = refl

-- one more face behind the first ones
faces-more : (faces : List Polygon) (face : Polygon) (front others : List Polygon) (i : ℕ)
    (none : Polygon) → faces ≡ front ++ take i others → i < length others
    → face ≡ get_or others i none → faces ++ face ∷ [] ≡ front ++ take (i + 1) others
faces-more faces face front others i none so_far lt here =
    ap (λ ps. ps ++ face ∷ []) so_far
    ∙ append_assoc front (take i others) (face ∷ [])
    ∙ ap (λ p. front ++ (take i others ++ p ∷ [])) here
    ∙ ap (λ ps. front ++ ps) (sym (take_more others i none lt))

-- one more lateral face
pub lateral-more : (turn : Face) (signs i : ℕ) (other : Lateral) (faces : List Polygon)
    (straight face : Polygon) → i < 4
    → faces ≡ take 5 (transition_faces turn signs) ++ take i (drop 5 (transition_faces turn signs))
    → straight ≡ face_of signs (get_or LATERAL_FACES i other)
    → face ≡ turned_polygon turn straight
    → faces ++ face ∷ []
    ≡ take 5 (transition_faces turn signs) ++ take (i + 1) (drop 5 (transition_faces turn signs))
unfolding in_turn all_in_turn
lateral-more turn signs i other faces straight face lt so_far is turns =
    let none : Polygon = record { solid = []; sides = [] } in
    let squares = take 5 (transition_faces turn signs) in
    let laterals = drop 5 (transition_faces turn signs) in
    let here = turns ∙ ap (turned_polygon turn) is
    ∙ at-turn (is_straight turn) signs i other none lt in
    let count = count-turn (is_straight turn) signs in
    faces-more faces face squares laterals i none so_far (omega (arith, count)) here

-- faces with the same turn have the same transition cells
pub same_turn : (face other : Face) (signs : ℕ) → is_straight face ≡ is_straight other
    → transition_faces face signs ≡ transition_faces other signs
unfolding all_in_turn
same_turn face other signs same = ap (λ straight. all_in_turn straight signs) same
