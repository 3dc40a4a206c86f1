-- A call of `any` gives the definition's test of the list.
use Rattle.std.proofs.Common.{◌≡◌, Bool, List, [], ◌∷◌, map, refl, ap, ◌∙◌, rules, tests}
use Rattle.std.specs.List.{list_any}
use Rattle.std.specs.Prelude.{◌||◌}
use Rattle.std.proofs.lemmas.Iterator.{YieldsList-from_slice}
use Rattle.std.proofs.lemmas.Iterator.Search.{any_from_yields_List}
use Rattle.vertex_places.specs.Directions.{as_direction}
use Rattle.vertex_places.specs.Moves.{is_whole_by}
use Rattle.vertex_places.proofs.leaf_rim.LeafRim.is_any_whole.Goals as goal

-- a test of the images of a list
list_any-map : {A B : Type 0} (test : B → Bool) (f : A → B) (xs : List A)
    → list_any (λ x. test (f x)) xs ≡ list_any test (map f xs)
list_any-map test f [] = refl
list_any-map test f (x ∷ xs) = ap (λ rest. test (f x) || rest) (list_any-map test f xs)

pub returns : goal.returns
returns c =
    let test = is_whole_by c.args.self.now in
    let places = c.args.places.now in
    any_from_yields_List (λ d. test (as_direction d)) _ _ c.any.result c.any.ensures.ran
    (YieldsList-from_slice places cc) (λ x b q k. search (rules, tests))
    ∙ list_any-map test as_direction places
