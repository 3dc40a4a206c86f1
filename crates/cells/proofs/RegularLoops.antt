-- The keys of a regular cell's loops are numbers of its edges, by a test of all sign numbers.
use Rattle.std.proofs.Common.{◌≡◌, ℕ, ◌<◌, Bool, true, List, refl}
use Rattle.std.specs.Prelude.{nat_lt}
use Rattle.std.specs.List.{list_all, AllByRecursion}
use Rattle.std.proofs.lemmas.Bool.{ltb-true}
use Rattle.terrain.specs.Curves.{next, steps, orbit, loops_of, loops}
use Rattle.terrain.specs.Cells.{regular_faces}
use Rattle.cell_laws.proofs.AllSigns.{All-passing, all_regular, at_regular}

-- whether all keys of the lists are below 12
are_low : List (List ℕ) → Bool
are_low lists = list_all (list_all (λ key. nat_lt key 12)) lists

-- the test of all 256 sign numbers passes: it is computed
regular_pass : all_regular (λ signs faces. are_low (loops faces)) ≡ true
unfolding are_low all_regular next steps orbit loops_of
regular_pass = refl

-- the loops of each regular cell have the numbers of its edges
pub regular-below : (signs : ℕ) → signs < 256
    → AllByRecursion (AllByRecursion (λ key. key < 12)) (loops (regular_faces signs))
unfolding are_low
regular-below signs lt =
    let is_low : ℕ → Bool = λ key. nat_lt key 12 in
    All-passing (list_all is_low) (AllByRecursion (λ key. key < 12))
    (All-passing is_low (λ key. key < 12) (λ key. ltb-true key 12)) (loops (regular_faces signs))
    (at_regular (λ signs faces. are_low (loops faces)) regular_pass signs lt)
