-- What holds of the keys of loops holds of those of their triangles.
use Rattle.std.proofs.Common.{ℕ, List, [], ◌∷◌, ◌++◌, map, drop}
use Rattle.std.specs.List.{zip, AllByRecursion}
use Rattle.terrain.specs.Curves.{fan, fan_of}

-- the triangles of a list whose first key is given, and whose others stand in two lists side by side
All-corners : (P : ℕ → Type 0) (key : ℕ) (xs ys : List ℕ) → P key → AllByRecursion P xs
    → AllByRecursion P ys → AllByRecursion (AllByRecursion P)
    (map (λ edge. key ∷ edge.0 ∷ edge.1 ∷ []) (zip xs ys))
All-corners P key [] ys here all others = tt
All-corners P key (x ∷ xs) [] here all others = tt
All-corners P key (x ∷ xs) (y ∷ ys) here all others =
    ((here, (all.0, (others.0, tt))), All-corners P key xs ys here all.1 others.1)

-- what holds of all keys holds of those behind the first
All-drop : (P : ℕ → Type 0) (keys : List ℕ) → AllByRecursion P keys → AllByRecursion P (drop 1 keys)
All-drop P [] all = tt
All-drop P (key ∷ keys) all = all.1

-- one loop: each triangle has its first key and two that follow each other
All-fan_of : (P : ℕ → Type 0) (keys : List ℕ) → AllByRecursion P keys
    → AllByRecursion (AllByRecursion P) (fan_of keys)
All-fan_of P [] all = tt
All-fan_of P (key ∷ keys) all = All-corners P key keys (drop 1 keys) all.0 all.1
    (All-drop P keys all.1)

-- two lists one after another
All-append : {X : Type 0} (P : X → Type 0) (xs ys : List X) → AllByRecursion P xs
    → AllByRecursion P ys → AllByRecursion P (xs ++ ys)
All-append P [] ys all others = others
All-append P (x ∷ xs) ys all others = (all.0, All-append P xs ys all.1 others)

-- what holds of the keys of loops holds of those of their triangles
pub All-fan : (P : ℕ → Type 0) (lists : List (List ℕ)) → AllByRecursion (AllByRecursion P) lists
    → AllByRecursion (AllByRecursion P) (fan lists)
All-fan P [] all = tt
All-fan P (keys ∷ lists) all = All-append (AllByRecursion P) (fan_of keys) (fan lists)
    (All-fan_of P keys all.0) (All-fan P lists all.1)
