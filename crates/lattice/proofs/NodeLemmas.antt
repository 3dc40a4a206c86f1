-- What the calls of a node rest on.
use Rattle.std.proofs.Common.{◌≡◌, ℕ, ◌+◌, ◌-◌, ◌*◌, ◌^◌, ◌<◌, ◌≤◌, Bool, true, false, sym, ◌∙◌, arith, Option, Some, None}
use Rattle.std.specs.Prelude.{◌&&◌, if◌then◌else◌, nat_lt, nat_le, ℤ, pos, ◌+ℤ◌, unsigned_abs}
use Rattle.std.proofs.Math.Nat.{pow-suc, pow-zero}
use Rattle.std.proofs.lemmas.Nat.{mul-le}
use Rattle.lattice.specs.declared.node.Node.{Node}

-- a third power is a product of three
pub cubed : (a : ℕ) → a ^ 3 ≡ a * (a * a)
cubed a = rw (pow-suc, pow-suc, pow-suc, pow-zero) (omega arith)

-- a place in a cube of nodes is below the number of its nodes
pub place_below : (a k j i : ℕ) → k < a → j < a → i < a → (k * a + j) * a + i < a ^ 3
place_below a k j i hk hj hi =
    let row : k * a + j + 1 ≤ a * a =
    omega (arith, mul-le (k + 1) a a a (omega arith) (omega arith)) in
    let cube : (k * a + j + 1) * a ≤ a * a * a =
    mul-le (k * a + j + 1) a (a * a) a row (omega arith) in
    omega (arith, cubed a, cube)

-- the index that a step leads to, if it is in the row
abbrev pub fitted : ℕ → ℕ → ℕ → Option ℕ
fitted index step across = if nat_lt 0 (index + step)
    && nat_le (index + step) across then Some (index + step - 1) else None

-- three indices that fit make a neighbour
pub neighbour_some : (level : ℕ) (a b c : Bool) (k j i k' j' i' : ℕ)
    → (if a then Some k else None) ≡ Some k' → (if b then Some j else None) ≡ Some j'
    → (if c then Some i else None) ≡ Some i' → ◌≡◌ {A =
    Option Node} (Some (record { level = level; k = k'; j = j'; i = i' })) (if a && b
    && c then Some (record { level = level; k = k; j = j; i = i }) else None)
neighbour_some level true true true k j i k' j' i' ek ej ei = cc
neighbour_some level false b c k j i k' j' i' ek ej ei = absurd (cc)
neighbour_some level true false c k j i k' j' i' ek ej ei = absurd (cc)
neighbour_some level true true false k j i k' j' i' ek ej ei = absurd (cc)

-- what a step led to
pub fitted_from : (index across a : ℕ) (step seen : ℤ) (r o : Option ℕ) → seen ≡ step → a ≡ across
    → r ≡ fitted index (unsigned_abs (seen +ℤ pos 1)) a → r ≡ o
    → fitted index (unsigned_abs (step +ℤ pos 1)) across ≡ o
fitted_from index across a step seen r o same_step same_across fits is =
    let there : fitted index (unsigned_abs (seen +ℤ pos 1)) a
    ≡ fitted index (unsigned_abs (step +ℤ pos 1)) across =
    λ t. fitted index (unsigned_abs (same_step t +ℤ pos 1)) (same_across t) in
    sym there ∙ sym fits ∙ is
