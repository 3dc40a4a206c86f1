-- Arrays that are no point, and those that are no place.
use Rattle.std.proofs.Common.{◌≡◌, ℕ, ◌<◌, ◌≤◌, List, [], ◌∷◌, length, refl, arith}
use Rattle.std.specs.Prelude.{None}
use Rattle.serde_json.specs.declared.value.Value.{Value}
use Rattle.serde_json.specs.View.{items_view}
use Rattle.camera_script.specs.Values.{three_numbers, two_numbers}

-- fewer than three items are no point
pub three_numbers-fewer : (side : ℕ) (items : List Value) → length items < 3
    → None ≡ three_numbers side (items_view items)
three_numbers-fewer side [] few = refl
three_numbers-fewer side (x ∷ []) few = refl
three_numbers-fewer side (x ∷ y ∷ []) few = refl
three_numbers-fewer side (x ∷ y ∷ z ∷ items) few = absurd (omega arith)

-- more than three items are no point
pub three_numbers-more : (side : ℕ) (items : List Value) → 4 ≤ length items
    → None ≡ three_numbers side (items_view items)
three_numbers-more side [] many = absurd (omega arith)
three_numbers-more side (x ∷ []) many = absurd (omega arith)
three_numbers-more side (x ∷ y ∷ []) many = absurd (omega arith)
three_numbers-more side (x ∷ y ∷ z ∷ []) many = absurd (omega arith)
three_numbers-more side (x ∷ y ∷ z ∷ more ∷ items) many = refl

-- fewer than two items are no place
pub two_numbers-fewer : (side : ℕ) (items : List Value) → length items < 2
    → None ≡ two_numbers side (items_view items)
two_numbers-fewer side [] few = refl
two_numbers-fewer side (x ∷ []) few = refl
two_numbers-fewer side (x ∷ y ∷ items) few = absurd (omega arith)

-- more than two items are no place
pub two_numbers-more : (side : ℕ) (items : List Value) → 3 ≤ length items
    → None ≡ two_numbers side (items_view items)
two_numbers-more side [] many = absurd (omega arith)
two_numbers-more side (x ∷ []) many = absurd (omega arith)
two_numbers-more side (x ∷ y ∷ []) many = absurd (omega arith)
two_numbers-more side (x ∷ y ∷ more ∷ items) many = refl
