-- Slots in groups, of which those that are used have places of their own.
-- Source: this project's rule.
use Rattle.std.specs.Prelude.{ℕ, ◌≡◌, ◌+◌, ◌*◌, ◌/◌, ◌%◌, ◌^◌, ◌<◌, ◌≤◌, ◌==◌, List, length, map, Option, None, slice_index, slice_index_or}
use Rattle.std.specs.List.{count_by, range_with_len}
use Rattle.std.specs.Option.{option_map}
use Rattle.node_tables.specs.declared.slots.TheConstants.{GROUP}

-- what a slot has, by the place of its group; a place has `GROUP` slots
unfoldable pub slot_at : {A : Type 0} → List ℕ → List (Option A) → ℕ → Option A
slot_at places items at =
    slice_index_or items (slice_index places (at / GROUP) * GROUP + at % GROUP) None

-- what so many slots have, in their order: of each item what is told of it
abbrev pub slots_in : {A B : Type 0} → (A → B) → ℕ → List ℕ → List (Option A) → List (Option B)
slots_in told count places items =
    map (λ at. option_map told (slot_at places items at)) (range_with_len 0 count)

-- each group has a place, those at place 0 have no item, and no other place has two groups; there is room for a place
-- of its own for each group that is still at place 0
pub record IsGrouped {A : Type 0} (places : List ℕ) (items : List (Option A))
    (capacity : ℕ) : Type 0 where
  pub few : capacity ≤ GROUP * 2 ^ 16
  pub whole : length items % GROUP ≡ 0
  pub room : length items + GROUP * count_by (λ place. place == 0) places
      ≤ capacity
  pub within : (g : ℕ) → (slice_index places g + 1) * GROUP ≤ length items
  pub apart : (g h : ℕ) → 0 < slice_index places g
      → slice_index places g ≡ slice_index places h → g ≡ h
  pub empty : (k : ℕ) → k < GROUP → slice_index_or items k None ≡ None

-- a group is given a place of its own where it has none, and no slot has anything else than before
pub record GivesPlace {A : Type 0} (group : ℕ) (places new_places : List ℕ)
    (items new_items : List (Option A)) : Type 0 where
  pub own : 0 < slice_index new_places group
  pub slots : (at : ℕ) → slot_at new_places new_items at ≡ slot_at places items at
