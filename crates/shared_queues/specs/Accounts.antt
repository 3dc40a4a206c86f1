-- What accounts with a shared queue show, and the rule that they keep.
-- Source: this project's rule.
use Rattle.std.specs.Prelude.{◌≡◌, ℕ, ◌+◌, ◌-◌, List, [], ◌∷◌, ◌++◌}
use mathlib.Core.Option.{some}
use lib.ListN.{get_elem?}
use Rattle.shared_queues.specs.declared.entries.Entries.{Entries}

-- how many shares a queue has
abbrev pub all_shares : ℕ
all_shares = 1024

module _ {T : Type 0} where
  -- ---- what is said of lists

  -- what the items of a list weigh together
  abbrev pub weight_of : (T → ℕ) → List T → ℕ
  weight_of weigh [] = 0
  weight_of weigh (x ∷ xs) = weigh x + weight_of weigh xs

  -- two lists have each item as often: whatever the items weigh, the lists weigh the same
  abbrev pub WeighTheSame : List T → List T → Type 0
  WeighTheSame xs ys = (weigh : T → ℕ) → weight_of weigh xs ≡ weight_of weigh ys

  -- ---- what accounts show

  -- the account that a new queue has; one that was just opened; and one that was closed
  abbrev pub first_entries : Entries T
  first_entries = record { shares = all_shares; pushed = []; popped = [] }

  abbrev pub new_entries : Entries T
  new_entries = record { shares = 1; pushed = []; popped = [] }

  abbrev pub closed_entries : Entries T
  closed_entries = record { shares = 0; pushed = []; popped = [] }

  -- an account that gave one share away
  abbrev pub with_less : Entries T → Entries T
  with_less a = record { shares = a.shares - 1; pushed = a.pushed; popped = a.popped }

  -- one with which another item was pushed, or popped
  abbrev pub with_pushed : Entries T → T → Entries T
  with_pushed a item =
      record { shares = a.shares; pushed = a.pushed ++ item ∷ []; popped = a.popped }

  abbrev pub with_popped : Entries T → T → Entries T
  with_popped a item =
      record { shares = a.shares; pushed = a.pushed; popped = a.popped ++ item ∷ [] }

  -- two accounts as one
  abbrev pub joined_entries : Entries T → Entries T → Entries T
  joined_entries a b = record {
    shares = a.shares + b.shares;
    pushed = a.pushed ++ b.pushed;
    popped = a.popped ++ b.popped;
  }

  -- these items are left: what was pushed is, each item as often, what was popped and they
  abbrev pub IsLeft : Entries T → List T → Type 0
  IsLeft a items = WeighTheSame a.pushed (a.popped ++ items)

  -- ---- the rule

  -- a number of each account, added up over all
  abbrev pub total_of : (Entries T → ℕ) → List (Entries T) → ℕ
  total_of number [] = 0
  total_of number (a ∷ accounts) = number a + total_of number accounts

  -- an account without shares shows nothing
  abbrev pub IdleAreEmpty : List (Entries T) → Type 0
  IdleAreEmpty accounts = (place : ℕ) (a : Entries T) → get_elem? accounts place ≡ some a
      → a.shares ≡ 0 → (a.pushed ≡ []) × (a.popped ≡ [])

  -- the accounts have all shares together, and what was pushed with all of them is, each item as often, what was
  -- popped with all of them and what the queue holds
  pub record AddUp (items : List T) (accounts : List (Entries T)) : Type 0 where
    pub shares : total_of (λ (a : Entries T). a.shares) accounts ≡ all_shares
    pub often : (weigh : T → ℕ) → total_of (λ (a : Entries T). weight_of weigh a.pushed) accounts
        ≡ total_of (λ (a : Entries T). weight_of weigh a.popped) accounts + weight_of weigh items
    pub idle : IdleAreEmpty accounts
