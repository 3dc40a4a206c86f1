-- What accounts have together.
-- A total changes where one account changes (`total_of-set`) or another one is opened (`total_of-snoc`). Where one
-- account has all shares, the others have none and show nothing, so the total is that account's number alone
-- (`total_of-whole`).
use Rattle.std.proofs.Common.{◌≡◌, ℕ, zero, suc, ◌+◌, ◌≤◌, List, [], ◌∷◌, ◌++◌, set, sym, refl, ap, ◌∙◌, arith}
use mathlib.Core.Option.{some, some-injective, some-ne-none}
use lib.ListN.{get_elem?}
use Rattle.shared_queues.specs.declared.entries.Entries.{Entries}
use Rattle.shared_queues.specs.Accounts.{total_of}

module _ {T : Type 0} where
  -- one account changes
  pub total_of-set : (number : Entries T → ℕ) (accounts : List (Entries T)) (place : ℕ)
      (old new : Entries T) → get_elem? accounts place ≡ some old
      → total_of number (set accounts place new) + number old
      ≡ total_of number accounts + number new
  total_of-set number [] place old new at = absurd (some-ne-none old (sym at))
  total_of-set number (a ∷ accounts) zero old new at =
      omega (arith, ap number (some-injective a old at))
  total_of-set number (a ∷ accounts) (suc place) old new at =
      omega (arith, total_of-set number accounts place old new at)

  -- another account is added
  pub total_of-snoc : (number : Entries T → ℕ) (accounts : List (Entries T)) (new : Entries T)
      → total_of number (accounts ++ new ∷ []) ≡ total_of number accounts + number new
  total_of-snoc number [] new = omega arith
  total_of-snoc number (a ∷ accounts) new = omega (arith, total_of-snoc number accounts new)

  -- no account has more shares than all together
  pub shares_within : (accounts : List (Entries T)) (place : ℕ) (a : Entries T)
      → get_elem? accounts place ≡ some a
      → a.shares ≤ total_of (λ (b : Entries T). b.shares) accounts
  shares_within [] place a at = absurd (some-ne-none a (sym at))
  shares_within (b ∷ accounts) zero a at =
      omega (arith, ap (λ (b : Entries T). b.shares) (some-injective b a at))
  shares_within (b ∷ accounts) (suc place) a at = omega (arith, shares_within accounts place a at)

  -- a number is 0 of each account without shares
  abbrev pub IsIdle : (Entries T → ℕ) → List (Entries T) → Type 0
  IsIdle number accounts = (place : ℕ) (a : Entries T) → get_elem? accounts place ≡ some a
      → a.shares ≡ 0 → number a ≡ 0

  -- accounts without shares have none of it together
  total_of-idle : (number : Entries T → ℕ) (accounts : List (Entries T)) → IsIdle number accounts
      → total_of (λ (b : Entries T). b.shares) accounts ≡ 0 → total_of number accounts ≡ 0
  total_of-idle number [] idle none = refl
  total_of-idle number (a ∷ accounts) idle none =
      let here : a.shares ≡ 0 = omega arith in
      let rest : total_of (λ (b : Entries T). b.shares) accounts ≡ 0 = omega arith in
      omega (
        arith,
        idle 0 a refl here,
        total_of-idle number accounts (λ place b at. idle (suc place) b at) rest,
      )

  -- where one account has all shares, it has all of it
  pub total_of-whole : (number : Entries T → ℕ) (accounts : List (Entries T)) (place : ℕ)
      (a : Entries T) → get_elem? accounts place ≡ some a → IsIdle number accounts
      → total_of (λ (b : Entries T). b.shares) accounts ≡ a.shares
      → total_of number accounts ≡ number a
  total_of-whole number [] place a at idle whole = absurd (some-ne-none a (sym at))
  total_of-whole number (b ∷ accounts) zero a at idle whole =
      let same = some-injective b a at in
      let rest : total_of (λ (b : Entries T). b.shares) accounts ≡ 0 =
      omega (arith, ap (λ (b : Entries T). b.shares) same) in
      omega (
        arith,
        ap number same,
        total_of-idle number accounts (λ k c is. idle (suc k) c is) rest,
      )
  total_of-whole number (b ∷ accounts) (suc place) a at idle whole =
      let within = shares_within accounts place a at in
      let none : b.shares ≡ 0 = omega arith in
      let rest : total_of (λ (b : Entries T). b.shares) accounts ≡ a.shares = omega arith in
      omega (
        arith,
        idle 0 b refl none,
        total_of-whole number accounts place a at (λ k c is. idle (suc k) c is) rest,
      )
