-- What lists weigh that are put together.
use Rattle.std.proofs.Common.{◌≡◌, ℕ, ◌+◌, List, [], ◌∷◌, ◌++◌, sym, zero-add, arith}
use Rattle.shared_queues.specs.Accounts.{weight_of}

module _ {T : Type 0} where
  -- two lists weigh together what one has that is made of them
  pub weight_of-append : (weigh : T → ℕ) (xs ys : List T)
      → weight_of weigh (xs ++ ys) ≡ weight_of weigh xs + weight_of weigh ys
  weight_of-append weigh [] ys = sym (zero-add (weight_of weigh ys))
  weight_of-append weigh (x ∷ xs) ys = omega (arith, weight_of-append weigh xs ys)

  -- one more item at the back
  pub weight_of-snoc : (weigh : T → ℕ) (xs : List T) (x : T)
      → weight_of weigh (xs ++ x ∷ []) ≡ weight_of weigh xs + weigh x
  weight_of-snoc weigh xs x = omega (arith, weight_of-append weigh xs (x ∷ []))
