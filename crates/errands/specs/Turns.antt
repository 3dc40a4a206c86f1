-- Whose turn it is at an exchange: what lies there, and what each end knows of it.
-- Source: this project's rule.
use Rattle.std.specs.Prelude.{◌≡◌, ◌⊎◌, List, [], ◌∷◌, Option, None, Some}
use Rattle.errands.specs.declared.message.Message.{Message}
use Rattle.errands.specs.declared.message.Message.TheVariants.{Ask, Reply, Stop}
use Rattle.errands.specs.declared.side.Side.{Side}
use Rattle.errands.specs.declared.side.Side.TheVariants.{Asks, Does, Over, Whole}

module _ {Q A : Type 0} where
  -- what the asker knows that left this
  abbrev pub side_with : Message Q A → Side Q
  side_with (Ask q) = Asks (Some q)
  side_with (Reply a) = Over
  side_with Stop = Over

  -- what lies there is a Stop, or nothing
  abbrev pub IsLast : List (Message Q A) → Type 0
  IsLast [] = Unit {0}
  IsLast (message ∷ rest) = (message ≡ Stop) × (rest ≡ [])

module _ {Q A : Type 0} (answers : Q → A → Type 0) where
  -- a message is what was asked, or answers it
  abbrev pub IsOf : Q → Message Q A → Type 0
  IsOf q (Ask asked) = asked ≡ q
  IsOf q (Reply a) = answers q a
  IsOf q Stop = ⊥

  abbrev pub IsOfAsked : Side Q → Message Q A → Type 0
  IsOfAsked Whole message = ⊥
  IsOfAsked (Asks None) message = ⊥
  IsOfAsked (Asks (Some q)) message = IsOf q message
  IsOfAsked (Does doing) message = ⊥
  IsOfAsked Over message = ⊥

  -- one such message lies there, and nothing else
  abbrev pub IsOneOf : Q → List (Message Q A) → Type 0
  IsOneOf q [] = ⊥
  IsOneOf q (message ∷ rest) = IsOf q message × (rest ≡ [])

  -- what lies there, by what the asker knows and what is being done: nothing where nothing is asked; what was asked, or
  -- what answers it, where it isn't being done; and nothing while it is
  abbrev pub Lies : Side Q → Option Q → List (Message Q A) → Type 0
  Lies Whole doing items = ⊥
  Lies (Asks None) None items = items ≡ []
  Lies (Asks None) (Some r) items = ⊥
  Lies (Asks (Some q)) None items = IsOneOf q items
  Lies (Asks (Some q)) (Some r) items = (r ≡ q) × (items ≡ [])
  Lies (Does other) doing items = ⊥
  Lies Over None items = IsLast items
  Lies Over (Some r) items = ⊥

  -- an exchange has two ends
  pub record IsOpened (items : List (Message Q A)) (views : List (Side Q)) : Type 0 where
    pub asker : Side Q
    pub doing : Option Q
    pub two : views ≡ asker ∷ Does doing ∷ []
    pub lies : Lies asker doing items

  -- the rule: there is one end, and nothing lies there, or there are two
  abbrev pub InTurn : List (Message Q A) → List (Side Q) → Type 0
  InTurn items views = ((views ≡ Whole ∷ []) × (items ≡ [])) ⊎ IsOpened items views

  -- what the doer knows that took this: its own reply answers what it was asked
  abbrev pub HasTaken : Message Q A → Side Q → Type 0
  HasTaken (Ask q) new = new ≡ Does (Some q)
  HasTaken (Reply a) new = (q : Q) × (new ≡ Does (Some q)) × answers q a
  HasTaken Stop new = new ≡ Does None
