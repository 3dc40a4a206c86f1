-- What a contract sees of an exchange and its ends.
-- Source: this project's rule.
use Rattle.std.specs.Prelude.{◌≡◌, Option, None}
use Rattle.crossbeam_queue.specs.Passes.{IsPassOf, view}
use Rattle.errands.specs.declared.ends.Asker.{Asker}
use Rattle.errands.specs.declared.ends.Doer.{Doer}
use Rattle.errands.specs.declared.exchange.Exchange.{Exchange}
use Rattle.errands.specs.declared.side.Side.{Side}
use Rattle.errands.specs.declared.side.Side.TheVariants.{Asks, Does, Over, Whole}

-- what an asker knows that was asked and isn't collected
abbrev pub asked_in : {Q : Type 0} → Side Q → Option Q
asked_in Whole = None
asked_in (Asks asked) = asked
asked_in (Does doing) = None
asked_in Over = None

module _ {Q A E : Type 0} where
  -- it is the asker of this exchange, and this was asked and isn't collected
  abbrev pub HasAsked : Exchange Q A E → Option Q → Asker Q A → Type 0
  HasAsked exchange asked asker =
      IsPassOf exchange.ruled asker.pass × (view asker.pass ≡ Asks asked)

  -- it is the doer of this exchange, who does this
  abbrev pub IsDoing : Exchange Q A E → Option Q → Doer Q A → Type 0
  IsDoing exchange doing doer =
      IsPassOf exchange.ruled doer.pass × (view doer.pass ≡ Does doing)

  -- it is the asker of this exchange, whatever was asked
  abbrev pub IsAskerOf : Exchange Q A E → Asker Q A → Type 0
  IsAskerOf exchange asker = IsPassOf exchange.ruled asker.pass
      × (view asker.pass ≡ Asks (asked_in (view asker.pass)))
