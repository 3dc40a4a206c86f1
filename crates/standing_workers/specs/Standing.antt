-- What contracts see of a mesher with standing workers.
-- Source: this project's rule.
use Rattle.standing_workers.specs.declared.desk.Desk.{Desk}
use Rattle.standing_workers.specs.declared.lanes.Lanes.{Lanes}

-- the queues, and the engine's desk at them
pub record StandingState : Type 0 where
  pub lanes : Lanes
  pub desk : Desk
