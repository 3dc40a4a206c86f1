-- What contracts see of doors.
-- Source: this project's rule.
use Rattle.std.specs.Prelude.{ℕ}
use Rattle.fault_counts.specs.Calls.{Calls}

-- a plain door: how often it has refused, and how often it has let a viewer in
pub record DoorState : Type 0 where
  pub refusals : ℕ
  pub entries : ℕ

-- a test door: its calls, and how often it has let a viewer in
pub record TestDoorState : Type 0 where
  pub calls : Calls
  pub entries : ℕ
