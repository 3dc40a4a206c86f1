-- What a contract sees of a shared queue and of an account with it.
-- Source: this project's rule.
use Rattle.crossbeam_queue.specs.Passes.{IsPassOf, view}
use Rattle.shared_queues.specs.declared.account.Account.{Account}
use Rattle.shared_queues.specs.declared.entries.Entries.{Entries}
use Rattle.shared_queues.specs.declared.queue.SharedQueue.{SharedQueue}

module _ {T : Type 0} where
  -- what an account shows
  abbrev pub entries : Account T → Entries T
  entries account = view account.pass

  -- it is an account with this queue
  abbrev pub IsAccountOf : SharedQueue T → Account T → Type 0
  IsAccountOf queue account = IsPassOf queue.ruled account.pass
