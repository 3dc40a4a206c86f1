-- One more lawful event.
use Rattle.std.proofs.lemmas.List.Elements.{All-push, All-same}
use Rattle.terrain.specs.History.{IsLawfulEvent}
use Rattle.script_examples.proofs.limit.list.Goals as goal

pub loop-number-preserved : goal.loop-number-preserved
loop-number-preserved c =
    All-same (IsLawfulEvent 0) c.push.new.self.items _ c.in_ok-push.ensures.items
    (All-push (IsLawfulEvent 0) c.loop-number.list.items c.seen.result c.loop-number.invariant
    c.seen.ensures)
