-- The slots so far have nothing, and there is room for the others.
use Rattle.std.proofs.Common.{◌≡◌, ◌++◌, None, replicate, vec_capacity}
use Rattle.node_tables.proofs.slots.add_group.Given as goal

abbrev pub invariant-loop : goal.invariant-loop
invariant-loop g l = record {
  items : l.items.items ≡ l.initial.items.items ++ replicate l.counter None;
  room : vec_capacity l.items ≡ vec_capacity l.initial.items;
}
