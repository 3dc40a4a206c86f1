-- A node's slot is its place in the list.
use Rattle.lattice.proofs.CountLemmas.{slot_of_root}
use Rattle.lattice.proofs.SlotLemmas.{node_at_slot, slot_at_place, same_slot, slot_is}
use Rattle.lattice.proofs.orders.slots_of_nodes.Goals as goal

pub returns : goal.returns
returns c = record {
  place = node_at_slot;
  no_gap = slot_at_place;
  apart = same_slot;
  number = slot_is;
  last = slot_of_root;
}
