-- All groups have the first place, which is empty.
use Rattle.std.proofs.Common.{◌++◌, ◌∙◌, None, ap, arith, length, replicate}
use Rattle.std.specs.Prelude.{ℕ}
use Rattle.std.proofs.lemmas.List.{length-replicate}
use Rattle.std.specs.Arc.{arc_value}
use Rattle.node_tables.proofs.GroupLemmas.{IsGrouped-new, slots_in-none}
use Rattle.node_tables.proofs.slots.Slots.new.Goals as goal

pub invariant_of-result : goal.invariant_of-result
invariant_of-result g c =
    let places = c.in_ok-places.ensures.items_if_clones_equal (λ y same. same) in
    record {
      enough = omega (
        arith,
        ap length places,
        length-replicate {A = ℕ} c.div_ceil-groups.result 0,
        c.div_ceil-groups.ensures,
      );
      grouped = rw (
        places,
        c.add_group.ensures.items,
        c.add_group.ensures.room,
        c.in_ok-items.ensures.items,
        c.in_ok-items.ensures.exact,
      )
          (IsGrouped-new c.div_ceil-groups.result
          (omega (arith, c.requires, c.div_ceil-groups.ensures)));
    }

pub returns : goal.returns
returns g c =
    slots_in-none arc_value c.args.count c.in_ok-places.places.items c.add_group.new.items.items
    (c.add_group.ensures.items ∙ ap (λ xs. xs ++ replicate 64 None) c.in_ok-items.ensures.items)
