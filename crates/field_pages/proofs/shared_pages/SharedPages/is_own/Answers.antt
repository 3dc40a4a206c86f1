-- The page's group is there.
use Rattle.std.proofs.Common.{arith, length, map}
use Rattle.std.specs.Arc.{arc_value}
use Rattle.field_pages.proofs.GroupLemmas.{group-within}
use Rattle.field_pages.proofs.shared_pages.SharedPages.is_own.Goals as goal

pub index-requires : goal.index-requires
index-requires c =
    let items = c.self.inside.groups.items in
    let within = group-within c.self.inside.count c.args.number (length items)
    (map arc_value items) c.args.self.now c.requires c.self.view_is c.self.invariant in
    omega (arith, within.1)
