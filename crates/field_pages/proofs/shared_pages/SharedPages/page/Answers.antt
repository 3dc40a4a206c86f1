-- The page is that of its group.
use Rattle.std.proofs.Common.{◌≡◌, ◌/◌, ◌%◌, ◌∙◌, [], ap, arith, get_or, length, map, sym}
use Rattle.std.proofs.lemmas.List.{get_or-map}
use Rattle.std.specs.Arc.{arc_value}
use Rattle.field_pages.specs.declared.shared_pages.TheConstants.{GROUP}
use Rattle.field_pages.proofs.GroupLemmas.{get_or-ungrouped, group-within}
use Rattle.field_pages.proofs.shared_pages.SharedPages.page.Goals as goal

pub index-requires : goal.index-requires
index-requires c =
    let items = c.self.inside.groups.items in
    let within = group-within c.self.inside.count c.args.number (length items)
    (map arc_value items) c.args.self.now c.requires c.self.view_is c.self.invariant in
    omega (arith, within.1)

pub returns : goal.returns
returns c =
    let items = c.self.inside.groups.items in
    let groups = map arc_value items in
    let n = c.args.number in
    let within = group-within c.self.inside.count n (length items) groups c.args.self.now
    c.requires c.self.view_is c.self.invariant in
    let group_is : c.deref.result.now ≡ get_or groups (n / GROUP) [] =
    c.deref.ensures ∙ ap arc_value c.index.ensures
    ∙ sym (get_or-map arc_value items (n / GROUP) c.index.result.now [] within.1) in
    c.page.ensures ∙ ap (λ g. get_or g (n % GROUP) []) group_is
    ∙ sym (get_or-ungrouped c.self.inside.count groups n [] within.0)
    ∙ ap (λ l. get_or l n []) c.self.view_is
