-- The page is put into its group.
use Rattle.std.proofs.Common.{◌≡◌, ◌/◌, ◌<◌, ◌∙◌, [], ap, arith, get_or, length, map, set, sym}
use Rattle.std.proofs.lemmas.List.{get_or-map, length-map, map-set, set-get_or}
use Rattle.std.proofs.lemmas.Result.{on_err_weaker, on_ok_weaker}
use Rattle.std.specs.Arc.{arc_value}
use Rattle.field_pages.specs.declared.shared_pages.TheConstants.{GROUP}
use Rattle.field_pages.specs.Groups.{ungrouped}
use Rattle.field_pages.proofs.GroupLemmas.{group-within, ungrouped-set}
use Rattle.field_pages.proofs.shared_pages.SharedPages.put.Goals as goal

pub index_mut-requires : goal.index_mut-requires
index_mut-requires c =
    let items = c.self.inside.groups.items in
    let within = group-within c.self.inside.count c.args.number (length items)
    (map arc_value items) c.args.self.now c.requires c.self.view_is c.self.invariant in
    omega (arith, within.1)

pub returns-clause-put : goal.returns-clause-put
returns-clause-put c =
    let items = c.self.inside.groups.items in
    let groups = map arc_value items in
    let n = c.args.number in
    let count = c.self.inside.count in
    let group = arc_value c.index_mut.result.now in
    let within = group-within count n (length items) groups c.args.self.now c.requires
    c.self.view_is c.self.invariant in
    let group_in : n / GROUP < length groups =
    omega (arith, within.1, length-map items arc_value) in
    let same : group ≡ get_or groups (n / GROUP) [] =
    ap arc_value c.index_mut.ensures.value
    ∙ sym (get_or-map arc_value items (n / GROUP) c.index_mut.result.now [] within.1) in
    on_ok_weaker c.put_in.result (λ written.
    ap (ungrouped count) (map-set arc_value items (n / GROUP) c.put_in.new.group
    ∙ ap (set groups (n / GROUP)) written)
    ∙ ungrouped-set count groups n group c.args.page within.0 group_in c.put_in.ensures.len same
    ∙ ap (λ l. set l n c.args.page) c.self.view_is)
    c.put_in.ensures.put

pub returns-clause-unchanged : goal.returns-clause-unchanged
returns-clause-unchanged c =
    let items = c.self.inside.groups.items in
    let groups = map arc_value items in
    let n = c.args.number in
    let within = group-within c.self.inside.count n (length items) groups c.args.self.now c.requires
    c.self.view_is c.self.invariant in
    let same : arc_value c.index_mut.result.now ≡ get_or groups (n / GROUP) [] =
    ap arc_value c.index_mut.ensures.value
    ∙ sym (get_or-map arc_value items (n / GROUP) c.index_mut.result.now [] within.1) in
    on_err_weaker c.put_in.result (λ left.
    ap (ungrouped c.self.inside.count) (map-set arc_value items (n / GROUP) c.put_in.new.group
    ∙ ap (set groups (n / GROUP)) (left ∙ same) ∙ set-get_or groups (n / GROUP) [])
    ∙ c.self.view_is)
    c.put_in.ensures.unchanged
