-- Each page is one of the group of which all are copies.
use Rattle.std.proofs.Common.{◌≡◌, ◌/◌, ◌%◌, ◌<◌, ◌∙◌, [], ap, arith, get_or, map}
use Rattle.std.proofs.lemmas.List.{get_or-replicate}
use Rattle.std.specs.Arc.{arc_value}
use Rattle.field_pages.specs.declared.shared_pages.TheConstants.{GROUP}
use Rattle.field_pages.specs.Places.{page_at}
use Rattle.field_pages.proofs.GroupLemmas.{length-ungrouped, get_or-ungrouped}
use Rattle.field_pages.proofs.shared_pages.SharedPages.empty.Goals as goal

pub returns-clause-len : goal.returns-clause-len
returns-clause-len c = length-ungrouped c.args.count (map arc_value c.loop.groups.items)

pub returns-clause-samples : goal.returns-clause-samples
returns-clause-samples c = λ n p n_in.
    let groups = map arc_value c.loop.groups.items in
    let one = arc_value c.in_ok-group.group in
    let group_in : n / GROUP < c.loop.counter = omega (arith, n_in, c.loop-test.false) in
    let group_is : get_or groups (n / GROUP) [] ≡ c.in_ok-empty.field-0 =
    ap (λ l. get_or l (n / GROUP) []) c.loop.invariant
    ∙ get_or-replicate c.loop.counter (n / GROUP) one [] group_in
    ∙ c.in_ok-group.ensures.ok in
    ap (λ l. page_at l p) (get_or-ungrouped c.args.count groups n [] n_in
    ∙ ap (λ g. get_or g (n % GROUP) []) group_is)
    ∙ c.in_ok-empty.ensures (n % GROUP) p (omega arith)
