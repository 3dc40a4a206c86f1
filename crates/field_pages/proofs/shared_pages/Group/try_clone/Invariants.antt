-- The pages so far are the group's first ones, and there is room for the others.
use Rattle.std.proofs.Common.{◌≡◌, length, take, vec_capacity}
use Rattle.field_pages.proofs.shared_pages.Group.try_clone.Given as goal

abbrev pub invariant-loop-page : goal.invariant-loop-page
invariant-loop-page l = record {
  pages : l.pages.items ≡ take l.page-index l.page-items;
  room : vec_capacity l.pages ≡ length l.page-items;
}
