-- The lists of the editors so far.
use Rattle.std.proofs.Common.{◌≡◌, All, Global, Vec, map}
use Rattle.requests.specs.Edited.{lists_below}
use Rattle.terrain.specs.History.{IsLawfulEvent}
use Rattle.terrain.specs.declared.event.Event.{Event}
use Rattle.requests.proofs.editing.all_lists.Given as goal

abbrev pub invariant-loop-editor : goal.invariant-loop-editor
invariant-loop-editor l = record {
  lists : map (λ list. list.items) l.lists.items ≡ lists_below l.asked l.editor;
  lawful : All (λ (list : Vec Event Global). All (IsLawfulEvent l.asked.depth) list.items)
      l.lists.items;
}
