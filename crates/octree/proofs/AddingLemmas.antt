-- What is appended of the changed and the lost leaves of some nodes: `AddsChanges`, list by list.
use Rattle.std.proofs.Common.{◌≡◌, ℕ, zero, suc, ◌+◌, List, [], ◌++◌, add-one, filter, sym, subst, ap, ◌∙◌}
use Rattle.std.proofs.lemmas.List.{append-nil}
use Rattle.lattice.specs.declared.node.Node.{Node}
use Rattle.lattice.specs.Lists.{joined}
use Rattle.octree.specs.declared.changed.LeafChange.{LeafChange}
use Rattle.octree.specs.Changes.{AddsChanges, IsQuietPlane, IsSwitchedAround, is_lost, is_new_leaf}
use Rattle.octree.specs.LeafLists.{first_of_row}
use Rattle.octree.specs.SplitBits.{SplitBits}
use Rattle.octree.proofs.ChangedLemmas.{unchanged, unlost}
use Rattle.octree.proofs.LeafLemmas.{filtered-more, filtered-none, filtered-row}

module _ (before after : SplitBits) where
  -- of nodes of which none is changed or lost nothing is appended
  pub adds-nothing : (ns : List Node) (a : LeafChange) → filter (is_new_leaf before after) ns ≡ []
      → filter (is_lost before after) ns ≡ [] → AddsChanges before after ns a a
  adds-nothing ns a no_new no_lost = record {
    changed = sym (append-nil a.changed.items) ∙ ap (λ l. a.changed.items ++ l) (sym no_new);
    lost = sym (append-nil a.lost.items) ∙ ap (λ l. a.lost.items ++ l) (sym no_lost);
  }

  -- of no lists of nodes nothing is
  pub adds-none : (f : ℕ → List Node) (a : LeafChange) → AddsChanges before after (joined 0 f) a a
  adds-none f a = record {
    changed = filtered-none (is_new_leaf before after) f a.changed.items;
    lost = filtered-none (is_lost before after) f a.lost.items;
  }

  -- a list of nodes more
  pub adds-more : (f : ℕ → List Node) (a b c : LeafChange) (n : ℕ)
      → AddsChanges before after (joined n f) a b → AddsChanges before after (f n) b c
      → AddsChanges before after (joined (n + 1) f) a c
  adds-more f a b c n so_far next = record {
    changed = filtered-more (is_new_leaf before after) f a.changed.items b.changed.items
        c.changed.items n so_far.changed next.changed;
    lost = filtered-more (is_lost before after) f a.lost.items b.lost.items c.lost.items n
        so_far.lost next.lost;
  }

  -- of the nodes of quiet planes nothing is
  pub adds-quiet : before.depth ≡ after.depth → (level k across : ℕ)
      → IsQuietPlane before after level k → (count : ℕ) (a : LeafChange)
      → AddsChanges before after (joined count (λ j. first_of_row level k j across)) a a
  adds-quiet depth level k across quiet zero a =
      adds-none (λ j. first_of_row level k j across) a
  adds-quiet depth level k across quiet (suc count) a =
      let node : ℕ → Node = λ i. record { level = level; k = k; j = count; i = i } in
      let around : (i : ℕ) → IsSwitchedAround before after (node i) → ⊥ = quiet.around count in
      let last = adds-nothing (first_of_row level k count across) a
      (filtered-row (is_new_leaf before after) node across
      (λ i i_in. unchanged before after (node i) depth (around i) (quiet.parents count i)))
      (filtered-row (is_lost before after) node across
      (λ i i_in. unlost before after (node i) depth (around i) (quiet.parents count i))) in
      subst (λ n. AddsChanges before after (joined n (λ j. first_of_row level k j across)) a a)
      (add-one count) (adds-more (λ j. first_of_row level k j across) a a a count
      (adds-quiet depth level k across quiet count a) last)
