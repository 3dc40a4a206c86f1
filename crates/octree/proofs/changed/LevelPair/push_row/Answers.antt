-- Where neither a node around the row's nodes nor a parent of theirs is switched, none of them is changed or lost; else
-- the words tell which are.
use Rattle.std.proofs.Common.{◌≡◌, ℕ, ◌<◌, ◌≤◌, false, List, ◌++◌, filter, sym, ap, ◌∙◌, subst, arith}
use Rattle.std.specs.Prelude.{◌&&◌, ◌||◌, bit_and, bit_or, not}
use Rattle.std.specs.Int.{bit_not, w64}
use Rattle.std.proofs.lemmas.Bool.{and_left, false≢true}
use Rattle.std.proofs.lemmas.Result.{on_ok_weaker}
use Rattle.lattice.specs.declared.node.Node.{Node}
use Rattle.lattice.specs.Node.{nodes_across}
use Rattle.octree.specs.Changes.{IsSwitchedAround, is_lost, is_new_leaf}
use Rattle.octree.specs.Layers.{PairOf}
use Rattle.octree.specs.LeafLists.{first_of_row, nodes_of_row}
use Rattle.octree.specs.SplitBits.{row_bit, split_at}
use Rattle.terrain.specs.Levels.{is_leaf}
use Rattle.octree.proofs.AddingLemmas.{adds-nothing}
use Rattle.octree.proofs.ChangedLemmas.{changed_bit, unchanged, unlost}
use Rattle.octree.proofs.LeafLemmas.{filtered-row, filtered-same, no_leaf-past}
use Rattle.octree.proofs.RowBitLemmas.{and_bits, clear_bits, none_set, not_bits, or_bits}
use Rattle.octree.proofs.changed.LevelPair.push_row.Goals as goal

pub returns-then-has_same_parents : goal.returns-then-has_same_parents
returns-then-has_same_parents c =
    let pair = c.args.self.now in
    let node : ℕ → Node = λ i. record {
      level = pair.level;
      k = c.args.k;
      j = c.args.j;
      i = i;
    } in
    let across = nodes_across pair.after.depth pair.level in
    let quiet : (i : ℕ) → IsSwitchedAround pair.before pair.after (node i) → ⊥ =
    λ i around. false≢true (sym (ap (λ w. row_bit w i) c.if-near-eq0.true ∙ none_set i)
    ∙ (c.requires.near i).1 around) in
    let depth : pair.before.depth ≡ pair.after.depth =
    sym (ap (λ (p : PairOf). p.before.depth) c.self.view_is) ∙ c.self.invariant.same_depth
    ∙ ap (λ (p : PairOf). p.after.depth) c.self.view_is in
    let above = c.has_same_parents.ensures c.if-has_same_parents.true in
    adds-nothing pair.before pair.after
    (nodes_of_row pair.after.depth pair.level c.args.k c.args.j) c.args.change.now
    (filtered-row (is_new_leaf pair.before pair.after) node across
    (λ i i_in. unchanged pair.before pair.after (node i) depth (quiet i) (above i)))
    (filtered-row (is_lost pair.before pair.after) node across
    (λ i i_in. unlost pair.before pair.after (node i) depth (quiet i) (above i)))

pub returns : goal.returns
returns c =
    let pair = c.args.self.now in
    let before = pair.before in
    let after = pair.after in
    let level = pair.level in
    let node : ℕ → Node = λ i. record { level = level; k = c.args.k; j = c.args.j; i = i } in
    let was = c.leaf_row-was.result in
    let now = c.leaf_row-now.result in
    let across = nodes_across after.depth level in
    let depth : before.depth ≡ after.depth =
    sym (ap (λ (p : PairOf). p.before.depth) c.self.view_is) ∙ c.self.invariant.same_depth
    ∙ ap (λ (p : PairOf). p.after.depth) c.self.view_is in
    let short : across ≤ 64 =
    omega (
      arith,
      c.self.invariant.few,
      c.self.invariant.all
          ∙ ap (λ (p : PairOf). nodes_across p.after.depth p.level) c.self.view_is,
    ) in
    let was_bit : (i : ℕ) → row_bit was i ≡ is_leaf before.depth (split_at before) (node i) =
    λ i. c.leaf_row-was.ensures i
    ∙ ap (λ l. is_leaf c.self.inside.before.levels.depth (split_at c.self.inside.before.levels)
    (record { level = l; k = c.args.k; j = c.args.j; i = i })) c.self.invariant.first_level
    ∙ ap (λ (p : PairOf). is_leaf p.before.depth (split_at p.before)
    (record { level = p.level; k = c.args.k; j = c.args.j; i = i })) c.self.view_is in
    let now_bit : (i : ℕ) → row_bit now i ≡ is_leaf after.depth (split_at after) (node i) =
    λ i. c.leaf_row-now.ensures i
    ∙ ap (λ l. is_leaf c.self.inside.after.levels.depth (split_at c.self.inside.after.levels)
    (record { level = l; k = c.args.k; j = c.args.j; i = i })) c.self.invariant.second_level
    ∙ ap (λ (p : PairOf). is_leaf p.after.depth (split_at p.after)
    (record { level = p.level; k = c.args.k; j = c.args.j; i = i })) c.self.view_is in
    let was_past : (i : ℕ) → across ≤ i → row_bit was i ≡ false =
    λ i past. was_bit i ∙ no_leaf-past before.depth (split_at before) level c.args.k c.args.j i
    (subst (λ d. nodes_across d level ≤ i) (sym depth) past) in
    let now_past : (i : ℕ) → across ≤ i → row_bit now i ≡ false =
    λ i past. now_bit i
    ∙ no_leaf-past after.depth (split_at after) level c.args.k c.args.j i past in
    let new_word = bit_and now (bit_or c.args.near (bit_not w64 was)) in
    let lost_word = bit_and was (bit_not w64 now) in
    let new_bit : (i : ℕ) → i < across
    → row_bit new_word i ≡ is_new_leaf before after (node i) =
    λ i i_in.
    and_bits now (bit_or c.args.near (bit_not w64 was)) i
    ∙ (λ t. now_bit i t && (or_bits c.args.near (bit_not w64 was) i
    ∙ (λ u. row_bit c.args.near i || (not_bits was i c.leaf_row-was.type_inv
    (omega (arith, i_in, short)) ∙ ap not (was_bit i)) u)) t)
    ∙ changed_bit before after (node i) depth (row_bit c.args.near i) (c.requires.near i) in
    let lost_bit : (i : ℕ) → row_bit lost_word i ≡ is_lost before after (node i) =
    λ i. clear_bits was now i c.leaf_row-was.type_inv c.leaf_row-now.type_inv
    ∙ (λ t. was_bit i t && not (now_bit i t)) in
    let same : c.self.inside.level ≡ level = ap (λ (p : PairOf). p.level) c.self.view_is in
    let listed : List Node → ℕ → ℕ → List Node = λ so_far word l.
    so_far ++ filter (λ (n : Node). row_bit word n.i) (first_of_row l c.args.k c.args.j across) in
    let new_listed : c.push_nodes.new.list.items
    ≡ listed c.args.change.now.changed.items new_word level =
    c.in_ok-push_nodes.ensures across (λ i past.
    and_bits now (bit_or c.args.near (bit_not w64 was)) i
    ∙ and_left (row_bit now i) (row_bit (bit_or c.args.near (bit_not w64 was)) i)
    (now_past i past))
    ∙ ap (listed c.args.change.now.changed.items new_word) same in
    on_ok_weaker c.push_nodes-2.result
    (λ lost. record {
      changed = new_listed ∙ ap (λ l. c.args.change.now.changed.items ++ l)
          (filtered-same (λ (n : Node). row_bit new_word n.i) (is_new_leaf before after) node
          across new_bit);
      lost = lost ∙ ap (listed c.args.change.now.lost.items lost_word) same
          ∙ ap (λ l. c.args.change.now.lost.items ++ l)
          (filtered-same (λ (n : Node). row_bit lost_word n.i) (is_lost before after) node across
          (λ i i_in. lost_bit i));
    })
    (c.push_nodes-2.ensures across (λ i past.
    and_bits was (bit_not w64 now) i
    ∙ and_left (row_bit was i) (row_bit (bit_not w64 now) i) (was_past i past)))
