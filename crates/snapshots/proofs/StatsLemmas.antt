-- The stats of a table of blocks are counted as slots change, and they fit their numbers of 64 bits. A leaf has few
-- triangles and few keys, and a world few nodes; so what a table has of each is bounded (`sum_few`). Where one slot
-- changes, a sum over the slots loses what the slot had and gains what it has then (`sum-changed`). `IsPut-from` puts
-- these together for the slots of one table, and `IsPut-listed` for two that are listed, as `BlockTable::set`
-- and `clear` have them: the new table, the new stats, and that no step under- or overflows. The
-- rest leads from the slots of a table to the meshes of a history: what is summed over all nodes, of which only
-- leaves have something, is summed over the leaves (`sum_by-leaves`).
use Rattle.std.proofs.Common.{Bor, ◌≡◌, ◌≢◌, ℕ, ◌+◌, ◌-◌, ◌*◌, ◌^◌, ◌<◌, ◌≤◌, Bool, true, false, List, [], ◌∷◌, length, get_or, map, set, All, Some, None, refl, sym, ap, ◌∙◌, subst, arith, inl, inr}
use Rattle.std.specs.Prelude.{MatchOption, Option, filter, if◌then◌else◌, sum_by}
use Rattle.std.proofs.Math.Bridge.{le_prop}
use Rattle.std.proofs.Math.Logic.{∥∥₁_elim}
use Rattle.std.proofs.lemmas.Bool.{cases_Bool}
use Rattle.std.proofs.lemmas.List.{get_or_default, length-map}
use Rattle.std.proofs.lemmas.List.Sums.{get_or-le-sum_by, sum_by-cons, sum_by-le, sum_by-set}
use Rattle.std.proofs.lemmas.Nat.{mul-le}
use Rattle.terrain.specs.declared.cells.TheConstants.{LEAF_TRIANGLES}
use Rattle.lattice.proofs.CountLemmas.{nodes_most}
use Rattle.lattice.proofs.FamilyLemmas.{cases_Node}
use Rattle.lattice.proofs.SlotLemmas.{slot_at_place, slot_in}
use Rattle.lattice.proofs.TestLemmas.{node_test}
use Rattle.cell_laws.specs.Laws.{LeavesHaveFewTriangles}
use Rattle.lattice.specs.declared.node.Node.{Node}
use Rattle.lattice.specs.declared.settings.TheConstants.{MAX_DEPTH}
use Rattle.lattice.specs.Node.{IsNode, slot}
use Rattle.terrain.specs.Blocks.{Mesh, mesh}
use Rattle.block_mesh.specs.declared.mesher.TheConstants.{MAX_KEYS}
use Rattle.block_mesh.specs.Done.{DoneState, IsDone}
use Rattle.block_mesh.specs.Mesh.{index_among}
use Rattle.snapshots.specs.declared.stats.Stats.{Stats}
use Rattle.node_tables.specs.NodeSlots.{NodeSlots, item_at}
use Rattle.snapshots.specs.Blocks.{IsBlockTable, listed}
use Rattle.snapshots.specs.Stats.{stats_of_slot, stats_of_slots, triangle_count, vertex_count}
use Rattle.node_tables.proofs.TableLemmas.{IsNodeTable-set, SetsItem, SetsItem-from, item_at-in}
use Rattle.snapshots.proofs.TableLemmas.{listed-set, listed_item}

-- a block has few triangles
few_triangles : LeavesHaveFewTriangles → (done : DoneState) → IsDone done
    → length done.mesh.triangles ≤ LEAF_TRIANGLES
few_triangles law done is =
    let b = done.brick in
    ∥∥₁_elim is.brick.source le_prop (λ given.
    let m = mesh b.depth given.0 given.1 b.node in
    omega (
      arith,
      ap length (is.of.shows given.0 given.1 given.2).triangles,
      length-map m.triangles (map (λ key. index_among key m.keys)),
      law b.depth given.0 given.1 b.node,
    ))

-- what is counted of a block that is lent is what its slot has
pub counted_is : {A : Type 0} (f : A → DoneState) (r : Option (Bor A)) (held : Option DoneState)
    (stats : Stats) → MatchOption r (held ≡ None) (λ x. held ≡ Some (f x.now))
    → MatchOption r (stats ≡ stats_of_slot None) (λ x. stats ≡ stats_of_slot (Some (f x.now)))
    → stats ≡ stats_of_slot held
counted_is f None held stats at counts = counts ∙ ap stats_of_slot (sym at)
counted_is f (Some x) held stats at counts = counts ∙ ap stats_of_slot (sym at)

-- nothing is counted where nothing is
sum-none : (f : Option DoneState → ℕ) (at : Node → Option DoneState) → f None ≡ 0
    → ((n : Node) → at n ≡ None) → (ns : List Node) → 0 ≡ sum_by f (map at ns)
sum-none f at zero none [] = refl
sum-none f at zero none (n ∷ ns) =
    let here : f (at n) ≡ 0 = ap f (none n) ∙ zero in
    omega (arith, here, sum-none f at zero none ns, sum_by-cons f (at n) (map at ns))

-- the stats of slots that have nothing
pub stats-none : (at : Node → Option DoneState) → ((n : Node) → at n ≡ None) → (ns : List Node)
    → stats_of_slot None ≡ stats_of_slots (map at ns)
stats-none at none ns = λ i. record {
  leaves = sum-none (λ h. (stats_of_slot h).leaves) at refl none ns i;
  triangles = sum-none (λ h. (stats_of_slot h).triangles) at refl none ns i;
  keys = sum-none (λ h. (stats_of_slot h).keys) at refl none ns i;
}

-- a table in which one slot has something else is one of blocks, if that has its brick's mesh
IsBlockTable-set : (old new : NodeSlots DoneState) (node : Node) (is : Option DoneState)
    → IsBlockTable old → SetsItem node is old new
    → ((done : DoneState) → is ≡ Some done → IsDone done) → IsBlockTable new
IsBlockTable-set old new node is table changed own = record {
  table = IsNodeTable-set old new node is table.table changed;
  dones = λ n done at.
      elim (cases_Node n node) [
        | inl same ↦ own done (sym changed.here ∙ ap (item_at new) (sym same) ∙ at)
        | inr differ ↦ table.dones n done (sym (changed.others n differ) ∙ at)
      ];
}

-- no world has more nodes
abbrev MAX_NODES : ℕ
MAX_NODES = (2 ^ MAX_DEPTH) ^ 3 * (MAX_DEPTH + 1)

-- a table's blocks have few of what each has few of
module _ (f : Option DoneState → ℕ) (most : ℕ) (none : f None ≤ most)
    (few : (done : DoneState) → IsDone done → f (Some done) ≤ most) where
  -- what a slot has is bounded, if its block has its brick's mesh
  few_of : (held : Option DoneState) → ((done : DoneState) → held ≡ Some done → IsDone done)
      → f held ≤ most
  few_of None own = none
  few_of (Some done) own = few done (own done refl)

  -- so the sum over all slots is
  sum_few : (blocks : NodeSlots DoneState) → IsBlockTable blocks
      → sum_by f blocks.slots ≤ MAX_NODES * most
  sum_few blocks table =
      let slots = blocks.slots in
      let depth = blocks.depth in
      let all : All (λ held. f held ≤ most) slots = λ k d below.
      (let node = slot_at_place depth k (omega (arith, below, table.table.long)) in
      few_of (get_or slots k d) (λ done is.
      table.dones node.0 done
      (item_at-in blocks node.0 ((node_test depth node.0).1 node.1)
      ∙ ap (λ j. get_or slots j None) node.2 ∙ get_or_default slots k None d below ∙ is))) in
      omega (
        arith,
        sum_by-le f most slots all,
        mul-le (length slots) most MAX_NODES most
            (omega (arith, table.table.long, nodes_most depth table.table.depth)) (omega arith),
      )

-- a sum after one slot was changed
sum-changed : (f : Option DoneState → ℕ) (slots : List (Option DoneState)) (place : ℕ)
    (is : Option DoneState) (total was now : ℕ) → total ≡ sum_by f slots
    → was ≡ f (get_or slots place None) → now ≡ f is → place < length slots
    → (was ≤ total) × (total - was + now ≡ sum_by f (set slots place is))
sum-changed f slots place is total was now sums was_is now_is inside =
    let before = get_or-le-sum_by f slots place None inside in
    let after = sum_by-set f slots place is None inside in (
      omega (arith, sums, was_is, before),
      omega (arith, sums, was_is, now_is, before, after),
    )

-- one slot changed, and the stats with it
pub record IsPut (node : Node) (is : Option DoneState) (old new : NodeSlots DoneState)
    (stats was now : Stats) : Type 0 where
  pub changed : SetsItem node is old new
  pub table : IsBlockTable new
  pub leaves_within : was.leaves ≤ stats.leaves
  pub triangles_within : was.triangles ≤ stats.triangles
  pub keys_within : was.keys ≤ stats.keys
  pub leaves_fit : stats.leaves - was.leaves + now.leaves < 2 ^ 64
  pub triangles_fit : stats.triangles - was.triangles + now.triangles < 2 ^ 64
  pub keys_fit : stats.keys - was.keys + now.keys < 2 ^ 64
  pub counted : ◌≡◌ {A = Stats} (record {
    leaves = stats.leaves - was.leaves + now.leaves;
    triangles = stats.triangles - was.triangles + now.triangles;
    keys = stats.keys - was.keys + now.keys;
  }) (stats_of_slots new.slots)

module _ (law : LeavesHaveFewTriangles) where
  -- a table with something else in one slot, and the stats with it
  pub IsPut-from : (old : NodeSlots DoneState) (node : Node) (is : Option DoneState) (place : ℕ)
      (slots : List (Option DoneState)) (stats was now : Stats) → IsBlockTable old
      → stats ≡ stats_of_slots old.slots → IsNode old.depth node → place ≡ slot old.depth node
      → slots ≡ set old.slots place is → ((done : DoneState) → is ≡ Some done → IsDone done)
      → was ≡ stats_of_slot (get_or old.slots place None) → now ≡ stats_of_slot is
      → IsPut node is old (record { depth = old.depth; slots = slots }) stats was now
  IsPut-from old node is place slots stats was now table sums node_in at set_is own left put =
      let new : NodeSlots DoneState = record { depth = old.depth; slots = slots } in
      let inside : place < length old.slots =
      omega (arith, at, table.table.long, slot_in old.depth node node_in) in
      let changed = SetsItem-from old node is slots table.table.long node_in
      (set_is ∙ ap (λ k. set old.slots k is) at) in
      let kept = IsBlockTable-set old new node is table changed own in
      let leaf_count : Option DoneState → ℕ = λ h. (stats_of_slot h).leaves in
      let triangle_count : Option DoneState → ℕ = λ h. (stats_of_slot h).triangles in
      let key_count : Option DoneState → ℕ = λ h. (stats_of_slot h).keys in
      let leaves = sum-changed leaf_count old.slots place is stats.leaves was.leaves now.leaves
      (ap (λ x. x.leaves) sums) (ap (λ x. x.leaves) left) (ap (λ x. x.leaves) put)
      inside in
      let triangles = sum-changed triangle_count old.slots place is stats.triangles was.triangles
      now.triangles (ap (λ x. x.triangles) sums) (ap (λ x. x.triangles) left)
      (ap (λ x. x.triangles) put) inside in
      let keys = sum-changed key_count old.slots place is stats.keys was.keys now.keys
      (ap (λ x. x.keys) sums) (ap (λ x. x.keys) left) (ap (λ x. x.keys) put) inside in
      let leaves_are = leaves.1 ∙ ap (sum_by leaf_count) (sym set_is) in
      let triangles_are = triangles.1 ∙ ap (sum_by triangle_count) (sym set_is) in
      let keys_are = keys.1 ∙ ap (sum_by key_count) (sym set_is) in
      let few_leaves = sum_few leaf_count 1 (omega arith) (λ done is_done. omega arith)
      new kept in
      let few = sum_few triangle_count LEAF_TRIANGLES (omega arith) (few_triangles law)
      new kept in
      let few_keys = sum_few key_count MAX_KEYS (omega arith)
      (λ done is_done. is_done.mesh.few) new kept in
      record {
        changed = changed;
        table = kept;
        leaves_within = leaves.0;
        triangles_within = triangles.0;
        keys_within = keys.0;
        leaves_fit = omega (arith, leaves_are, few_leaves);
        triangles_fit = omega (arith, triangles_are, few);
        keys_fit = omega (arith, keys_are, few_keys);
        counted = λ i. record {
          leaves = leaves_are i;
          triangles = triangles_are i;
          keys = keys_are i;
        };
      }

  -- the same of two tables, of which one has something else in the slot of a node
  pub IsPut-listed : (old new : NodeSlots DoneState) (node : Node) (is : Option DoneState)
      (stats was now : Stats) → IsBlockTable (listed old)
      → stats ≡ stats_of_slots (listed old).slots → IsNode old.depth node
      → new.depth ≡ old.depth → item_at new node ≡ is
      → ((n : Node) → n ≢ node → item_at new n ≡ item_at old n)
      → ((done : DoneState) → is ≡ Some done → IsDone done)
      → was ≡ stats_of_slot (item_at old node) → now ≡ stats_of_slot is
      → IsPut node is (listed old) (listed new) stats was now
  IsPut-listed old new node is stats was now table sums node_in depth here others own left put =
      let slots = (listed new).slots in
      subst (λ (b : NodeSlots DoneState). IsPut node is (listed old) b stats was now)
      (λ i. record { depth = sym depth i; slots = slots })
      (IsPut-from (listed old) node is (slot old.depth node) slots stats was now table sums
      node_in refl (listed-set old new node is depth node_in here others) own
      (left ∙ ap stats_of_slot (sym (listed_item old node)
      ∙ item_at-in (listed old) node ((node_test old.depth node).1 node_in))) put)

-- what a table has of the leaves among some nodes
pub sum_by-leaves : (f : Option DoneState → ℕ) (g : Mesh → ℕ) (at : Node → Option DoneState)
    (mesh_at : Node → Mesh) (test : Node → Bool)
    → ((n : Node) → test n ≡ true → f (at n) ≡ g (mesh_at n))
    → ((n : Node) → test n ≡ false → f (at n) ≡ 0) → (ns : List Node)
    → sum_by f (map at ns) ≡ sum_by g (map mesh_at (filter test ns))
sum_by-leaves f g at mesh_at test on off [] = refl
sum_by-leaves f g at mesh_at test on off (n ∷ ns) =
    let rest = filter test ns in
    let sum : List Node → ℕ = λ xs. sum_by g (map mesh_at xs) in
    let so_far = sum_by-leaves f g at mesh_at test on off ns in
    let one : Bool → List Node = λ b. if b then n ∷ rest else rest in
    sum_by-cons f (at n) (map at ns)
    ∙ (elim (cases_Bool (test n)) [
      | inl leaf ↦
          (λ i. on n leaf i + so_far i) ∙ sym (sum_by-cons g (mesh_at n) (map mesh_at rest))
          ∙ sym (ap (λ b. sum (one b)) leaf)
      | inr other ↦
          (λ i. off n other i + so_far i) ∙ zero_plus (sum rest) ∙ sym (ap (λ b. sum (one b)) other)
    ])
  where
    -- nothing is added for a node that isn't a leaf
    zero_plus : (n : ℕ) → 0 + n ≡ n
    zero_plus n = omega arith

-- each one counts once
pub sum_by-ones : {A : Type 0} (xs : List A) → sum_by (λ _. 1) xs ≡ length xs
sum_by-ones [] = refl
sum_by-ones (x ∷ xs) = omega (arith, sum_by-cons (λ _. 1) x xs, sum_by-ones xs)

-- how many triangles meshes have
pub triangle_count-sum : (meshes : List Mesh)
    → sum_by (λ m. length m.triangles) meshes ≡ triangle_count meshes
triangle_count-sum [] = refl
triangle_count-sum (m ∷ ms) =
    sum_by-cons (λ m. length m.triangles) m ms
    ∙ ap (λ n. length m.triangles + n) (triangle_count-sum ms)

-- how many vertices meshes have
pub vertex_count-sum : (meshes : List Mesh)
    → sum_by (λ m. length m.keys) meshes ≡ vertex_count meshes
vertex_count-sum [] = refl
vertex_count-sum (m ∷ ms) =
    sum_by-cons (λ m. length m.keys) m ms ∙ ap (λ n. length m.keys + n) (vertex_count-sum ms)
