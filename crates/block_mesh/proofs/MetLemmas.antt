-- Indices of keys that are kept while a transition cell is added.
--
-- For `met_index` of the builder. A number above 0 is the entry of its edge's key, so the key is known and is where
-- the number says (`Adds-met`). Keys are put behind the others, so an entry above 0 stays (`entry-stays`), and each
-- number stays right where one more edge is noted (`HasMet-next`). The index of a key is below the count of edges
-- (`place-below_count`), so one more than it fits its type. At first no edge is noted (`HasMet-none`).
use Rattle.std.proofs.Common.{◌≡◌, ℕ, ◌+◌, ◌-◌, ◌<◌, Bool, true, false, cond, List, get_or, length, replicate, set, get_or-set_other, get_or-set_same, refl, sym, ap, ◌∙◌, subst, arith, inl, inr}
use Rattle.std.specs.List.{list_any}
use Rattle.std.proofs.lemmas.Bool.{cases_eq}
use Rattle.std.proofs.lemmas.List.{length-map}
use Rattle.lattice.specs.declared.key.Key.{Key}
use Rattle.lattice.specs.Key.{is_same_key}
use Rattle.terrain.specs.Blocks.{Brick, with_key}
use Rattle.block_mesh.specs.MeshEdges.{mesh_key}
use Rattle.block_mesh.specs.Builder.{Adds, Builds, HasMet, keys_in}
use Rattle.block_mesh.specs.KeyTable.{entry}
use Rattle.block_mesh.specs.LeafCells.{square_key}
use Rattle.block_mesh.specs.Mesh.{index_among}
use Rattle.block_mesh.specs.declared.builder.Builder.{Builder}
use Rattle.block_mesh.specs.declared.builder.Square.{Square}
use Rattle.block_mesh.proofs.FirstUse.{place-known}
use Rattle.block_mesh.proofs.KeyLemmas.{IsKnown, IsKnown-begins, IsKnown-with_key, place-begins, with_key-begins}
use Rattle.block_mesh.proofs.KeyTableLemmas.{entry-known, zeros-at}

-- ---- entries

-- a key whose entry is above 0 is known
known-from : (key : Key) (keys : List Key) → 0 < entry key keys → IsKnown keys key
known-from key keys some = go (list_any (λ k. is_same_key k key) keys) refl some
  where
    go : (b : Bool) → list_any (λ k. is_same_key k key) keys ≡ b
        → 0 < cond b (index_among key keys + 1) 0 → IsKnown keys key
    go true here above = here
    go false here above = absurd (omega (arith, above))

-- the entry of a known key is one more than its index
entry-at : (key : Key) (keys : List Key) → IsKnown keys key
    → entry key keys ≡ index_among key keys + 1
entry-at key keys known = ap (λ b. cond b (index_among key keys + 1) 0) known

-- an entry above 0 stays where a key is put in
entry-stays : (key other : Key) (keys : List Key) → 0 < entry key keys
    → entry key keys ≡ entry key (with_key keys other)
entry-stays key other keys some =
    let known = known-from key keys some in
    let begins = with_key-begins keys other in
    let later = IsKnown-begins (with_key keys other) keys key begins known in
    entry-at key keys known
    ∙ ap (λ n. n + 1) (sym (place-begins (with_key keys other) keys key begins known))
    ∙ sym (entry-at key (with_key keys other) later)

-- ---- numbers of edges

-- the key of an edge of the transition cell on a square
abbrev key_on : Brick → Square → ℕ → Key
key_on b square = square_key b.node square.face square.v square.u

-- a number above 0 tells where the key of its edge is, and the builder stays as it is
pub Adds-met : (b : Brick) (square : Square) (met : List ℕ) (builder : Builder) (edge : ℕ)
    → HasMet b square met builder → Builds b builder → 0 < get_or met edge 0
    → Adds b (key_on b square edge) builder builder (get_or met edge 0 - 1)
Adds-met b square met builder edge has builds some =
    let there = entry-known (key_on b square edge) (keys_in b builder) (get_or met edge 0)
    (has.each edge some) some in
    record {
      keys = there.keys_stay;
      at_is = there.at_is;
      triangles = refl;
      builds = builds;
    }

-- the index of a key that was asked for is the entry before one
entry-added : (b : Brick) (key : Key) (old new : Builder) (at : ℕ) → Adds b key old new at
    → at + 1 ≡ entry key (keys_in b new)
entry-added b key old new at adds =
    let known : IsKnown (keys_in b new) key =
    subst (λ keys. IsKnown keys key) (sym adds.keys) (IsKnown-with_key (keys_in b old) key) in
    ap (λ n. n + 1) adds.at_is ∙ sym (entry-at key (keys_in b new) known)

-- and there are more edges than that
pub place-below_count : (b : Brick) (key : Key) (old new : Builder) (at : ℕ)
    → Adds b key old new at → at < length new.edges
place-below_count b key old new at adds =
    let known : IsKnown (keys_in b new) key =
    subst (λ keys. IsKnown keys key) (sym adds.keys) (IsKnown-with_key (keys_in b old) key) in
    omega (
      arith,
      adds.at_is,
      place-known (keys_in b new) key known,
      length-map new.edges (mesh_key b),
    )

-- after a key was asked for, one more than its index is noted
pub HasMet-next : (b : Brick) (square : Square) (met : List ℕ) (edge : ℕ) (old new : Builder)
    (at : ℕ) → edge < length met → HasMet b square met old
    → Adds b (key_on b square edge) old new at → HasMet b square (set met edge (at + 1)) new
HasMet-next b square met edge old new at within has adds = record {
  each = λ e some. elim (cases_eq e edge) [
    | inl same ↦
        ap (λ k. get_or (set met edge (at + 1)) k 0) same
        ∙ get_or-set_same met edge (at + 1) 0 within
        ∙ entry-added b (key_on b square edge) old new at adds
        ∙ ap (λ k. entry (key_on b square k) (keys_in b new)) (sym same)
    | inr other ↦
        let kept = get_or-set_other met edge e (at + 1) 0 other in
        let above : 0 < get_or met e 0 = subst (λ n. 0 < n) kept some in
        let is = has.each e above in
        kept ∙ is
        ∙ entry-stays (key_on b square e) (key_on b square edge) (keys_in b old)
        (subst (λ n. 0 < n) is above)
        ∙ ap (entry (key_on b square e)) (sym adds.keys)
  ];
}

-- at first none is noted
pub HasMet-none : (b : Brick) (square : Square) (builder : Builder) (n : ℕ)
    → HasMet b square (replicate n 0) builder
HasMet-none b square builder n = record {
  each = λ edge some. absurd (omega (arith, some, zeros-at n edge));
}
