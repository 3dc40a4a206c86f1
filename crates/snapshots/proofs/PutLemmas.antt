-- What slots have after blocks were put into some and others were cleared, for the loops of `BlockTable::put_all`,
-- `clear_all` and `try_clone` and for frames. A block that is put last is what its node's slot has (`put_over-push`),
-- so a turn of the loop does one step of `put_over` (`put_step`), and likewise of `cleared` (`clear_step`) and of
-- `kept_among` (`keep_step`). For a list
-- of blocks that have the bricks of a list of nodes: the slot of one of the nodes has a block with its brick
-- (`put_over-in`), another slot keeps what it had (`put_over-elsewhere`).
use Rattle.std.proofs.Common.{◌≡◌, ◌≢◌, ◌⊎◌, Bool, true, false, cond, List, [], ◌∷◌, ◌++◌, map, All, Some, None, refl, sym, ap, ◌∙◌, subst, inl, inr}
use Rattle.std.specs.Prelude.{◌||◌, if◌then◌else◌, Option}
use Rattle.std.proofs.lemmas.Bool.{cases_Bool, false≢true, or_cases, or_parts}
use Rattle.std.proofs.lemmas.List.Elements.{All-cons, All-head, All-nil, All-tail}
use Rattle.std.proofs.Math.Bool.{or_assoc, or-false, or-true}
use Rattle.level_laws.proofs.AmongLemmas.{is_among-push, is_same_node-same, same_node}
use Rattle.lattice.specs.declared.node.Node.{Node}
use Rattle.terrain.specs.Blocks.{Brick}
use Rattle.lattice.specs.Node.{is_same_node, is_among}
use Rattle.node_tables.specs.NodeSlots.{NodeSlots, item_at}
use Rattle.snapshots.specs.Blocks.{block_node, cleared, put_over}
use Rattle.block_mesh.specs.Done.{DoneState}

-- ---- put

-- a node of none of the blocks keeps what its slot had
pub put_over-out : (dones : List DoneState) (n : Node) (held : Option DoneState)
    → is_among (map block_node dones) n ≡ false → put_over dones n held ≡ held
put_over-out [] n held off = refl
put_over-out (d ∷ ds) n held off =
    let parts = or_parts (is_same_node d.brick.node n) (is_among (map block_node ds) n) off in
    ap (λ b. put_over ds n (cond b (Some d) held)) parts.0
    ∙ put_over-out ds n held parts.1

-- one block more at the end
pub put_over-push : (dones : List DoneState) (d : DoneState) (n : Node) (held : Option DoneState)
    → put_over (dones ++ d ∷ []) n held
    ≡ (if is_same_node d.brick.node n then Some d else put_over dones n held)
put_over-push [] d n held = refl
put_over-push (e ∷ es) d n held = put_over-push es d n _

module _ (B : Node → Brick) (B-node : (m : Node) → (B m).node ≡ m) where
  -- the blocks' nodes are these nodes
  pub same_nodes : (dones : List DoneState) (nodes : List Node)
      → map (λ d. d.brick) dones ≡ map B nodes → map block_node dones ≡ nodes
  same_nodes [] [] same = refl
  same_nodes [] (m ∷ ms) same = absurd (cc)
  same_nodes (d ∷ ds) [] same = absurd (cc)
  same_nodes (d ∷ ds) (m ∷ ms) same =
      let first : d.brick ≡ B m = cc in
      let rest : map (λ e. e.brick) ds ≡ map B ms = cc in
      λ i. (ap (λ b. b.node) first ∙ B-node m) i ∷ same_nodes ds ms rest i

  -- the slot of one of the nodes has a block with the node's brick
  pub put_over-in : (dones : List DoneState) (nodes : List Node) (n : Node)
      (held : Option DoneState)
      → map (λ d. d.brick) dones ≡ map B nodes → is_among nodes n ≡ true
      → (d : DoneState) × (d.brick ≡ B n) × (put_over dones n held ≡ Some d)
  put_over-in dones [] n held bricks on = absurd (cc)
  put_over-in [] (m ∷ ms) n held bricks on = absurd (cc)
  put_over-in (d ∷ ds) (m ∷ ms) n held bricks on =
      let first : d.brick ≡ B m = cc in
      let rest : map (λ e. e.brick) ds ≡ map B ms = cc in
      let here : d.brick.node ≡ m = ap (λ b. b.node) first ∙ B-node m in
      elim (cases_Bool (is_among ms n)) [
        | inl later ↦ put_over-in ds ms n _ rest later
        | inr off ↦
            (let at : is_same_node m n ≡ true =
            elim (or_cases (is_same_node m n) (is_among ms n) on) [
              | inl e ↦ e
              | inr e ↦ absurd (cc)
            ] in
            let at_d : is_same_node d.brick.node n ≡ true =
            ap (λ x. is_same_node x n) here ∙ at in
            let none : is_among (map block_node ds) n ≡ false =
            ap (λ xs. is_among xs n) (same_nodes ds ms rest) ∙ off in (
              d,
              first ∙ ap B (same_node m n at),
              ap (λ b. put_over ds n (cond b (Some d) held)) at_d
                  ∙ put_over-out ds n (Some d) none,
            ))
      ]

  -- the slot of another node keeps what it had
  pub put_over-elsewhere : (dones : List DoneState) (nodes : List Node) (n : Node)
      (held : Option DoneState) → map (λ d. d.brick) dones ≡ map B nodes
      → is_among nodes n ≡ false → put_over dones n held ≡ held
  put_over-elsewhere dones nodes n held bricks off =
      put_over-out dones n held (ap (λ xs. is_among xs n) (same_nodes dones nodes bricks) ∙ off)

  -- what holds of the nodes holds of the blocks' nodes
  pub All-nodes : (P : Node → Type 0) (dones : List DoneState) (nodes : List Node)
      → map (λ d. d.brick) dones ≡ map B nodes → All P nodes → All (λ d. P (block_node d)) dones
  All-nodes P [] nodes bricks all = All-nil (λ d. P (block_node d))
  All-nodes P (d ∷ ds) [] bricks all = absurd (cc)
  All-nodes P (d ∷ ds) (m ∷ ms) bricks all =
      let first : d.brick ≡ B m = cc in
      let rest : map (λ e. e.brick) ds ≡ map B ms = cc in
      All-cons (λ e. P (block_node e)) d ds
      (subst P (sym (ap (λ b. b.node) first ∙ B-node m)) (All-head P m ms all))
      (All-nodes P ds ms rest (All-tail P m ms all))

-- ---- cleared

-- a slot that is cleared has nothing
pub cleared-in : (nodes : List Node) (n : Node) (held : Option DoneState)
    → is_among nodes n ≡ true → cleared nodes n held ≡ None
cleared-in nodes n held on = ap (λ b. cond b None held) on

-- another slot keeps what it had
pub cleared-out : (nodes : List Node) (n : Node) (held : Option DoneState)
    → is_among nodes n ≡ false → cleared nodes n held ≡ held
cleared-out nodes n held off = ap (λ b. cond b None held) off

-- whether a node is in one of two lists
is_among-append : (xs ys : List Node) (n : Node)
    → is_among (xs ++ ys) n ≡ (is_among xs n || is_among ys n)
is_among-append [] ys n = refl
is_among-append (x ∷ xs) ys n =
    ap (λ b. is_same_node x n || b) (is_among-append xs ys n)
    ∙ sym (or_assoc (is_same_node x n) (is_among xs n) (is_among ys n))

-- the nodes of two lists
pub cleared-append : (xs ys : List Node) (n : Node) (held : Option DoneState)
    → cleared (xs ++ ys) n held ≡ cleared ys n (cleared xs n held)
cleared-append xs ys n held =
    ap (λ b. cond b None held) (is_among-append xs ys n) ∙ both (is_among xs n) (is_among ys n)
  where
    -- in one of the two or in both
    both : (a b : Bool) → cond (a || b) None held ≡ cond b None (cond a None held)
    both true true = refl
    both true false = refl
    both false true = refl
    both false false = refl

-- one node more at the end
pub cleared-push : (nodes : List Node) (m n : Node) (held : Option DoneState)
    → cleared (nodes ++ m ∷ []) n held
    ≡ (if is_same_node m n then None else cleared nodes n held)
cleared-push nodes m n held =
    ap (λ b. cond b None held) (is_among-push nodes m n)
    ∙ (elim (cases_Bool (is_same_node m n)) [
      | inl on ↦ rw on (ap (λ b. cond b None held) (or-true (is_among nodes n)))
      | inr off ↦ rw off (ap (λ b. cond b None held) (or-false (is_among nodes n)))
    ])

-- ---- kept

-- what the slot of a node has in a table that has the blocks of some nodes alone
abbrev pub kept_among : List Node → Node → Option DoneState → Option DoneState
kept_among nodes n held = if is_among nodes n then held else None

-- nothing is kept of nothing
pub kept_among-none : (nodes : List Node) (n : Node) → kept_among nodes n None ≡ None
kept_among-none nodes n =
    elim (cases_Bool (is_among nodes n)) [
      | inl on ↦ rw on refl
      | inr off ↦ rw off refl
    ]

-- all is kept where no other node has anything
pub kept_among-all : (nodes : List Node) (n : Node) (held : Option DoneState)
    → (is_among nodes n ≡ false → held ≡ None) → kept_among nodes n held ≡ held
kept_among-all nodes n held others =
    elim (cases_Bool (is_among nodes n)) [
      | inl on ↦ ap (λ b. cond b held None) on
      | inr off ↦ ap (λ b. cond b held None) off ∙ sym (others off)
    ]

-- one node more at the end
kept_among-push : (nodes : List Node) (m n : Node) (held : Option DoneState)
    → kept_among (nodes ++ m ∷ []) n held
    ≡ (if is_same_node m n then held else kept_among nodes n held)
kept_among-push nodes m n held =
    ap (λ b. cond b held None) (is_among-push nodes m n)
    ∙ (elim (cases_Bool (is_same_node m n)) [
      | inl on ↦ rw on (ap (λ b. cond b held None) (or-true (is_among nodes n)))
      | inr off ↦ rw off (ap (λ b. cond b held None) (or-false (is_among nodes n)))
    ])

-- ---- one slot more

-- a slot is that of a node, or it isn't
same_or_not : (m n : Node)
    → ((m ≡ n) × (is_same_node m n ≡ true)) ⊎ ((n ≡ m → ⊥) × (is_same_node m n ≡ false))
same_or_not m n =
    elim (cases_Bool (is_same_node m n)) [
      | inl on ↦ inl (same_node m n on, on)
      | inr off ↦ inr (λ e. false≢true (sym off ∙ is_same_node-same m n (sym e)), off)
    ]

-- slots after one block more
pub put_step : (old mid new : NodeSlots DoneState) (dones : List DoneState) (d : DoneState)
    (node : Node) → node ≡ d.brick.node
    → ((n : Node) → item_at mid n ≡ put_over dones n (item_at old n))
    → item_at new node ≡ Some d → ((n : Node) → n ≢ node → item_at new n ≡ item_at mid n)
    → (n : Node) → item_at new n ≡ put_over (dones ++ d ∷ []) n (item_at old n)
put_step old mid new dones d node is so_far here others n =
    elim (same_or_not node n) [
      | inl at ↦
          ap (item_at new) (sym at.0) ∙ here
          ∙ ap (λ b. cond b (Some d) (put_over dones n (item_at old n)))
          (sym at.1 ∙ ap (λ m. is_same_node m n) is)
          ∙ sym (put_over-push dones d n (item_at old n))
      | inr off ↦
          others n off.0 ∙ so_far n
          ∙ ap (λ b. cond b (Some d) (put_over dones n (item_at old n)))
          (sym off.1 ∙ ap (λ m. is_same_node m n) is)
          ∙ sym (put_over-push dones d n (item_at old n))
    ]

-- slots after one node more
pub clear_step : (old mid new : NodeSlots DoneState) (nodes : List Node)
    (node : Node) → ((n : Node) → item_at mid n ≡ cleared nodes n (item_at old n))
    → item_at new node ≡ None → ((n : Node) → n ≢ node → item_at new n ≡ item_at mid n)
    → (n : Node) → item_at new n ≡ cleared (nodes ++ node ∷ []) n (item_at old n)
clear_step old mid new nodes node so_far here others n =
    elim (same_or_not node n) [
      | inl at ↦
          ap (item_at new) (sym at.0) ∙ here
          ∙ ap (λ b. cond b None (cleared nodes n (item_at old n))) (sym at.1)
          ∙ sym (cleared-push nodes node n (item_at old n))
      | inr off ↦
          others n off.0 ∙ so_far n
          ∙ ap (λ b. cond b None (cleared nodes n (item_at old n))) (sym off.1)
          ∙ sym (cleared-push nodes node n (item_at old n))
    ]

-- slots that are kept, after one node more
pub keep_step : (old mid new : NodeSlots DoneState) (nodes : List Node) (node : Node)
    → ((n : Node) → item_at mid n ≡ kept_among nodes n (item_at old n))
    → item_at new node ≡ item_at old node
    → ((n : Node) → n ≢ node → item_at new n ≡ item_at mid n)
    → (n : Node) → item_at new n ≡ kept_among (nodes ++ node ∷ []) n (item_at old n)
keep_step old mid new nodes node so_far here others n =
    let was = item_at old n in
    elim (same_or_not node n) [
      | inl at ↦
          ap (item_at new) (sym at.0) ∙ here ∙ ap (item_at old) at.0
          ∙ ap (λ b. cond b was (kept_among nodes n was)) (sym at.1)
          ∙ sym (kept_among-push nodes node n was)
      | inr off ↦
          others n off.0 ∙ so_far n
          ∙ ap (λ b. cond b was (kept_among nodes n was)) (sym off.1)
          ∙ sym (kept_among-push nodes node n was)
    ]

-- and after one that has nothing
pub keep_nothing : (old mid : NodeSlots DoneState) (nodes : List Node) (node : Node)
    → ((n : Node) → item_at mid n ≡ kept_among nodes n (item_at old n))
    → item_at old node ≡ None
    → (n : Node) → item_at mid n ≡ kept_among (nodes ++ node ∷ []) n (item_at old n)
keep_nothing old mid nodes node so_far none =
    keep_step old mid mid nodes node so_far
    (so_far node ∙ ap (kept_among nodes node) none ∙ kept_among-none nodes node ∙ sym none)
    (λ n differ. refl)
