-- What nodes have after blocks were put and others were cleared. A block that is put last is what its node has
-- (`put_last-push`), so a turn of the loop does one step of `put_last` (`put_step`), and likewise of `without`
-- (`clear_step`).
use Rattle.std.proofs.Common.{◌≡◌, ◌≢◌, ◌⊎◌, true, false, cond, List, [], ◌∷◌, ◌++◌, Some, None, refl, sym, ap, ◌∙◌, inl, inr}
use Rattle.std.specs.Prelude.{if◌then◌else◌, Option}
use Rattle.std.proofs.lemmas.Bool.{cases_Bool, false≢true}
use Rattle.std.proofs.Math.Bool.{or-false, or-true}
use Rattle.level_laws.proofs.AmongLemmas.{is_among-push, is_same_node-same, same_node}
use Rattle.lattice.specs.declared.node.Node.{Node}
use Rattle.lattice.specs.Node.{is_among, is_same_node}
use Rattle.node_tables.specs.NodeSlots.{NodeSlots, item_at}
use Rattle.terrain.specs.MeshLists.{MeshLists}
use Rattle.replicas.specs.Following.{put_last, without}
use Rattle.replicas.specs.Grammar.{WireBlock}

-- one block more at the end
pub put_last-push : (blocks : List WireBlock) (b : WireBlock) (n : Node) (held : Option MeshLists)
    → put_last (blocks ++ b ∷ []) n held
    ≡ (if is_same_node b.node n then Some b.mesh else put_last blocks n held)
put_last-push [] b n held = refl
put_last-push (e ∷ es) b n held = put_last-push es b n _

-- one node more at the end
without-push : (nodes : List Node) (m n : Node) (held : Option MeshLists)
    → without (nodes ++ m ∷ []) n held ≡ (if is_same_node m n then None else without nodes n held)
without-push nodes m n held =
    ap (λ b. cond b None held) (is_among-push nodes m n)
    ∙ (elim (cases_Bool (is_same_node m n)) [
      | inl on ↦ rw on (ap (λ b. cond b None held) (or-true (is_among nodes n)))
      | inr off ↦ rw off (ap (λ b. cond b None held) (or-false (is_among nodes n)))
    ])

-- a slot is that of a node, or it isn't
same_or_not : (m n : Node)
    → ((m ≡ n) × (is_same_node m n ≡ true)) ⊎ ((n ≡ m → ⊥) × (is_same_node m n ≡ false))
same_or_not m n =
    elim (cases_Bool (is_same_node m n)) [
      | inl on ↦ inl (same_node m n on, on)
      | inr off ↦ inr (λ e. false≢true (sym off ∙ is_same_node-same m n (sym e)), off)
    ]

-- slots after one block more
pub put_step : (old mid new : NodeSlots MeshLists) (blocks : List WireBlock) (b : WireBlock)
    → ((n : Node) → item_at mid n ≡ put_last blocks n (item_at old n))
    → item_at new b.node ≡ Some b.mesh → ((n : Node) → n ≢ b.node → item_at new n ≡ item_at mid n)
    → (n : Node) → item_at new n ≡ put_last (blocks ++ b ∷ []) n (item_at old n)
put_step old mid new blocks b so_far here others n =
    elim (same_or_not b.node n) [
      | inl at ↦
          ap (item_at new) (sym at.0) ∙ here
          ∙ ap (λ t. cond t (Some b.mesh) (put_last blocks n (item_at old n))) (sym at.1)
          ∙ sym (put_last-push blocks b n (item_at old n))
      | inr off ↦
          others n off.0 ∙ so_far n
          ∙ ap (λ t. cond t (Some b.mesh) (put_last blocks n (item_at old n))) (sym off.1)
          ∙ sym (put_last-push blocks b n (item_at old n))
    ]

-- slots after one node more
pub clear_step : (old mid new : NodeSlots MeshLists) (nodes : List Node) (node : Node)
    → ((n : Node) → item_at mid n ≡ without nodes n (item_at old n))
    → item_at new node ≡ None → ((n : Node) → n ≢ node → item_at new n ≡ item_at mid n)
    → (n : Node) → item_at new n ≡ without (nodes ++ node ∷ []) n (item_at old n)
clear_step old mid new nodes node so_far here others n =
    elim (same_or_not node n) [
      | inl at ↦
          ap (item_at new) (sym at.0) ∙ here
          ∙ ap (λ b. cond b None (without nodes n (item_at old n))) (sym at.1)
          ∙ sym (without-push nodes node n (item_at old n))
      | inr off ↦
          others n off.0 ∙ so_far n
          ∙ ap (λ b. cond b None (without nodes n (item_at old n))) (sym off.1)
          ∙ sym (without-push nodes node n (item_at old n))
    ]
