-- A box and its parts, at the parameters of `Apart`: what both own is one formula, and both have one machine value.
use Rattle.std.proofs.Common.{◌≡◌, ℕ, List, [], ◌∷◌, ◌++◌, refl, ap, ◌∙◌}
use seplogic.Ra.Ura.{Ura}
use mir.Raw.{raw as bare}
use mir.Val.{Val, vstruct, of_list}
use base.Logic.{never, fst∗}
use types.Logic.{Logic, sem}
use types.Kit.{Item, Goal, Seq, ‵, ◌$◌, drop, move, fsplit, fpick, feq_l, rewrite}
use denote.RattleType.{RattleType}
use denote.RawPtr.{Ptr, RawPtr, block_ptr, null_ptr, ptr_val, in_a_block}
use denote.Steps.{only}
use denote.Struct.Tuple.{Tuple}
use Rattle.core.proofs.alloc.Calls.{Fits, handle_tells, token}
use Rattle.std_alloc.specs.Box.Ownership.{box_owns}
use Rattle.std_alloc.proofs.BoxSteps.Form.{Bx, X, D, P, R, B, handle, word, τ}
use Rattle.std_alloc.proofs.BoxSteps.Steps.{box_in}
use Rattle.terra_c.specs.contracts.apart.Apart as apart

module _ (E : Bx) where
  abbrev pub Parts : RattleType
  Parts = apart.the_row (R E) (P E) E.al.g

  abbrev pub Pair : RattleType
  Pair = Tuple (RawPtr ∷ P E ∷ [])

  -- a box of these parts
  abbrev pub box_of : ℕ → ℕ → E.al.row.Denot → X E → D E
  box_of b o a x = record { ptr = block_ptr b o; alloc = a; value = x }

module _ (E : Bx) {M : Type 1} {𝓤 : Ura M} {𝓛 : Logic 𝓤} {K : Type 0} {Γ : List (Item 𝓤)} {G : Goal
    𝓤 𝓛.H} where
  -- a pair of a pointer and an allocator, with what a box owns there, owns what the box does
  pub pair_out : K → (r : (Pair E).Denot) (a : E.al.row.Denot) (x : X E) (u : Val) → r.1 ≡ a
      → ((b o : ℕ) (h : Val) → u ≡ word E h b o → Fits E.al h → Seq K 𝓛 (‵ ((B E).own_val (box_of E
      b o a x) (word E h b o ∷ [])) ∷ Γ) G)
      → Seq K 𝓛 (‵ (box_owns (token E.al a) (R E) r.0 x) ∷ ‵ ((Pair E).own_val r (u ∷ [])) ∷ Γ) G
  pair_out k r a x u same next =
      in_a_block k r.0 (λ p. box_owns (token E.al a) (R E) p x) (fst∗ 𝓤 (never 𝓤) (sem 𝓛 (token
      E.al a (bare (τ E)) null_ptr))) (λ b o at.
      move k (1 ∷ []) $ fpick k (λ vss. fsplit k $ feq_l k (λ whole. fsplit k $
      feq_l k (λ first. fsplit k $
      rewrite k 0 (λ (s : E.al.row.Denot). ‵ (E.al.row.own_val s vss.1.0)) same refl $
      handle_tells E.al k a vss.1.0 (λ h second fits.
      move k (1 ∷ []) $ drop k $ move k (1 ∷ []) $ fsplit k $
      box_in E k (box_of E b o a x) b o x refl refl $
      next b o h (ap only (whole ∙ (λ i. vstruct (of_list ((first ∙ ap (λ (p : Ptr). ptr_val p ∷
      []) at) i ++ (second i ++ []))) ∷ []))) fits)))))
