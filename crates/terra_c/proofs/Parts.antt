-- What the parts of a box own, at any rows: their machine value, the right to the box, and the allocator. A handle's
-- proofs take parts apart and put them together here. The proofs of a box at its type parameters are in `Boxes`, since
-- std's own steps are about those.
use Rattle.std.proofs.Common.{◌≡◌, ℕ, List, [], ◌∷◌, ◌++◌, refl, subst}
use mathlib.Core.Bool.{Bool, true, ◌&&◌}
use lib.Dec.{T}
use seplogic.Ra.Ura.{Ura}
use mir.Syntax.{impl, tnil, dnil}
use mir.Raw.{raw as bare}
use mir.Val.{Val, vptr, vstruct, vcons, vnil, of_list, has_ty, WT}
use base.Logic.{never, fst∗}
use types.Logic.{Logic, sem}
use types.Kit.{Item, Goal, Seq, Step, step, ‵, ◌$◌, move, drop, fsplit, fjoin, fpick, fpack, feq_i, feq_l}
use denote.RattleType.{RattleType, Valss}
use denote.Builtin.{RawPtr}
use denote.Memory.{lone}
use denote.RawPtr.{Ptr, block_ptr, null_ptr, ptr_val, in_a_block}
use denote.Steps.{nothing}
use denote.Param.{layout}
use denote.Param.Laws.{Laws}
use denote.Struct.Struct.{within}
use denote.Struct.Owning.{shape}
use Rattle.core.specs.declared.alloc.Allocator.{Ghosts}
use Rattle.core.proofs.alloc.Calls.{Al, handle_tells}
use Rattle.core.proofs.cell.Inside.{Good}
use Rattle.std_alloc.specs.Box.Ownership.{box_owns}
use Rattle.std_alloc.proofs.ResultValues.{and_tt}
use Rattle.terra_c.specs.contracts.apart.Apart as apart

-- the machine value of a pointer to a block, and an allocator
abbrev pub pair : ℕ → ℕ → Val → Val
pair b o h = vstruct (vcons (vptr b o) (vcons h vnil))

module _ (R Z : RattleType) (laws : Laws Z) (g : Ghosts Z.Denot) where
  abbrev pub Parts : RattleType
  Parts = apart.the_row R Z g

  -- the allocator
  abbrev al : Al
  al = record { row = Z; laws = laws; g = g; d = impl [] tnil dnil; drops = impl [] tnil dnil }

  -- parts with these fields
  abbrev pub parts_of : ℕ → ℕ → Z.Denot → R.Denot → Parts.Denot
  parts_of b o a x = record { at = block_ptr b o; alloc = a; value = x }

  -- the machine value has the type of a pair
  pub pair_typed : (b o : ℕ) (h : Val) → Good (layout Z) h → T (has_ty (layout Z) h && true) × WT
      (pair b o h)
  pair_typed b o h fits = (and_tt (has_ty (layout Z) h) fits.0, (tt, (fits.1, tt)))

  module _ {M : Type 1} {𝓤 : Ura M} {𝓛 : Logic 𝓤} {K : Type 0} {Γ : List (Item 𝓤)} {G : Goal 𝓤 𝓛.H}
    where
      -- parts are taken apart
      pub parts_out : K → (d : Parts.Denot) (vs : List Val)
          → ((b o : ℕ) (h : Val) → d.at ≡ block_ptr b o → vs ≡ pair b o h ∷ [] → Good (layout Z) h
          → Seq K 𝓛 (‵ (box_owns (g.dealloc_token d.alloc) R (block_ptr b o) d.value) ∷ ‵ (Z.own_val
          d.alloc (h ∷ [])) ∷ Γ) G)
          → Seq K 𝓛 (‵ (Parts.own_val d vs) ∷ Γ) G
      parts_out k d vs next =
          fsplit k $ fpick k (λ vss. fsplit k $ feq_l k (λ whole. fsplit k $
          feq_l k (λ first. fsplit k $
          handle_tells al k d.alloc vss.1.0 (λ h second fits. move k (1 ∷ []) $ drop k $
          move k (1 ∷ []) $
          in_a_block k d.at (λ p. box_owns (g.dealloc_token d.alloc) R p d.value) (fst∗ 𝓤 (never 𝓤)
          (sem 𝓛 (g.dealloc_token d.alloc (bare (lone R.mir)) null_ptr))) (λ b o at.
          next b o h at
          (subst (λ (p : Ptr). vs ≡ vstruct (of_list (ptr_val p ∷ h ∷ [])) ∷ []) at
          (subst (λ (us : List Val). vs ≡ vstruct (of_list (ptr_val d.at ∷ (us ++ []))) ∷ []) second
          (subst (λ (us : List Val). vs ≡ vstruct (of_list (us ++ (vss.1.0 ++ []))) ∷ []) first
          whole))) fits)))))

      -- and put together
      pub parts_in : K → (b o : ℕ) (h : Val) (a : Z.Denot) (x : R.Denot)
          → Step K 𝓛 (‵ (Parts.own_val (parts_of b o a x) (pair b o h ∷ [])) ∷ Γ) G
          (‵ (box_owns (g.dealloc_token a) R (block_ptr b o) x) ∷ ‵ (Z.own_val a (h ∷ [])) ∷ Γ) G
      parts_in k b o h a x = step (λ s.
          nothing k $ move k (2 ∷ 0 ∷ []) $ fjoin k $
          feq_i k (List Val) (vptr b o ∷ []) (vptr b o ∷ []) refl $ fjoin k $
          feq_i k (List Val) (pair b o h ∷ []) (pair b o h ∷ []) refl $ fjoin k $
          fpack k (Valss (RawPtr ∷ Z ∷ [])) (within (shape (apart.the_type R Z g)) (
            block_ptr b o,
            (a, tt),
          ) (pair b o h ∷ [])) (vptr b o ∷ [], (h ∷ [], tt)) $ fjoin k $ s)
