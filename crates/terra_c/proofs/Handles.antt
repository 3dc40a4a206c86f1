-- The machine value of a handle, and what it owns.
use Rattle.std.proofs.Common.{◌≡◌, List, [], ◌∷◌, ◌++◌, refl, subst, Option}
use mathlib.Core.Bool.{Bool}
use seplogic.Ra.Ura.{Ura}
use mir.Val.{Val, vbool, vstruct, vcons, vnil, of_list}
use types.Logic.{Logic}
use types.Kit.{Item, Goal, Seq, Step, step, ‵, ◌$◌, drop, fsplit, fjoin, fpick, fpack, feq_i, feq_l}
use denote.RattleType.{Valss}
use denote.Builtin.{RawPtr, bool}
use denote.RawPtr.{Ptr, ptr_val}
use denote.Steps.{nothing}
use denote.Struct.Struct.{within}
use denote.Struct.Owning.{shape}
use Rattle.terra_c.specs.Handle.{holds}
use Rattle.terra_c.specs.contracts.handle.TerraHandle as handle
use Rattle.terra_c.specs.contracts.held.Held.{the_row as R}

abbrev pub word : Ptr → Bool → Val
word at is_open = vstruct (vcons (ptr_val at) (vcons (vbool is_open) vnil))

-- a handle with these fields, which is said to hold this
abbrev pub handle_of : Ptr → Bool → Option R.Denot → (handle.the_row).Denot
handle_of at is_open held = record { at = at; is_open = is_open; held = held }

module _ {M : Type 1} {𝓤 : Ura M} {𝓛 : Logic 𝓤} {K : Type 0} {Γ : List (Item 𝓤)} {G : Goal 𝓤 𝓛.H}
  where
    -- a handle is put together from what it owns
    pub handle_in : K → (at : Ptr) (is_open : Bool) (held : Option R.Denot)
        → Step K 𝓛 (‵ ((handle.the_row).own_val (handle_of at is_open held) (word at is_open
        ∷ [])) ∷
        Γ) G (‵ (holds R is_open at held) ∷ Γ) G
    handle_in k at is_open held = step (λ s.
        nothing k $ feq_i k (List Val) (vbool is_open ∷ []) (vbool is_open ∷ []) refl $ fjoin k $
        feq_i k (List Val) (ptr_val at ∷ []) (ptr_val at ∷ []) refl $ fjoin k $
        feq_i k (List Val) (word at is_open ∷ []) (word at is_open ∷ []) refl $ fjoin k $
        fpack k (Valss (RawPtr ∷ bool ∷ [])) (within (shape handle.the_type) (at, (is_open, tt))
        (word at is_open ∷ [])) (ptr_val at ∷ [], (vbool is_open ∷ [], tt)) $ fjoin k $ s)

    -- and taken apart
    pub handle_out : K → (d : (handle.the_row).Denot) (vs : List Val)
        → (vs ≡ word d.at d.is_open ∷ [] → Seq K 𝓛 (‵ (holds R d.is_open d.at d.held) ∷ Γ) G)
        → Seq K
        𝓛 (‵ ((handle.the_row).own_val d vs) ∷ Γ) G
    handle_out k d vs next =
        fsplit k $ fpick k (λ vss. fsplit k $ feq_l k (λ whole. fsplit k $
        feq_l k (λ first. fsplit k $ feq_l k (λ second. drop k $ next
        (subst (λ (ws : List Val). vs ≡ vstruct (of_list (ptr_val d.at ∷ (ws ++ []))) ∷ []) second
        (subst (λ (ps : List Val). vs ≡ vstruct (of_list (ps ++ (vss.1.0 ++ []))) ∷ []) first
        whole))))))
