-- `release` branches: an open handle gives the parts of its box, a closed one nothing.
use Rattle.std.proofs.Common.{◌≡◌, ℕ, List, [], ◌∷◌, ◌++◌, refl, sym, subst, lit<, Option, None, Some}
use mathlib.Core.Bool.{Bool, true, false}
use seplogic.Ra.Ura.{Ura}
use mir.Syntax.{impl, tnil, dnil, ty_ptr}
use mir.Raw.{raw as bare}
use mir.Val.{Val, vcons, vnil}
use base.Logic.{SProp, ent, sep, via, snd∗, fst∗, never, never_e}
use base.Fml.{ftrue, feq}
use prog.Model.{Model}
use prog.Wp.{WpFn}
use types.Logic.{Logic, sem}
use types.Kit.{‵, ◌⊛◌, at_ret, ◌$◌, ◌∵◌, !, qed, by, done, move, keep, drop, split, fsplit, fjoin, fpick, feq_l, suffices, use0, use1}
use types.Match.{live}
use types.Run.{stop, fld, of_opd, lit, no_more, and_then, first, branches, exec, returns, enter}
use types.ByLocal.{alloc_all, pass_all, free_all, look_at, get, get_in, sets, sets_last, env}
use types.Part.{agg, sub, whole}
use contract.Running.{Running, tables}
use denote.Exit.{yes}
use denote.RattleType.{RattleType, owns}
use denote.Signature.{plain}
use denote.Memory.{lone}
use denote.RawPtr.{Ptr, block_ptr, null_ptr, ptr_val}
use denote.Steps.{nothing}
use denote.Param.{layout}
use denote.Triple.Walked.{Stays, says, stay_dropped, walk_of, ends_at}
use Rattle.core.proofs.alloc.Calls.{Al, Goes-blank, handle_tells}
use Rattle.core.proofs.alloc.Shapes.{after}
use Rattle.core.proofs.cell.Inside.{Good}
use Rattle.core.proofs.option.Made.{Some-of, none_of}
use Rattle.core.specs.contracts.option.Option as option
use Rattle.std.proofs.raw_atomic.Walks.{proved_at}
use Rattle.std_alloc.proofs.RcSteps.{some_Good}
use Rattle.std.specs.contracts.alloc.Global.{the_row as heap}
use Rattle.std.proofs.alloc.Global.TheLaws.{the_row_laws as heap_laws}
use Rattle.std.specs.contracts.impls.GlobalAllocator.TheImpl.{ghosts}
use Rattle.terra_c.specs.Handle.{holds}
use Rattle.terra_c.specs.contracts.held.Held.{the_row as R}
use Rattle.terra_c.specs.contracts.handle.TerraHandle.{the_row as handle}
use Rattle.terra_c.proofs.Parts.{Parts, pair, pair_typed, parts_in, parts_of}
use Rattle.terra_c.proofs.Handles.{word, handle_out}
use Rattle.terra_c.specs.contracts.handle.TerraHandle.release as f
use Rattle.terra_c.proofs.handle.TerraHandle.release.Statement.{statement}
use Rattle.terra_c.proofs.handle.TerraHandle.release.Code as code

abbrev L : RattleType
L = Parts R heap heap_laws ghosts

abbrev al : Al
al = record {
  row = heap;
  laws = heap_laws;
  g = ghosts;
  d = impl [] tnil dnil;
  drops = impl [] tnil
      dnil;
}

abbrev stayed : Stays f.ended.signature.params f.ended.kept
stayed = (stay_dropped (plain (λ _. handle)) yes, (stay_dropped (plain (λ _. heap)) yes, tt))

module _ {M : Type 1} {𝓤 : Ura M} (𝓛 : Logic 𝓤) (𝓜 : Model 𝓤 𝓛.H) (𝓡 : Running 𝓤 𝓛.H 𝓜) (y :
    (walk_of 𝓛 f.ended stayed (f.clauses 𝓛 𝓜.mem 𝓡.returns)).Ghost) (h : Val) (fits : Good (layout
    heap) h) where
  abbrev Post : Val → SProp 𝓤
  Post = (walk_of 𝓛 f.ended stayed (f.clauses 𝓛 𝓜.mem 𝓡.returns)).post y

  abbrev Runs : List Val → SProp 𝓤
  Runs us = WpFn 𝓤 𝓛.H (tables 𝓤 𝓛.H 𝓜 𝓡 𝓡.env).C (tables 𝓤 𝓛.H 𝓜 𝓡 𝓡.env).Λ code.function us Post

  abbrev held : Option R.Denot
  held = y.0.3.0.held

  abbrev Starts : Bool → Ptr → Type 1
  Starts is_open at = ent 𝓤 (sep 𝓤 (sem 𝓛 (holds R is_open at held)) (sem 𝓛 (heap.own_val y.0.3.1.0
      (h ∷ [])))) (Runs (word at is_open ∷ h ∷ []))

  closed : (at : Ptr) → Good (layout handle) (word at false) → Good ty_ptr (ptr_val at) → Starts
      false at
  closed at good at_good =
      let 𝓣 = tables 𝓤 𝓛.H 𝓜 𝓡 𝓡.env in
      qed 𝓛 (‵ (feq (Option R.Denot) held None) ∷ ‵ (heap.own_val y.0.3.1.0 (h ∷ [])) ∷ []) ∵ feq_l
      ! (λ none_held.
      enter ! 𝓣.C 𝓣.Λ code.function (word at false ∷ h ∷ []) Post $
      alloc_all ! (λ l. pass_all ! refl (good, (fits, tt)) $
      sets ! (of_opd ! (get_in ! (fld ! refl (stop !)) (sub ! 0 refl (whole !)))) refl at_good $
      sets ! (of_opd ! (get_in ! (fld ! refl (stop !)) (sub ! 1 refl (whole !)))) refl (tt, tt) $
      sets ! (of_opd ! (get ! refl)) refl (tt, tt) $
      first ! $ branches ! (get ! refl) (λ t. absurd t)
      (λ t. sets_last ! (agg ! (and_then ! (lit ! tt) (no_more !))) refl (
        tt,
        (
          record {
            fits = lit<
                tt;
          },
          tt,
        ),
      ) $
      exec ! 𝓣.C 𝓣.Λ (env code.function.locals l) (after 4 code.function.body) (at_ret (env
      code.function.locals l) Post) $
      sets ! (of_opd ! (get ! refl)) refl (tt, (record { fits = lit< tt }, tt)) $
      use0 𝓛 (‵ ((option.the_row L).own_val None (live 0 vnil ∷ []))) (none_of 𝓛 L) $
      returns ! (look_at ! 0 refl) $ free_all ! refl $ keep ! (0 ∷ []) $
      suffices ! _ (ends_at 𝓛 f.ended stayed (f.clauses 𝓛 𝓜.mem 𝓡.returns) y (live 0 vnil) None
      (tt, (tt, tt)) (tt, (tt, tt))) $ says ! none_held $
      nothing ! $ nothing ! $ fjoin ! $ nothing ! $ fjoin ! $ nothing ! $ done !)))

  opens : (b o : ℕ) → Starts true (block_ptr b o)
  opens b o =
      let 𝓣 = tables 𝓤 𝓛.H 𝓜 𝓡 𝓡.env in let a = y.0.3.1.0 in
      let w : Val = pair b o h in let good = pair_typed R heap heap_laws ghosts b o h fits in
      qed 𝓛 (‵ (holds R true (block_ptr b o) held) ∷ ‵ (heap.own_val a (h ∷ [])) ∷ []) ∵ fpick ! (λ
      s. fsplit ! $ feq_l ! (λ some_held.
      let parts : L.Denot = parts_of R heap heap_laws ghosts b o a s.1 in
      enter ! 𝓣.C 𝓣.Λ code.function (word (block_ptr b o) true ∷ h ∷ []) Post $
      alloc_all ! (λ l. pass_all ! refl ((tt, (tt, (tt, tt))), (fits, tt)) $
      sets ! (of_opd ! (get_in ! (fld ! refl (stop !)) (sub ! 0 refl (whole !)))) refl (tt, tt) $
      sets ! (of_opd ! (get_in ! (fld ! refl (stop !)) (sub ! 1 refl (whole !)))) refl (tt, tt) $
      sets ! (of_opd ! (get ! refl)) refl (tt, tt) $
      first ! $ branches ! (get ! refl)
      (λ t. sets ! (of_opd ! (get ! refl)) refl (tt, tt) $
      sets ! (agg ! (and_then ! (get ! refl) (and_then ! (get ! refl) (no_more !)))) refl good $
      sets_last ! (agg ! (and_then ! (lit ! tt) (and_then ! (get ! refl) (no_more !)))) refl
      (some_Good (layout L) w good) $
      exec ! 𝓣.C 𝓣.Λ (env code.function.locals l) (after 4 code.function.body) (at_ret (env
      code.function.locals l) Post) $
      sets ! (of_opd ! (get ! refl)) refl (some_Good (layout L) w good) $
      parts_in R heap heap_laws ghosts ! b o h a s.1 $
      use1 𝓛 (‵ ((option.the_row L).own_val (Some parts) (live 1 (vcons w vnil) ∷ []))) (Some-of 𝓛
      L parts w) $
      returns ! (look_at ! 0 refl) $ free_all ! refl $ keep ! (0 ∷ []) $
      suffices ! _ (ends_at 𝓛 f.ended stayed (f.clauses 𝓛 𝓜.mem 𝓡.returns) y (live 1 (vcons w
      vnil)) (Some parts) (tt, (tt, tt)) (tt, (tt, tt))) $ says ! some_held $
      nothing ! $ nothing ! $ fjoin ! $ nothing ! $ fjoin ! $ nothing ! $ done !)
      (λ t. absurd t))))

  starts : (is_open : Bool) (at : Ptr) → Starts is_open at
  starts false null_ptr = closed null_ptr (tt, (record { fits = lit< tt }, (tt, tt))) (
    tt,
    record {
      fits = lit< tt;
    },
  )
  starts false (block_ptr b o) = closed (block_ptr b o) (tt, (tt, (tt, tt))) (tt, tt)
  starts true (block_ptr b o) = opens b o
  starts true null_ptr = qed 𝓛 (‵ (holds R true null_ptr held) ∷ ‵ (heap.own_val y.0.3.1.0 (h ∷
      [])) ∷ []) ∵ keep ! (0 ∷ []) $
      fpick ! (λ s. fsplit ! $
      feq_l ! (λ some_held. by ! (via 𝓤 (never 𝓤) (fst∗ 𝓤 (never 𝓤) (sem 𝓛 (ghosts.dealloc_token
      s.0 (bare (lone R.mir)) null_ptr))) (never_e 𝓤 _))))

pub release_spec : {M : Type 1} → statement M
release_spec 𝓤 𝓛 𝓜 𝓡 wired =
    let H = 𝓛.H in let c = f.clauses 𝓛 𝓜.mem 𝓡.returns in
    proved_at 𝓛 f.ended stayed c 𝓜 𝓡 (
      Goes-blank 𝓛 0 (plain (λ _. handle)) yes (λ κs x fits. tt),
      (Goes-blank 𝓛 0 (plain (λ _. heap)) yes (λ κs x fits. tt), tt),
    )
    f.Key.name code.function (code.unfolded 𝓤 H 𝓜 𝓡 wired) (λ y are.
    let v = y.0.3.0 in let a = y.0.3.1.0 in
    qed 𝓛 ((‵ ftrue ⊛ ‵ (owns (handle ∷ heap ∷ []) y.0.3 y.0.4)) ∷ ‵ ftrue ∷ []) ∵ split ! $
    drop ! $ fsplit ! $ handle_out ! v y.0.4.0 (λ is.
    move ! (1 ∷ []) $ fsplit ! $
    handle_tells al ! a y.0.4.1.0 (λ h heap_is fits. keep ! (2 ∷ 0 ∷ []) $
    by ! (subst (λ (us : List Val × List Val). ent 𝓤 (sep 𝓤 (sem 𝓛 (holds R v.is_open v.at v.held))
    (sem 𝓛 (heap.own_val a (h ∷ [])))) (Runs 𝓛 𝓜 𝓡 y h fits (us.0 ++ (us.1 ++ [])))) (λ j. (
      sym
          is j,
      sym heap_is j,
    )) (starts 𝓛 𝓜 𝓡 y h fits v.is_open v.at)))))
