-- `into_box` hands what is owned to std, which makes the box.
use Rattle.std.proofs.Common.{◌≡◌, List, [], ◌∷◌, ◌++◌, refl, sym, ap, subst}
use lib.Dec.{T as IsSo}
use mir.Syntax.{Args, Fn, a_type, dcons, dnil}
use mir.MapTy.{inst_fn}
use mir.Val.{Val, WT, has_ty, vptr}
use base.Logic.{SProp, ent, id⊢}
use base.Fml.{ftrue, fsep, flft}
use prog.Wp.{WpFn}
use contract.BorrowLft.{◌⊑◌}
use contract.Monad.{fact}
use contract.Running.{tables}
use types.Kit.{Item, ‵, raw, ◌⊛◌, some, later, at_ret, ◌$◌, ◌∵◌, !, qed, move, drop, split, split3, join, fsplit, fjoin, feq_i, pick, rewrite, suffices, use1, await, done}
use types.Run.{stop, fld, of_opd, no_more, and_then, first, blocks, exec, returns, enter}
use types.ByLocal.{alloc_all, pass_all, free_all, look_at, get, get_in, sets, lands_last, env}
use types.Part.{sub, whole}
use denote.Exit.{no}
use denote.Param.{bounded}
use denote.RattleType.{owns}
use denote.RawPtr.{block_ptr}
use denote.Signature.{plain, types_at}
use denote.Steps.{heard, nothing, only}
use denote.Triple.Call.{calls_at_last}
use denote.Triple.Clauses.{Clauses, Ended}
use denote.Triple.Spec.{triple_of}
use denote.Triple.Table.{framed}
use denote.Triple.Walked.{Stays, says, stay_dropped, walk_of, ends_at}
use Rattle.core.proofs.alloc.Calls.{Goes-blank, token}
use Rattle.core.proofs.alloc.Shapes.{after}
use Rattle.std.proofs.raw_atomic.Walks.{proved_at}
use Rattle.std_alloc.specs.Box.Ownership.{box_owns}
use Rattle.std_alloc.proofs.BoxSteps.Form.{Bx, B, D, P, R, word, box_ty, box_typed}
use Rattle.std_alloc.proofs.BoxSteps.Steps.{box_out, box_in}
use Rattle.std_alloc.specs.contracts.boxed.Box.from_raw as g
use Rattle.std_alloc.proofs.boxed.Box.from_raw.Met.{met}
use Rattle.terra_c.proofs.Boxes.{Parts}
use Rattle.terra_c.specs.contracts.apart.Apart.into_box as f
use Rattle.terra_c.specs.contracts.apart.Apart.into_box.Key.{name as key}
use Rattle.terra_c.proofs.apart.Apart.into_box.Statement.{statement}
use Rattle.terra_c.proofs.apart.Apart.into_box.Code as code

pub into_box_spec : {M : Type 1} → statement M
into_box_spec 𝓤 𝓛 𝓜 𝓡 wired T A LT LA ghosts d dx dd allocator glue glued =
    let H = 𝓛.H in let 𝓣 = tables 𝓤 H 𝓜 𝓡 𝓡.env in
    let E : Bx = record {
      row = T;
      laws = LT;
      al = record {
        row = A;
        laws = LA;
        g = ghosts;
        d
            = d;
        drops = dd;
      };
    } in
    let told : Ended = f.ended T A ghosts d dx dd in
    let c : Clauses 𝓤 told = f.clauses T A ghosts d dx dd 𝓛 𝓜.mem 𝓡.returns in
    let passed : Args = bounded (a_type ∷ a_type ∷ []) (T, (A, tt)) (dcons d (dcons dx (dcons
    dd dnil))) in
    let body : Fn = inst_fn passed code.function in
    let stayed : Stays told.signature.params told.kept = (
      stay_dropped (plain (λ _. Parts E))
          no,
      tt,
    ) in
    let G = triple_of 𝓛 (g.signature T A ghosts d dd) (g.spec T A ghosts d dd 𝓛 𝓜.mem 𝓡.returns) in
    proved_at 𝓛 told stayed c 𝓜 𝓡 (Goes-blank 𝓛 2 (plain (λ _. Parts E)) no (λ κs x fits. tt), tt)
    (key passed) body (code.unfolded 𝓤 H 𝓜 𝓡 wired (T, (A, tt)) d dx dd) (λ y are.
    let κs = y.0.0 in let qs = y.0.1 in let a = y.0.3.0.alloc in let x = y.0.3.0.value in
    -- the parts own what a box of theirs owns
    let v : D E = record { ptr = y.0.3.0.at; alloc = a; value = x } in
    let Post : Val → SProp 𝓤 = (walk_of 𝓛 told stayed c).post y in
    let Runs : List Val → SProp 𝓤 = λ us. WpFn 𝓤 H 𝓣.C 𝓣.Λ body us Post in
    let tokens : Item 𝓤 = ‵ (flft κs.0 qs.0) ⊛ ‵ (flft κs.1.0 qs.1.0) ⊛ ‵ ftrue in
    let lives : Item 𝓤 = raw (fact 𝓤 (κs.0 ⊑ T.lives)) ⊛ raw (fact 𝓤 (κs.1.0 ⊑ A.lives)) ⊛ ‵
    ftrue in
    qed 𝓛 ((tokens ⊛ ‵ (fsep ((B E).own_val v y.0.4.0) ftrue)) ∷ lives ∷ []) ∵
    split ! $ move ! (1 ∷ []) $ fsplit ! $ box_out E ! v y.0.4.0 (λ b o h at is fits. fjoin ! $
    let w : Val = word E h b o in
    let z : G.Ghost = ((κs, qs, tt, (a, (block_ptr b o, tt)), (h ∷ [], (vptr b o ∷ [], tt))), x) in
    suffices ! (Runs (w ∷ [])) (subst (λ (us : List Val). ent 𝓤 (Runs (w ∷ [])) (Runs us))
    (sym (λ i. is i ++ [])) (id⊢ 𝓤 (Runs (w ∷ [])))) $
    -- what the call is given: the tokens, the handle and the pointer, and what is owned there
    move ! (4 ∷ []) $ split3 ! $ move ! (2 ∷ []) $ drop ! $ move ! (1 ∷ 2 ∷ []) $ join ! $
    move ! (1 ∷ 0 ∷ []) $ join ! $
    move ! (2 ∷ []) $ feq_i ! (List Val) (vptr b o ∷ []) (vptr b o ∷ []) refl $ fjoin ! $
    move ! (2 ∷ 0 ∷ []) $ fjoin ! $ move ! (2 ∷ 0 ∷ []) $ join ! $ join ! $
    use1 𝓛 (raw (G.pre z)) (id⊢ 𝓤 (G.pre z)) $
    enter ! 𝓣.C 𝓣.Λ body (w ∷ []) Post $
    alloc_all ! (λ l. pass_all ! refl (box_typed E h b o fits, tt) $
    sets ! (of_opd ! (get_in ! (fld ! refl (stop !)) (sub ! 0 refl (whole !)))) refl (tt, tt) $
    sets ! (of_opd ! (get_in ! (fld ! refl (stop !)) (sub ! 1 refl (whole !)))) refl fits $
    first ! $ blocks ! $ sets ! (of_opd ! (get ! refl)) refl fits $
    calls_at_last ! (framed 𝓤 H 𝓜 𝓣) G (met 𝓤 𝓛 𝓜 𝓡
    (code.calls-std_alloc::boxed::Box::from_raw 𝓡.env wired) T A LT LA ghosts d dd
    allocator glued) z
    (and_then ! (get ! refl) (and_then ! (get ! refl) (no_more !))) (λ u.
    use1 𝓛 (later (some (λ (r : D E). (tokens ⊛ ‵ ((B E).own_val r (u ∷ []))) ⊛ some (λ (_ :
    Unit {0} × (Unit {0} × Unit {0})).
    ‵ (fsep ftrue (fsep ftrue ftrue)) ⊛ (raw (fact 𝓤 (r.value ≡ x)) ⊛ raw (fact 𝓤 (r.alloc ≡
    a))))))) (id⊢ 𝓤 (G.post z u)) $
    await ! tt $ pick ! (λ r. split ! $ split ! $ move ! (2 ∷ []) $ pick ! (λ _. split3 ! $
    drop ! $ heard ! (r.value ≡ x) (λ same. drop ! $
    -- [the tokens; the box]
    move ! (1 ∷ []) $ box_out E ! r (u ∷ []) (λ b' o' h' at' is' fits'. box_in E ! r b' o'
    r.value at' refl $
    rewrite ! 0 (λ (us : List Val). ‵ ((B E).own_val r us)) (sym is') refl $
    let typed : IsSo (has_ty (box_ty E) u) × WT u = subst (λ (s : Val). IsSo (has_ty (box_ty
    E) s) × WT s) (sym (ap only is')) (box_typed E h' b' o' fits') in
    lands_last ! refl typed $
    exec ! 𝓣.C 𝓣.Λ (env body.locals l) (after 3 body.body) (at_ret (env body.locals l) Post) $
    sets ! (of_opd ! (get ! refl)) refl typed $ returns ! (look_at ! 0 refl) $ free_all ! refl $
    suffices ! _ (ends_at 𝓛 told stayed c y u r ((tt, (tt, tt)), tt) (tt, tt)) $ says ! same $
    nothing ! $ nothing ! $ fjoin ! $ join ! $ move ! (1 ∷ 0 ∷ []) $ join ! $ done !))))))))
