-- `of` makes a value of no bytes, whose ghost field is what the reference shows.
use Rattle.std.proofs.Common.{List, [], ◌∷◌, ◌++◌, refl, sym, subst}
use mir.Syntax.{Fn, a_type}
use mir.MapTy.{inst_fn}
use mir.Val.{Val, vptr, vstruct, vcons, vnil}
use base.Fml.{Fml}
use prog.Wp.{WpFn}
use base.Logic.{ent}
use contract.Running.{tables}
use types.Kit.{‵, raw, ◌⊛◌, ◌$◌, ◌∵◌, !, qed, move, keep, split, join, fjoin, use0, suffices, done}
use types.Run.{no_more, and_then, returns, enter}
use types.Part.{agg}
use types.ByLocal.{alloc_all, pass_all, free_all, look_at, get, sets}
use denote.RattleType.{owns}
use denote.Exit.{yes}
use denote.Param.{param, layouts}
use denote.Shadow.{makes_shadow}
use denote.Builtin.{RefOf}
use denote.Signature.{types_at, type_at, plain}
use denote.Steps.{nothing}
use denote.Triple.Clauses.{Ended, Clauses}
use denote.Triple.Entry.{Res, alive}
use denote.Triple.Walked.{says, Stays, stay_dropped, walk_of, ends_at, Goes-dropped}
use Rattle.std.proofs.raw_atomic.Walks.{proved_at}
use Rattle.block_mesh.specs.contracts.seen.Seen.of as f
use Rattle.block_mesh.specs.contracts.seen.Seen.of.Key.{name as key}
use Rattle.block_mesh.proofs.seen.Seen.of.Statement.{statement}
use Rattle.block_mesh.proofs.seen.Seen.of.Code as code

pub of_spec : {M : Type 1} → statement M
of_spec 𝓤 𝓛 𝓜 𝓡 wired T laws =
    let H = 𝓛.H in let 𝓣 = tables 𝓤 H 𝓜 𝓡 𝓡.env in
    let told : Ended = f.ended T in let S = told.signature in
    let c : Clauses 𝓤 told = f.clauses T 𝓛 𝓜.mem 𝓡.returns in
    let passed = layouts (a_type ∷ []) (T, tt) in
    let body : Fn = inst_fn passed code.function in
    let kept = stay_dropped (RefOf (0 ∷ []) tt (plain (λ _. param 0 T)) (λ _. tt)) yes in
    let stayed : Stays S.params told.kept = (kept, tt) in
    let goes = Goes-dropped 𝓛 2 (RefOf (0 ∷ []) tt (plain (λ _. param 0 T)) (λ _. tt)) yes
    (λ κs x fits. refl) in
    proved_at 𝓛 told stayed c 𝓜 𝓡 (goes, tt)
    (key passed) body (code.unfolded 𝓤 H 𝓜 𝓡 wired (T, tt)) (λ y are.
    let W = walk_of 𝓛 told stayed c in
    let At : List Val → W.Ghost = λ us. ((y.0.0, y.0.1, y.0.2, y.0.3, (us, tt)), y.1) in
    let Goes : List Val → Type 1 = λ us.
    ent 𝓤 (W.pre (At us)) (WpFn 𝓤 H 𝓣.C 𝓣.Λ body (us ++ []) (W.post (At us))) in
    let at = y.0.3.0.ref_ptr in let now = y.0.3.0.now in
    let w : Val = vptr at.0 at.1 in
    let v : Val = vstruct (vcons (vstruct vnil) vnil) in
    let r : Res S y.0.0 = record { marker = record {}; value = now } in
    let O : Fml = (type_at S.result y.0.0).own_val r (v ∷ []) in
    subst Goes (sym are.0.0) (
    qed 𝓛 ((raw (alive 𝓛 S y.0.0 y.0.1) ⊛ ‵ (owns (types_at S.params y.0.0) y.0.3 (w ∷ [], tt)))
    ∷ raw ((c y.0.0 y.0.3).requires y.1) ∷ []) ∵ split ! $ keep ! (0 ∷ []) $
    enter ! 𝓣.C 𝓣.Λ body (w ∷ []) (W.post (At (w ∷ []))) $
    alloc_all ! (λ l. pass_all ! refl ((tt, tt), tt) $
    sets ! (agg ! (no_more !)) refl (tt, tt) $
    sets ! (agg ! (and_then ! (get ! refl) (no_more !))) refl (tt, (tt, tt)) $
    returns ! (look_at ! 0 refl) $ free_all ! refl $
    use0 𝓛 (‵ O) (makes_shadow 𝓛 O ((λ vss. (tt, ((λ uss. (tt, tt)), tt))), tt)
    (((vstruct vnil ∷ [], tt), (refl, ((tt, (refl, tt)), tt))), tt)) $
    suffices ! _ (ends_at 𝓛 told stayed c (At (w ∷ [])) v r (tt, tt) (tt, tt)) $ says ! refl $
    nothing ! $ nothing ! $ fjoin ! $ join ! $ move ! (1 ∷ 0 ∷ []) $ join ! $ done !)))
