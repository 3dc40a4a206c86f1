-- `seen_brick` makes a value of no bytes, whose ghost field is the brick of what the references show.
use Rattle.std.proofs.Common.{List, [], ◌∷◌, ◌++◌, refl, sym, subst}
use mir.Syntax.{Fn}
use mir.Val.{Val, vptr, vstruct, vcons, vnil}
use base.Fml.{Fml}
use prog.Wp.{WpFn}
use base.Logic.{ent}
use contract.Running.{tables}
use types.Kit.{‵, raw, ◌⊛◌, ◌$◌, ◌∵◌, !, qed, move, keep, split, join, fjoin, use0, suffices, done}
use types.Run.{no_more, and_then, returns, enter}
use types.Part.{agg}
use types.ByLocal.{alloc_all, pass_all, free_all, look_at, get, sets}
use denote.RattleType.{owns}
use denote.Exit.{yes}
use denote.Shadow.{makes_shadow}
use denote.Builtin.{RefOf}
use denote.Signature.{types_at, type_at, plain}
use denote.Steps.{nothing}
use denote.Triple.Clauses.{Clauses}
use denote.Triple.Entry.{Res, alive}
use denote.Triple.Walked.{says, Stays, stay_dropped, walk_of, ends_at, Goes-dropped}
use Rattle.std.proofs.raw_atomic.Walks.{proved_at}
use Rattle.field_pages.specs.contracts.version.Version.{the_row as version_row}
use Rattle.octree.specs.contracts.levels.Levels.{the_row as levels_row}
use Rattle.lattice.specs.contracts.node.Node.{the_row as node_row}
use Rattle.terrain.specs.Blocks.{brick}
use Rattle.field_pages.specs.Pages.{sample_at}
use Rattle.octree.specs.SplitBits.{split_at}
use Rattle.block_mesh.specs.contracts.seen.seen_brick as f
use Rattle.block_mesh.proofs.seen.seen_brick.Statement.{statement}
use Rattle.block_mesh.proofs.seen.seen_brick.Code as code

pub seen_brick_spec : {M : Type 1} → statement M
seen_brick_spec 𝓤 𝓛 𝓜 𝓡 wired =
    let H = 𝓛.H in let 𝓣 = tables 𝓤 H 𝓜 𝓡 𝓡.env in
    let S = f.ended.signature in let body : Fn = code.function in
    let c : Clauses 𝓤 f.ended = f.clauses 𝓛 𝓜.mem 𝓡.returns in
    let first = RefOf (0 ∷ []) tt (plain (λ _. version_row)) (λ _. tt) in
    let second = RefOf (1 ∷ []) tt (plain (λ _. levels_row)) (λ _. tt) in
    let third = RefOf (2 ∷ []) tt (plain (λ _. node_row)) (λ _. tt) in
    let stayed : Stays S.params f.ended.kept =
    (stay_dropped first yes, (stay_dropped second yes, (stay_dropped third yes, tt))) in
    proved_at 𝓛 f.ended stayed c 𝓜 𝓡 (
      Goes-dropped 𝓛 3 first yes (λ κs x fits. refl),
      (
        Goes-dropped 𝓛 3 second yes (λ κs x fits. refl),
        (Goes-dropped 𝓛 3 third yes (λ κs x fits. refl), tt),
      ),
    ) f.Key.name body (code.unfolded 𝓤 H 𝓜 𝓡 wired) (λ y are.
    let W = walk_of 𝓛 f.ended stayed c in
    let At : List Val → List Val → List Val → W.Ghost =
    λ a b d. ((y.0.0, y.0.1, y.0.2, y.0.3, (a, (b, (d, tt)))), y.1) in
    let Goes : List Val → List Val → List Val → Type 1 = λ a b d.
    ent 𝓤 (W.pre (At a b d)) (WpFn 𝓤 H 𝓣.C 𝓣.Λ body (a ++ (b ++ (d ++ []))) (W.post (At a b d))) in
    let p = y.0.3.0.ref_ptr in let q = y.0.3.1.0.ref_ptr in let t = y.0.3.1.1.0.ref_ptr in
    let x : Val = vptr p.0 p.1 in let z : Val = vptr q.0 q.1 in let w : Val = vptr t.0 t.1 in
    let v : Val = vstruct (vcons (vstruct vnil) vnil) in
    let r : Res S y.0.0 = record {
      marker = record {};
      value = brick y.0.3.1.0.now.depth (sample_at y.0.3.0.now) (split_at y.0.3.1.0.now)
          y.0.3.1.1.0.now;
    } in
    let O : Fml = (type_at S.result y.0.0).own_val r (v ∷ []) in
    let y' = At (x ∷ []) (z ∷ []) (w ∷ []) in
    subst (λ a. Goes a y.0.4.1.0 y.0.4.1.1.0) (sym are.0.0) (
    subst (λ b. Goes (x ∷ []) b y.0.4.1.1.0) (sym are.1.0.0) (
    subst (λ d. Goes (x ∷ []) (z ∷ []) d) (sym are.1.1.0.0) (
    qed 𝓛 ((raw (alive 𝓛 S y.0.0 y.0.1)
    ⊛ ‵ (owns (types_at S.params y.0.0) y.0.3 (x ∷ [], (z ∷ [], (w ∷ [], tt)))))
    ∷ raw ((c y.0.0 y.0.3).requires y.1) ∷ []) ∵ split ! $ keep ! (0 ∷ []) $
    enter ! 𝓣.C 𝓣.Λ body (x ∷ z ∷ w ∷ []) (W.post y') $
    alloc_all ! (λ l. pass_all ! refl ((tt, tt), ((tt, tt), ((tt, tt), tt))) $
    sets ! (agg ! (no_more !)) refl (tt, tt) $
    sets ! (agg ! (and_then ! (get ! refl) (no_more !))) refl (tt, (tt, tt)) $
    returns ! (look_at ! 0 refl) $ free_all ! refl $
    use0 𝓛 (‵ O) (makes_shadow 𝓛 O ((λ vss. (tt, ((λ uss. (tt, tt)), tt))), tt)
    (((vstruct vnil ∷ [], tt), (refl, ((tt, (refl, tt)), tt))), tt)) $
    suffices ! _ (ends_at 𝓛 f.ended stayed c y' v r (tt, (tt, (tt, tt))) (tt, (tt, (tt, tt)))) $
    says ! refl $
    nothing ! $ nothing ! $ fjoin ! $ nothing ! $ fjoin ! $ nothing ! $ fjoin ! $
    join ! $ move ! (1 ∷ 0 ∷ []) $ join ! $ done !)))))
