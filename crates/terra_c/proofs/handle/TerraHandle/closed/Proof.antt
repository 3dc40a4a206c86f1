-- `closed` makes the null pointer, and owns nothing.
use Rattle.std.proofs.Common.{[], ◌∷◌, refl, lit<, Option, None}
use mathlib.Core.Bool.{false}
use base.Fml.{ftrue}
use types.Kit.{‵, raw, ◌$◌, ◌∵◌, !, qed, done, drop, feq_i, keep, suffices}
use types.Run.{lit, false_lit, no_more, and_then, returns, enter}
use types.ByLocal.{alloc_all, pass_all, free_all, look_at, sets}
use types.Part.{agg}
use denote.RawPtr.{null_ptr}
use denote.Steps.{nothing}
use denote.Triple.Entry.{on_entry}
use denote.Triple.Walked.{Stays, says, walk_of, ends_at}
use Rattle.std.proofs.raw_atomic.Walks.{proved}
use Rattle.terra_c.proofs.Handles.{word, handle_in, handle_of}
use Rattle.terra_c.specs.contracts.held.Held.{the_row as R}
use Rattle.terra_c.specs.contracts.handle.TerraHandle.closed as f
use Rattle.terra_c.proofs.handle.TerraHandle.closed.Statement.{statement}
use Rattle.terra_c.proofs.handle.TerraHandle.closed.Code as code

abbrev stayed : Stays f.ended.signature.params f.ended.kept
stayed = tt

pub closed_spec : {M : Type 1} → statement M
closed_spec 𝓤 𝓛 𝓜 𝓡 wired =
    let c = f.clauses 𝓛 𝓜.mem 𝓡.returns in let W = walk_of 𝓛 f.ended stayed c in
    proved 𝓛 f.ended stayed c 𝓜 𝓡 tt f.Key.name code.function (code.unfolded 𝓤 𝓛.H 𝓜 𝓡 wired)
    (λ κs. tt) (λ κs. tt) (λ κs qs bounds a ghost are.
    let y : W.Ghost = ((κs, qs, bounds, a, tt), tt) in
    qed 𝓛 (raw (on_entry 𝓛 f.signature κs qs a tt) ∷ ‵ ftrue ∷ []) ∵ drop ! $
    enter ! _ _ _ _ _ $ alloc_all ! (λ l. pass_all ! refl tt $
    sets ! (agg ! (and_then ! (lit ! tt) (and_then ! (false_lit !) (no_more !)))) refl (
      tt,
      (
        record
            { fits = lit< tt },
        (tt, tt),
      ),
    ) $
    returns ! (look_at ! 0 refl) $ free_all ! refl $
    feq_i ! (Option R.Denot) None None refl $ handle_in ! null_ptr false None $ keep ! (0 ∷ []) $
    suffices ! _ (ends_at 𝓛 f.ended stayed c y (word null_ptr false) (handle_of null_ptr false
    None) tt tt) $ says ! refl $
    nothing ! $ nothing ! $ done !))
