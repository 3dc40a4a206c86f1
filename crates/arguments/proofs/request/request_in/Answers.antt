-- The arguments of a drill, or of editors, are not those of another form.
use Rattle.std.proofs.Common.{Some, ap, sym, ◌∙◌, subst}
use Rattle.std.proofs.lemmas.Option.{same_Some}
use Rattle.arguments.specs.Request.{AskFor, texts}
use Rattle.arguments.specs.declared.request.Request.TheVariants.{Drill, Edit}
use Rattle.arguments.proofs.RequestLemmas.{drill_alone, editing_alone}
use Rattle.arguments.proofs.request.request_in.Goals as goal

pub returns-in-Some-clause-asked : goal.returns-in-Some-clause-asked
returns-in-Some-clause-asked c =
    let drill = (c.drill_in.ensures c.in-Some.drill).1 c.in-Some.is in
    λ request. (
      λ asked. ap Some (drill_alone (texts c.args.arguments.now) c.in-Some.drill request drill
          (λ other is. sym (same_Some c.in-Some.drill other
          (sym c.in-Some.is ∙ (c.drill_in.ensures other).0 is))) asked),
      λ e. subst (AskFor (texts c.args.arguments.now))
          (same_Some (Drill c.in-Some.drill) request e) drill,
    )

pub returns-in-Some-clause-lawful : goal.returns-in-Some-clause-lawful
returns-in-Some-clause-lawful c =
    let drill = (c.drill_in.ensures c.in-Some.drill).1 c.in-Some.is in (drill.edits, drill.depth)

pub returns-in-Some-editing_in-clause-asked : goal.returns-in-Some-editing_in-clause-asked
returns-in-Some-editing_in-clause-asked c =
    let editing = (c.editing_in.ensures c.in-Some-editing_in.editing).1 c.in-Some-editing_in.is in
    λ request. (
      λ asked. ap Some (editing_alone (texts c.args.arguments.now)
          c.in-Some-editing_in.editing request editing
          (λ other is. sym (same_Some c.in-Some-editing_in.editing other
          (sym c.in-Some-editing_in.is ∙ (c.editing_in.ensures other).0 is))) asked),
      λ e. subst (AskFor (texts c.args.arguments.now))
          (same_Some (Edit c.in-Some-editing_in.editing) request e) editing,
    )

pub returns-in-Some-editing_in-clause-lawful : goal.returns-in-Some-editing_in-clause-lawful
returns-in-Some-editing_in-clause-lawful c =
    ((c.editing_in.ensures c.in-Some-editing_in.editing).1 c.in-Some-editing_in.is).lawful
