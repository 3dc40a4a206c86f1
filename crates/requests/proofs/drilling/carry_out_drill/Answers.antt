-- A drill has fewer events than a journal has room for, and no undo.
use Rattle.std.proofs.Common.{[], length, ap, arith, subst, sym, ◌∙◌}
use Rattle.script_play.specs.Script.{NoneIsBare}
use Rattle.requests.proofs.DrillingLemmas.{drill-edits, few_events}
use Rattle.requests.proofs.drilling.carry_out_drill.Goals as goal

pub write_output-requires-clause-room : goal.write_output-requires-clause-room
write_output-requires-clause-room g c =
    omega (
      arith,
      few_events c.deref.result.now,
      ap length c.deref.ensures.value,
      c.in-Ok.ensures.few,
      c.requires.edits,
    )

pub write_output-requires-clause-edits : goal.write_output-requires-clause-edits
write_output-requires-clause-edits g c = λ lives outlive.
    subst (NoneIsBare []) (sym (c.deref.ensures.value ∙ c.in-Ok.ensures.script))
    (drill-edits c.args.drill.seed c.args.drill.edits c.args.drill.depth)
