-- Each edit's commands are the next ones of the script.
use Rattle.std.proofs.Common.{◌≡◌, ◌+◌, ◌-◌, ◌<◌, ◌++◌, ◌∷◌, [], All, length, sym, ap, ◌∙◌, subst, arith}
use Rattle.std.proofs.lemmas.List.{length_push}
use Rattle.camera_script.specs.declared.commands.Command.TheVariants as command
use Rattle.camera_script.specs.Commands.{IsAllowedCommand}
use Rattle.terrain.specs.History.{IsLawfulEvent}
use Rattle.drills.specs.Drill.{edits_from, event_from, stats_after}
use Rattle.drills.proofs.DrillLemmas.{lawful-with, taken}
use Rattle.drills.proofs.drill.drill_script.Goals as goal

pub loop-done-preserved : goal.loop-done-preserved
loop-done-preserved c =
    let depth = c.args.depth in
    let edits = c.args.edits in
    let done = c.loop-done.done in
    let state = c.loop-done.generator.state in
    let items = c.loop-done.commands.items in
    let event = event_from depth state in
    let with_event = items ++ command.Event event ∷ [] in
    let added : c.push_stats_after.new.commands.items ≡ with_event ++ stats_after (done + 1) [] =
    c.in_ok-push_stats_after.ensures.stats
    ∙ ap (λ l. l ++ stats_after (done + 1) []) (c.in_ok-push-2.ensures.items
    ∙ ap (λ e. items ++ command.Event e ∷ []) c.event.ensures.value) in
    let more : done < edits = omega (arith, c.loop-done-test.true) in
    let lawful : IsLawfulEvent depth event =
    subst (IsLawfulEvent depth) c.event.ensures.value c.event.ensures.lawful in
    let longer : length c.push-in-loop-done.new.self.items ≡ length items + 1 =
    ap length c.in_ok-push-2.ensures.items ∙ length_push items (command.Event c.event.result) in (
      ap (λ l. l ++ edits_from depth (edits - (done + 1)) (done + 1) c.event.new.self.state) added
          ∙ ap (λ s. (with_event ++ stats_after (done + 1) [])
          ++ edits_from depth (edits - (done + 1)) (done + 1) s) c.event.ensures.state
          ∙ taken depth edits done state more items _ c.loop-done.invariant.0,
      subst (All (IsAllowedCommand depth)) (sym added)
          (lawful-with depth (done + 1) items (command.Event event) c.loop-done.invariant.1 lawful),
      omega (arith, c.in_ok-push_stats_after.ensures.few, longer, c.loop-done.invariant.2),
    )
