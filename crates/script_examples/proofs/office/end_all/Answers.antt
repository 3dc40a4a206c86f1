-- One more editor has ended.
use Rattle.std.proofs.Common.{Some, ap, ◌∙◌, arith}
use Rattle.std.proofs.lemmas.List.Elements.{All-pop, All-push, All-same}
use Rattle.editors.specs.Mail.{IsEditorOf, IsEndedOf}
use Rattle.script_examples.proofs.EndLemmas.{ended-more, numbered-front, numbered-last}
use Rattle.script_examples.proofs.office.end_all.Goals as goal

pub end-requires : goal.end-requires
end-requires g c =
    (All-pop (IsEditorOf c.args.mail.now) c.loop-editor.left.items c.pop.new.self.items
    (Some c.in-Some.editor) c.in-Some.ensures.items c.loop-editor.invariant.editors).1

pub loop-editor-preserved : goal.loop-editor-preserved
loop-editor-preserved g c =
    let mail = c.args.mail.now in
    let so_far = c.loop-editor.invariant in
    let all = c.loop-editor.left in
    let left = c.pop.new.self in
    let popped = c.in-Some.ensures in
    let parts = All-pop (IsEditorOf mail) all.items left.items (Some c.in-Some.editor) popped.items
    so_far.editors in
    let last = numbered-last all.items left.items c.in-Some.editor popped.items so_far.numbers in
    record {
      editors = parts.0;
      numbers =
          numbered-front all.items left.items c.in-Some.editor popped.items so_far.numbers;
      ended = All-same (IsEndedOf mail) c.push.new.self.items _ c.in_ok-push.ensures.items
          (All-push (IsEndedOf mail) c.loop-editor.ended.items c.end.result so_far.ended
          c.end.ensures.ended);
      each = ended-more _ _ _ _ _ c.in_ok-push.ensures.items
          (omega (arith, last, c.end.ensures.number, left.ok.0))
          (λ n past within. so_far.each n (omega (arith, popped.cases)) within);
    }
