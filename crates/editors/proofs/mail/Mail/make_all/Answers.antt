-- One more editor is made.
use Rattle.std.proofs.Common.{◌≡◌, [], arith, ◌∙◌}
use Rattle.std.proofs.lemmas.List.Elements.{All-push, All-same}
use Rattle.editors.specs.declared.editor.Editor.{Editor}
use Rattle.editors.specs.Mail.{IsEditorOf, sent_by}
use Rattle.editors.proofs.MakingLemmas.{numbered-push}
use Rattle.editors.proofs.mail.Mail.make_all.Goals as goal

pub loop-number-preserved : goal.loop-number-preserved
loop-number-preserved c =
    let so_far = c.loop-number.invariant in
    let list = c.loop-number.list in
    let all = c.push.new.self.items in
    let mail = c.args.self.now in record {
      pass = c.make.ensures.pass;
      none_in = c.make.ensures.none_in;
      taken = c.make.ensures.taken ∙ so_far.taken;
      editors = All-same (IsEditorOf mail) all _ c.in_ok-push.ensures.items
          (All-push (IsEditorOf mail) list.items c.make.result so_far.editors
          c.make.ensures.editor);
      numbers = numbered-push list.items c.make.result all c.in_ok-push.ensures.items
          (omega (arith, c.make.ensures.number, so_far.count, list.ok.0)) so_far.numbers;
      new = All-same (λ (e : Editor). sent_by e ≡ []) all _ c.in_ok-push.ensures.items
          (All-push (λ (e : Editor). sent_by e ≡ []) list.items c.make.result so_far.new
          c.make.ensures.none);
      count = omega (arith, so_far.count, c.in_ok-push.ensures.len);
    }
