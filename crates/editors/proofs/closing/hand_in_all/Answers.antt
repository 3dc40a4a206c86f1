-- To hand in an editor keeps the rule.
use Rattle.std.proofs.Common.{List, [], ◌∷◌, ◌++◌, Some, sym, ap, ◌∙◌, append_assoc}
use Rattle.std.proofs.lemmas.List.{map-append}
use Rattle.std.proofs.lemmas.List.Elements.{All-pop}
use Rattle.crossbeam_queue.specs.Passes.{view}
use Rattle.editors.specs.declared.editor.Ended.{Ended}
use Rattle.editors.specs.declared.sheet.Sheet.{Sheet}
use Rattle.editors.specs.declared.shown.Shown.{Shown}
use Rattle.editors.specs.Letters.{sheets_of, with_sheets}
use Rattle.editors.specs.Mail.{IsEndedOf}
use Rattle.editors.proofs.PassLemmas.{hands_in}
use Rattle.editors.proofs.closing.hand_in_all.Goals as goal

pub absorb-requires-clause-rule : goal.absorb-requires-clause-rule
absorb-requires-clause-rule c =
    let so_far = c.loop-editor.invariant in
    let parts = All-pop (IsEndedOf c.args.mail.now) c.loop-editor.left.items c.pop.new.self.items
    (Some c.in-Some.editor) c.in-Some.ensures.items so_far.ended in
    hands_in _ _ _ _ (ap (λ (a : Shown). a.takes) so_far.shown ∙ c.requires.pass.takes)
    (ap (λ (a : Shown). a.sends) so_far.shown ∙ c.requires.pass.sends) parts.1.pass.sends

pub loop-editor-preserved : goal.loop-editor-preserved
loop-editor-preserved c =
    let so_far = c.loop-editor.invariant in
    let left = c.pop.new.self.items in
    let editor = c.in-Some.editor in
    let before = view c.loop-editor.pass in
    let theirs = view editor.pass in
    let parts = All-pop (IsEndedOf c.args.mail.now) c.loop-editor.left.items left
    (Some editor) c.in-Some.ensures.items so_far.ended in
    let now = c.absorb.ensures.rule in record {
      pass_of = (
        c.absorb.ensures.queue.0 ∙ so_far.pass_of.0,
        c.absorb.ensures.queue.2 ∙ so_far.pass_of.1,
      );
      ended = parts.0;
      shown =
          now
          ∙ ap (λ (a : Shown). with_sheets a (theirs.sheet ∷ before.sheets)) so_far.shown
          ∙ ap (λ (a : Shown). with_sheets (view c.args.pass.now) a.sheets) (sym now);
      sheets =
          ap (λ (a : Shown). sheets_of left ++ a.sheets) now
          ∙ sym (append_assoc (sheets_of left) (theirs.sheet ∷ []) before.sheets)
          ∙ ap (λ (ss : List Sheet). ss ++ before.sheets)
          (sym (map-append (λ (e : Ended). (view e.pass).sheet) left (editor ∷ [])))
          ∙ ap (λ (es : List Ended). sheets_of es ++ before.sheets) (sym c.in-Some.ensures.items)
          ∙ so_far.sheets;
    }
