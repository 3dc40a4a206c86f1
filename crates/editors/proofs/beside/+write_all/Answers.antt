-- One more editor, the last of those that are left.
use Rattle.std.proofs.Common.{◌≡◌, ℕ, All, Global, List, Vec, [], ◌∷◌, ◌++◌, arith, map, rules, sym, ap, ◌∙◌, subst, vec_len}
use Rattle.terrain.specs.History.{IsLawfulEvent}
use Rattle.terrain.specs.declared.event.Event.{Event}
use Rattle.editors.specs.Beside.{HasReadAll, IsDesk, IsSent, list_of}
use Rattle.editors.specs.Mail.{IsEndedOf, sent_in_all_by}
use Rattle.editors.specs.declared.editor.Ended.{Ended}
use Rattle.editors.specs.declared.mail.Mail.{Mail}
use Rattle.editors.proofs.BesideLemmas.{front-to-send, last-editor, last-lawful, last-new, last-number, last-within, list-of-number, sent-more}
use Rattle.editors.proofs.beside.+write_all.Goals.{in-Ok, in-Err}
use Rattle.editors.proofs.beside.+write_all.Goals as goal

-- the lists, of vectors
abbrev lists_in : List (Vec Event Global) → List (List Event)
lists_in vectors = map (λ list. list.items) vectors

-- an editor with this number has ended, and has sent these events
abbrev IsWhole : Mail → ℕ → List Event → Ended → Type 0
IsWhole mail number events ended =
    IsEndedOf mail ended × (ended.number ≡ number) × (sent_in_all_by ended ≡ events)

pub start-started-requires-clause-editor : goal.start-started-requires-clause-editor
start-started-requires-clause-editor g t c κs within =
    last-editor c.args.mail.now (lists_in c.args.lists.now) c.args.editors.now.items
    c.pop.new.self.items c.in-Some.editor c.in-Some.ensures.items c.requires.editors

pub start-started-requires-clause-new : goal.start-started-requires-clause-new
start-started-requires-clause-new g t c κs within =
    last-new c.args.mail.now (lists_in c.args.lists.now) c.args.editors.now.items
    c.pop.new.self.items c.in-Some.editor c.in-Some.ensures.items c.requires.editors

pub start-started-requires-clause-lawful : goal.start-started-requires-clause-lawful
start-started-requires-clause-lawful g t c κs within =
    let mail = c.args.mail.now in
    let lists = lists_in c.args.lists.now in
    let all = c.args.editors.now.items in
    let front = c.pop.new.self.items in
    let last = c.in-Some.editor in
    let is = c.in-Some.ensures.items in
    let are = c.requires.editors in
    subst (All (IsLawfulEvent mail.settings.depth))
    (sym (list-of-number c.args.lists.now c.as_slice-events.result.now c.index-lists-from.result
    c.from.result last.number c.as_slice-events.ensures.value c.index-lists-from.is
    (c.from.ensures ∙ c.number-number.ensures)
    (last-within mail lists all front last is are)))
    (last-lawful mail lists all front last is are)

pub finish-one-requires-clause-lawful : goal.finish-one-requires-clause-lawful
finish-one-requires-clause-lawful g t c =
    let mail = c.args.mail.now in
    let lists = lists_in c.args.lists.now in
    let all = c.args.editors.now.items in
    let front = c.pop.new.self.items in
    let last = c.in-Some.editor in
    let is = c.in-Some.ensures.items in
    let are = c.requires.editors in
    subst (All (IsLawfulEvent mail.settings.depth))
    (sym (list-of-number c.args.lists.now c.as_slice-events.result.now c.index-lists-from.result
    c.from.result last.number c.as_slice-events.ensures.value c.index-lists-from.is
    (c.from.ensures ∙ c.number-number.ensures)
    (last-within mail lists all front last is are)))
    (last-lawful mail lists all front last is are)

pub write_all-requires-clause-editors : goal.write_all-requires-clause-editors
write_all-requires-clause-editors g t c κs within =
    front-to-send c.args.mail.now (lists_in c.args.lists.now) c.args.editors.now.items
    c.pop.new.self.items c.in-Some.editor c.in-Some.ensures.items c.requires.editors

pub returns-clause-ended : goal.returns-clause-ended
returns-clause-ended g t c =
    let mail = c.args.mail.now in
    let lists = lists_in c.args.lists.now in
    let all = c.args.editors.now.items in
    let front = c.pop.new.self.items in
    let last = c.in-Some.editor in
    let is = c.in-Some.ensures.items in
    let are = c.requires.editors in
    let number = c.number-number.ensures in
    let list = list-of-number c.args.lists.now c.as_slice-events.result.now
    c.index-lists-from.result c.from.result last.number c.as_slice-events.ensures.value
    c.index-lists-from.is (c.from.ensures ∙ number)
    (last-within mail lists all front last is are) in
    let place = last-number mail lists all front last is are in
    let pushed : c.push.new.self.items ≡ c.write_all.new.ended.items ++ c.match-started.one ∷ [] =
    search rules in
    let sent : IsWhole mail last.number c.as_slice-events.result.now c.match-started.one =
    elim c.match-started.branch [
      | in-Ok w ↦
          let done = w.finish-one.ensures in
          subst (IsWhole mail last.number c.as_slice-events.result.now) (sym w.one-is)
          (done.ended, done.number ∙ number, done.whole)
      | in-Err w ↦
          subst (IsWhole mail last.number c.as_slice-events.result.now) (sym w.one-is)
          w.in-Err.ensures.ended
    ] in
    sent-more mail lists (vec_len c.pop.new.self) (vec_len c.args.editors.now)
    c.write_all.new.ended.items c.push.new.self.items c.match-started.one
    c.write_all.ensures.ended pushed
    (record {
      ended_of = sent.0;
      whole = sent.2 ∙ list ∙ ap (list_of lists) (sym sent.1);
    })
    (omega (arith, sent.1, place, c.pop.new.self.ok.0)) (omega (arith, c.in-Some.ensures.cases))

pub returns-clause-desk : goal.returns-clause-desk
returns-clause-desk g t c =
    let mail = c.args.mail.now in
    elim c.match-started.branch [
      | in-Ok w ↦
          subst (λ desk. IsDesk g.T.Reader.depth mail desk.clerk desk.reader) (sym w.desk-is)
          w.finish-one.ensures.desk
      | in-Err w ↦
          subst (λ desk. IsDesk g.T.Reader.depth mail desk.clerk desk.reader) (sym w.desk-is)
          c.write_all.ensures.desk
    ]

pub returns-clause-read : goal.returns-clause-read
returns-clause-read g t c = λ first has.
    let before = c.write_all.ensures.read first (c.start-started.ensures.read first has) in
    elim c.match-started.branch [
      | in-Ok w ↦
          subst (λ desk. HasReadAll g.T.Reader.has_read first desk.clerk desk.reader)
          (sym w.desk-is) (w.finish-one.ensures.read first before)
      | in-Err w ↦
          subst (λ desk. HasReadAll g.T.Reader.has_read first desk.clerk desk.reader)
          (sym w.desk-is) before
    ]

pub finish-one-requires-clause-sent : goal.finish-one-requires-clause-sent
finish-one-requires-clause-sent g t c =
    subst (λ n. IsSent c.args.mail.now n c.as_slice-events.result.now c.join.result)
    (sym c.number-number.ensures)
    (subst (λ p. IsSent p.mail.now p.number p.events.now c.join.result) c.in-Ok.ensures.started
    c.join.ensures)
