-- All editors have ended, and the mail is closed.
use Rattle.std.proofs.Common.{All, Global, List, Vec, arith, map, sym, ◌∙◌, subst}
use Rattle.terrain.specs.History.{IsLawfulEvent}
use Rattle.terrain.specs.declared.event.Event.{Event}
use Rattle.editors.specs.Beside.{HaveSentLists}
use Rattle.editors.proofs.BesideLemmas.{all-lists, journal-read, lists-length, owners-are, read-none, sent-ended}
use Rattle.editors.proofs.beside.write_beside.Goals as goal

-- the lists, of vectors
abbrev lists_in : List (Vec Event Global) → List (List Event)
lists_in vectors = map (λ list. list.items) vectors

pub write_in_threads-desk-requires-clause-editors :
    goal.write_in_threads-desk-requires-clause-editors
write_in_threads-desk-requires-clause-editors g c κs within =
    let made = c.in-Ok.ensures in
    let vectors = c.args.lists.now in record {
      each = made.editors;
      numbers = made.numbers;
      new = made.new;
      enough =
          omega (
            arith,
            made.all,
            lists-length (λ list. list.items) vectors,
            c.in-Ok.editors.ok.0,
            c.requires.few,
          );
      lawful =
          all-lists (All (IsLawfulEvent c.in-Ok.mail.settings.depth)) (λ list. list.items) vectors
          (subst (λ settings. All (λ (list : Vec Event Global).
          All (IsLawfulEvent settings.depth) list.items) vectors) (sym made.settings)
          c.requires.lawful);
    }

pub close_for_owners-owners-requires-clause-ended :
    goal.close_for_owners-owners-requires-clause-ended
close_for_owners-owners-requires-clause-ended g c =
    let done = c.write_in_threads-desk in
    sent-ended c.in-Ok.mail (lists_in c.args.lists.now) _ done.result.1.items done.ensures.ended

pub returns-clause-owners : goal.returns-clause-owners
returns-clause-owners g c =
    let done = c.write_in_threads-desk in
    let closed = c.close_for_owners-owners.ensures in
    let made = c.in-Ok.ensures in
    let lists = lists_in c.args.lists.now in
    owners-are g.T.Reader.has_read c.in-Ok.mail done.result.0.clerk lists done.result.1.items _
    closed.letters.0 c.args.reader done.result.0.reader _ closed.letters.1
    (subst (λ count. HaveSentLists c.in-Ok.mail lists count done.result.1.items)
    (made.all ∙ sym made.count ∙ sym done.ensures.editors) done.ensures.ended)
    (λ n few. done.ensures.all n (omega (arith, few, done.ensures.editors)))
    (done.ensures.read c.args.reader
    (read-none g.T.Reader.has_read c.args.reader c.in-Ok.clerk made.none c.requires.nothing))
    (omega (
      arith,
      lists-length (λ (list : Vec Event Global). list.items) c.args.lists.now,
      made.count,
      done.ensures.editors,
      c.requires.few,
    )) closed.owners

pub returns-clause-read : goal.returns-clause-read
returns-clause-read g c =
    let done = c.write_in_threads-desk in
    let closed = c.close_for_owners-owners.ensures in
    let made = c.in-Ok.ensures in
    let lists = lists_in c.args.lists.now in
    journal-read g.T.Reader.has_read c.in-Ok.mail done.result.0.clerk lists done.result.1.items _
    closed.letters.0 c.args.reader done.result.0.reader _ closed.letters.1
    (subst (λ count. HaveSentLists c.in-Ok.mail lists count done.result.1.items)
    (made.all ∙ sym made.count ∙ sym done.ensures.editors) done.ensures.ended)
    (λ n few. done.ensures.all n (omega (arith, few, done.ensures.editors)))
    (done.ensures.read c.args.reader
    (read-none g.T.Reader.has_read c.args.reader c.in-Ok.clerk made.none c.requires.nothing))
    (omega (
      arith,
      lists-length (λ (list : Vec Event Global). list.items) c.args.lists.now,
      made.count,
      done.ensures.editors,
      c.requires.few,
    )) closed.owners
