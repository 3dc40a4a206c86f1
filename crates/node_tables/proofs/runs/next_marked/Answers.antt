-- The first bit is in the first word that has one from the place on, and such a word is marked.
use Rattle.std.proofs.Common.{arith, ◌/◌}
use Rattle.node_tables.proofs.RunLemmas.{NoneBefore-marked, NoneBefore-unmarked}
use Rattle.node_tables.proofs.WordLemmas.{IsNext-first, IsNext-in_word, NoneBefore-first, NoneBefore-more, has_bit-past}
use Rattle.node_tables.proofs.runs.next_marked.Goals as goal

pub returns-then-first-words : goal.returns-then-first-words
returns-then-first-words c p from =
    has_bit-past c.args.words.now p (omega arith)

pub returns-then-word-ne0 : goal.returns-then-word-ne0
returns-then-word-ne0 c =
    let word = c.type_inv.words (c.args.from / 64) in
    let next = IsNext-first c.args.words.now c.args.from word.fits
    (omega arith) in (next.after, next.here, next.none)

pub loop-index-init : goal.loop-index-init
loop-index-init c = record {
  from = omega arith;
  most = omega arith;
  none = NoneBefore-first c.args.words.now c.args.from (omega arith);
}

pub returns-then-word-ne0-2 : goal.returns-then-word-ne0-2
returns-then-word-ne0-2 c =
    let word = c.type_inv.words c.in-Some.index in
    let none = NoneBefore-marked c.args.words.now c.args.marks.now c.args.from
    c.loop-index.next c.in-Some.index c.requires c.in-Some.ensures.2 c.loop-index.invariant.none in
    let next = IsNext-in_word c.args.words.now c.args.from c.in-Some.index (omega arith)
    word.fits (omega (arith, c.in-Some.ensures.0)) none in
    (next.after, next.here, next.none)

pub loop-index-smaller : goal.loop-index-smaller
loop-index-smaller c =
    omega (
      arith,
      c.in-Some.ensures.0,
      c.requires.spare c.in-Some.index c.in-Some.ensures.1,
    )

pub loop-index-preserved : goal.loop-index-preserved
loop-index-preserved c =
    let none = NoneBefore-marked c.args.words.now c.args.marks.now c.args.from
    c.loop-index.next c.in-Some.index c.requires c.in-Some.ensures.2 c.loop-index.invariant.none in
    record {
      from = omega (arith, c.in-Some.ensures.0);
      most = omega (arith, c.requires.spare c.in-Some.index c.in-Some.ensures.1);
      none = NoneBefore-more c.args.words.now c.args.from c.in-Some.index (omega arith) none;
    }

pub returns : goal.returns
returns c =
    NoneBefore-unmarked c.args.words.now c.args.marks.now c.args.from c.loop-index.next c.requires
    c.in_default.ensures c.loop-index.invariant.none
