-- The first bit is in the first word that has one from the place on.
use Rattle.std.proofs.Common.{arith, ◌/◌}
use Rattle.node_tables.proofs.WordLemmas.{IsNext-first, IsNext-in_word, NoneBefore-all, NoneBefore-first, NoneBefore-more, has_bit-past}
use Rattle.node_tables.proofs.words.next_set.Goals as goal

pub returns-then-first-words : goal.returns-then-first-words
returns-then-first-words c p from =
    has_bit-past c.args.words.now p (omega arith)

pub returns-then-word-ne0 : goal.returns-then-word-ne0
returns-then-word-ne0 c =
    let word = c.type_inv.words (c.args.from / 64) in
    let next = IsNext-first c.args.words.now c.args.from word.fits
    (omega arith) in (next.after, next.here, next.none)

pub loop-index-init : goal.loop-index-init
loop-index-init c = NoneBefore-first c.args.words.now c.args.from (omega arith)

pub returns-then-word-ne0-2 : goal.returns-then-word-ne0-2
returns-then-word-ne0-2 c =
    let word = c.type_inv.words c.loop-index.index in
    let next = IsNext-in_word c.args.words.now c.args.from c.loop-index.index (omega arith)
    word.fits (omega arith) c.loop-index.invariant in
    (next.after, next.here, next.none)

pub loop-index-preserved : goal.loop-index-preserved
loop-index-preserved c =
    NoneBefore-more c.args.words.now c.args.from c.loop-index.index (omega arith)
    c.loop-index.invariant

pub returns : goal.returns
returns c =
    NoneBefore-all c.args.words.now c.args.from c.loop-index.index (omega arith)
    c.loop-index.invariant
