-- The marks are changed as the bits are.
use Rattle.std.proofs.Common.{◌∙◌}
use Rattle.node_tables.proofs.MarkLemmas.{IsMarked-both_written, IsMarked-and, IsMarked-read}
use Rattle.node_tables.proofs.bits.Bits.keep_all.Goals as goal

pub invariant_of-self : goal.invariant_of-self
invariant_of-self c =
    let marked = IsMarked-read c.self.inside.words.items
    c.self.inside.marks.items c.deref_mut.result.now c.deref_mut-2.result.now
    c.deref_mut.ensures.value c.deref_mut-2.ensures.value c.self.invariant in
    let other = IsMarked-read c.other.inside.words.items
    c.other.inside.marks.items c.deref.result.now c.deref-3.result.now
    c.deref.ensures.value c.deref-3.ensures.value c.other.invariant in
    IsMarked-both_written c.keep_marked.new.words c.self.inside.words.items c.keep_all.new.words
    c.self.inside.marks.items c.self.inside.words.len c.self.inside.marks.len
    (c.keep_marked.auto.words ∙ c.deref_mut.ensures.len)
    (c.keep_all.auto.words ∙ c.deref_mut-2.ensures.len)
    (IsMarked-and c.deref_mut.result.now c.deref_mut-2.result.now c.keep_marked.new.words
    c.keep_all.new.words
    marked c.keep_marked.auto.words c.keep_all.auto.words c.deref.result.now c.deref-3.result.now
    other c.keep_marked.ensures c.keep_all.ensures)
