-- The marks are changed as the bits are.
use Rattle.std.proofs.Common.{◌∙◌, arith, ap, length}
use Rattle.node_tables.proofs.MarkLemmas.{IsMarked-both_written, IsMarked-or, IsMarked-read}
use Rattle.node_tables.proofs.bits.Bits.insert_all.Goals as goal

pub invariant_of-self : goal.invariant_of-self
invariant_of-self c =
    let marked = IsMarked-read c.self.inside.words.items
    c.self.inside.marks.items c.deref_mut.result.now c.deref_mut-2.result.now
    c.deref_mut.ensures.value c.deref_mut-2.ensures.value c.self.invariant in
    let other = IsMarked-read c.other.inside.words.items
    c.other.inside.marks.items c.deref.result.now c.deref-3.result.now
    c.deref.ensures.value c.deref-3.ensures.value c.other.invariant in
    IsMarked-both_written c.set_marked.new.words c.self.inside.words.items c.set_all.new.words
    c.self.inside.marks.items c.self.inside.words.len c.self.inside.marks.len
    (c.set_marked.auto.words ∙ c.deref_mut.ensures.len)
    (c.set_all.auto.words ∙ c.deref_mut-2.ensures.len)
    (IsMarked-or c.deref_mut.result.now c.deref_mut-2.result.now c.set_marked.new.words
    c.set_all.new.words
    marked c.set_marked.auto.words c.set_all.auto.words c.deref.result.now c.deref-3.result.now
    (omega (
      arith,
      ap length c.deref.ensures.value,
      ap length c.other.view_is,
      c.requires,
      ap length c.self.view_is,
      ap length c.deref_mut.ensures.value,
    )) other c.set_marked.ensures c.set_all.ensures)
