-- The bit and the mark of its word are set.
use Rattle.std.proofs.Common.{◌∙◌, ap, length, arith}
use Rattle.node_tables.proofs.MarkLemmas.{IsMarked-both_written, IsMarked-read, IsMarked-set}
use Rattle.node_tables.proofs.bits.Bits.set.Goals as goal

pub invariant_of-self : goal.invariant_of-self
invariant_of-self c =
    let marked = IsMarked-read c.self.inside.words.items
    c.self.inside.marks.items c.deref_mut.result.now c.deref_mut-2.result.now
    c.deref_mut.ensures.value c.deref_mut-2.ensures.value c.self.invariant in
    IsMarked-both_written c.set.new.words c.self.inside.words.items c.set-2.new.words
    c.self.inside.marks.items c.self.inside.words.len c.self.inside.marks.len
    (c.set.auto.words ∙ c.deref_mut.ensures.len) (c.set-2.auto.words ∙ c.deref_mut-2.ensures.len)
    (IsMarked-set c.deref_mut.result.now c.deref_mut-2.result.now c.set.new.words c.set-2.new.words
    marked c.set.auto.words c.set-2.auto.words c.args.place
    (omega (arith, ap length c.deref_mut.ensures.value, ap length c.self.view_is, c.requires))
    c.set-2.ensures.here c.set.ensures.others c.set-2.ensures.others)
