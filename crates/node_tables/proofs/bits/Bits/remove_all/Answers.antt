-- Bits are cleared, and their marks kept.
use Rattle.std.proofs.Common.{◌∙◌, ap, length}
use Rattle.std.specs.Prelude.{◌&&◌, not}
use Rattle.node_tables.specs.NodeBits.{has_bit}
use Rattle.node_tables.proofs.MarkLemmas.{IsMarked-kept, IsMarked-written}
use Rattle.node_tables.proofs.bits.Bits.remove_all.Goals as goal

pub invariant_of-self : goal.invariant_of-self
invariant_of-self c =
    IsMarked-written c.clear_marked.new.words c.self.inside.words.items c.self.inside.marks.items
    c.self.inside.words.len (c.clear_marked.auto.words ∙ c.deref_mut.ensures.len)
    (IsMarked-kept c.self.inside.words.items c.self.inside.marks.items c.clear_marked.new.words
    c.self.invariant (c.clear_marked.auto.words ∙ ap length c.deref_mut.ensures.value)
    (λ p off. c.clear_marked.ensures p
    ∙ ap (λ b. b && not (has_bit c.deref.result.now p))
    (ap (λ ws. has_bit ws p) c.deref_mut.ensures.value ∙ off)))
