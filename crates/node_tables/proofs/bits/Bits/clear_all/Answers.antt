-- No bit and no mark is set.
use Rattle.std.proofs.Common.{◌∙◌, ap, length}
use Rattle.std.specs.Prelude.{ℕ}
use Rattle.std.proofs.lemmas.List.{length-replicate}
use Rattle.node_tables.proofs.MarkLemmas.{IsMarked-none, IsMarked-written}
use Rattle.node_tables.proofs.WordLemmas.{has_bit-zeros}
use Rattle.node_tables.proofs.bits.Bits.clear_all.Goals as goal

pub invariant_of-self : goal.invariant_of-self
invariant_of-self c =
    let zeros = c.fill.ensures.items (λ y same. same) in
    IsMarked-written c.empty_marked.new.words c.self.inside.words.items c.fill.new.self.items
    c.self.inside.words.len (c.empty_marked.auto.words ∙ c.deref_mut.ensures.len)
    (IsMarked-none c.self.inside.words.items c.self.inside.marks.items c.empty_marked.new.words
    c.fill.new.self.items c.self.invariant
    (c.empty_marked.auto.words ∙ ap length c.deref_mut.ensures.value)
    (ap length zeros ∙ length-replicate {A = ℕ} _ 0 ∙ c.self.inside.marks.ok.0)
    c.empty_marked.ensures (has_bit-zeros c.fill.new.self.items _ zeros))
