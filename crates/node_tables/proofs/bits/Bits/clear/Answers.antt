-- The mark of the word is cleared where the word is 0.
use Rattle.std.proofs.Common.{◌/◌, ◌∙◌, arith, get_or, inl, inr, length, ap, sym}
use Rattle.std.proofs.lemmas.List.{get_or_default}
use Rattle.std.proofs.lemmas.Bool.{cases_eq}
use Rattle.node_tables.specs.NodeBits.{has_bit}
use Rattle.node_tables.proofs.MarkLemmas.{IsMarked-both_written, IsMarked-cleared, IsMarked-kept, IsMarked-read, IsMarked-written}
use Rattle.node_tables.proofs.WordLemmas.{written}
use Rattle.node_tables.proofs.bits.Bits.clear.Goals as goal

pub invariant_of-self : goal.invariant_of-self
invariant_of-self c =
    let marked = IsMarked-read c.self.inside.words.items
    c.self.inside.marks.items c.deref_mut.result.now c.deref_mut-then-index-eq0.result.now
    c.deref_mut.ensures.value c.deref_mut-then-index-eq0.ensures.value c.self.invariant in
    let word = c.args.place / 64 in
    let long = c.clear.auto.words ∙ c.deref_mut.ensures.len in
    IsMarked-both_written c.clear.new.words c.self.inside.words.items
    c.clear-then-index-eq0.new.words c.self.inside.marks.items
    c.self.inside.words.len c.self.inside.marks.len long
    (c.clear-then-index-eq0.auto.words ∙ c.deref_mut-then-index-eq0.ensures.len)
    (IsMarked-cleared c.deref_mut.result.now c.deref_mut-then-index-eq0.result.now c.clear.new.words
    c.clear-then-index-eq0.new.words marked c.clear.auto.words c.clear-then-index-eq0.auto.words
    c.args.place
    (get_or_default c.clear.new.words word 0 c.index.result.now (omega (
      arith,
      ap length c.deref_mut.ensures.value,
      ap length c.self.view_is,
      c.requires,
    ))
    ∙ sym (ap (λ ws. get_or ws word c.index.result.now)
    (written c.clear.new.words c.self.inside.words.items c.self.inside.words.len long))
    ∙ sym c.index.ensures ∙ c.if-index-eq0.true)
    c.clear-then-index-eq0.ensures.here c.clear.ensures.others
    c.clear-then-index-eq0.ensures.others)

pub invariant_of-self-else-index-eq0 : goal.invariant_of-self-else-index-eq0
invariant_of-self-else-index-eq0 c =
    IsMarked-written c.clear.new.words c.self.inside.words.items c.self.inside.marks.items
    c.self.inside.words.len (c.clear.auto.words ∙ c.deref_mut.ensures.len)
    (IsMarked-kept c.self.inside.words.items c.self.inside.marks.items c.clear.new.words
    c.self.invariant (c.clear.auto.words ∙ ap length c.deref_mut.ensures.value)
    (λ p off. elim (cases_eq p c.args.place) [
      | inl same ↦ ap (has_bit c.clear.new.words) same ∙ c.clear.ensures.here
      | inr other ↦
          c.clear.ensures.others p other
          ∙ ap (λ ws. has_bit ws p) c.deref_mut.ensures.value ∙ off
    ]))
