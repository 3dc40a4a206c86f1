-- Each bit is made of the two sets' bits, and so is each member.
use Rattle.std.proofs.Common.{Bool, ap, sym, ◌∙◌, refl}
use Rattle.std.specs.Prelude.{◌&&◌, not}
use Rattle.node_tables.specs.NodeBits.{NodeBits, has}
use Rattle.node_tables.proofs.SetLemmas.{has-both}
use Rattle.node_tables.proofs.set.NodeSet.remove_all.Goals as goal

pub returns-clause-each : goal.returns-clause-each
returns-clause-each c n =
    let old : NodeBits = record {
      depth = c.self.inside.depth;
      words = c.self.inside.bits;
    } in
    let other : NodeBits = record {
      depth = c.other.inside.depth;
      words = c.other.inside.bits;
    } in
    let new : NodeBits = record { depth = c.self.inside.depth; words = c.remove_all.new.self } in
    let both : Bool → Bool → Bool = λ a b. a && not b in
    has-both both old new other refl refl
    (ap (λ (s : NodeBits). s.depth) c.self.view_is ∙ c.requires
    ∙ sym (ap (λ (s : NodeBits). s.depth) c.other.view_is)) c.remove_all.ensures.each n
    ∙ (λ t. both (has (c.self.view_is t) n) (has (c.other.view_is t) n))
