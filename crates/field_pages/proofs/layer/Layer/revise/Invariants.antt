-- The pages before a number are revised, and the others are left.
use Rattle.std.proofs.Common.{unwrap_or, []}
use Rattle.field_pages.specs.Changes.{Makes}
use Rattle.field_pages.proofs.ArePartsRevised.{ArePartsRevised}
use Rattle.field_pages.proofs.KeptLemmas.{ArePagesKept}
use Rattle.field_pages.proofs.LayerAtLemmas.{IsRevisedPage}
use Rattle.field_pages.proofs.layer.Layer.revise.Given as goal

-- the pages before this one have what the rule gives, those of them that changed are kept, and the others are as they
-- were
abbrev pub invariant-loop-number : goal.invariant-loop-number
invariant-loop-number g l = record {
  parts :
      ArePartsRevised (IsRevisedPage l.region (Makes (g.R.Rule.gives l.rule)) l.across l.z l.self)
      [] l.number l.self (unwrap_or l.revised l.self);
  kept : ArePagesKept l.number l.self (unwrap_or l.revised l.self) l.kept.items;
}
