-- The layers before a number are revised, and the others are left.
use Rattle.std.proofs.Common.{[]}
use Rattle.field_pages.specs.Changes.{Makes}
use Rattle.field_pages.proofs.ArePartsRevised.{ArePartsRevised}
use Rattle.field_pages.proofs.KeptLemmas.{AreLayersKept}
use Rattle.field_pages.proofs.SampleAtLemmas.{IsRevisedLayer}
use Rattle.field_pages.proofs.version.Version.revise_kept.Given as goal

-- the layers before this one have what the rule gives, those of their pages that changed are kept, and the others are
-- as they were
abbrev pub invariant-loop-number : goal.invariant-loop-number
invariant-loop-number g l = record {
  parts :
      ArePartsRevised
      (IsRevisedLayer l.region (Makes (g.R.Rule.gives l.rule)) l.across l.self.layers)
      [] l.number l.self.layers l.layers;
  kept : AreLayersKept l.number l.self.layers l.layers l.olds.items;
}
