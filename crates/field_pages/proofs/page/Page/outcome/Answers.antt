-- A page that keeps one sample alone has it at each point of the part.
use Rattle.std.proofs.Common.{sym, subst, ◌≡◌, ◌∙◌, to_z, of_z, w8}
use Rattle.std.proofs.lemmas.Int.{to_z-of_z}
use Rattle.std.proofs.lemmas.Option.{IfSome_then}
use Rattle.terrain.specs.Samples.{IsSample}
use Rattle.field_pages.specs.Changes.{Makes}
use Rattle.field_pages.specs.Places.{page_at}
use Rattle.field_pages.proofs.PlacesLemmas.{last_within}
use Rattle.field_pages.proofs.page.Page.outcome.Goals as goal

pub outcome-requires-clause-sample : goal.outcome-requires-clause-sample
outcome-requires-clause-sample g c =
    let part = c.args.part in
    let here = c.requires.not_empty in
    let hi_in = c.requires.in_page part.hi (last_within part here) in
    let told = to_z-of_z w8 c.first.result (record { sfits = c.first.type_inv }) in
    let is : page_at c.args.self.now part.lo ≡ to_z w8 (of_z w8 c.first.result) =
    c.has_one_sample_in.ensures c.if-has_one_sample_in.true c.args.corner part.lo c.requires.corner
    hi_in (c.requires.in_page part.lo here) here ∙ sym c.first.ensures ∙ sym told in
    subst IsSample is (c.requires.samples part.lo (c.requires.in_page part.lo here))

pub returns-then-has_one_sample_in-clause-even : goal.returns-then-has_one_sample_in-clause-even
returns-then-has_one_sample_in-clause-even g c =
    let part = c.args.part in
    let hi_in = c.requires.in_page part.hi (last_within part c.requires.not_empty) in
    IfSome_then c.outcome.result c.outcome.ensures (λ new makes p within.
    c.has_one_sample_in.ensures c.if-has_one_sample_in.true c.args.corner p c.requires.corner
    hi_in (c.requires.in_page p within) within)

pub returns-then-has_one_sample_in-clause-makes : goal.returns-then-has_one_sample_in-clause-makes
returns-then-has_one_sample_in-clause-makes g c =
    let part = c.args.part in
    let hi_in = c.requires.in_page part.hi (last_within part c.requires.not_empty) in
    let told = to_z-of_z w8 c.first.result (record { sfits = c.first.type_inv }) in
    IfSome_then c.outcome.result c.outcome.ensures (λ new makes p within.
    subst (λ s. Makes (g.R.Rule.gives c.args.rule.now) p s new)
    (told ∙ c.first.ensures
    ∙ sym (c.has_one_sample_in.ensures c.if-has_one_sample_in.true c.args.corner p
    c.requires.corner hi_in (c.requires.in_page p within) within)) (makes p within))
