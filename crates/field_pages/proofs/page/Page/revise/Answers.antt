-- What a rule tells of a whole part stands for what it makes of each sample.
use Rattle.std.proofs.Common.{refl, rules, sym, subst, ◌≡◌, ◌∙◌, SFits, of_z, to_z, w8, ap, inl, inr}
use Rattle.std.proofs.lemmas.Int.{to_z-of_z}
use Rattle.field_pages.specs.Places.{IsPoint, page_at, index_in_page}
use Rattle.field_pages.specs.Changes.{Makes}
use Rattle.field_pages.proofs.EvenLemmas.{even-padding, even-sample, inside_or_past}
use Rattle.field_pages.proofs.PlacesLemmas.{point_in}
use Rattle.field_pages.proofs.page.Page.revise.Goals as goal

pub keeps-requires-clause-takes : goal.keeps-requires-clause-takes
keeps-requires-clause-takes g c p within =
    c.requires.takes p (c.part_in_page-part.ensures.of_region p within)

pub returns-then-keeps-clause-changes : goal.returns-then-keeps-clause-changes
returns-then-keeps-clause-changes g c = record {
  changed = λ p p_in within.
      let is_sample = c.requires.samples p p_in in
      record {
        given = c.keeps.ensures c.if-keeps.true p (page_at c.args.self.now p)
            (c.part_in_page-part.ensures.all p within p_in) is_sample;
        is_sample = is_sample;
      };
  kept = λ p p_in off. refl;
}

pub outcome-requires-clause-takes : goal.outcome-requires-clause-takes
outcome-requires-clause-takes g c p within =
    c.requires.takes p (c.part_in_page-part.ensures.of_region p within)

-- past the world's end there is no point of the region
pub rewrite-requires-clause-padding : goal.rewrite-requires-clause-padding
rewrite-requires-clause-padding g c p p_in past =
    let off = λ (point : IsPoint c.args.across p).
    past ((c.of-extent.ensures.points p p_in).1 point) in (
      c.requires.padding p p_in off,
      (λ within. off (point_in c.args.across p c.args.region within c.requires.region_end)),
    )

pub returns-in-Some-clause-changes : goal.returns-in-Some-clause-changes
returns-in-Some-clause-changes g c = record {
  changed = λ p p_in within.
      let here = c.part_in_page-part.ensures.all p within p_in in
      let first_is : c.in-Some.sample ≡ c.first.result =
      sym (to_z-of_z w8 c.in-Some.sample (search rules)) ∙ ap (to_z w8) c.if-sample-first.true
      ∙ to_z-of_z w8 c.first.result (record { sfits = c.first.type_inv }) in
      subst (Makes (g.R.Rule.gives c.args.rule.now) p (page_at c.args.self.now p))
      (first_is ∙ c.first.ensures ∙ sym (c.in-Some.ensures.even p here))
      (c.in-Some.ensures.makes p here);
  kept = λ p p_in off. refl;
}

-- the new page has the one sample at points of the world, and past its end nothing changes
pub returns-in-Some-2-clause-changes : goal.returns-in-Some-2-clause-changes
returns-in-Some-2-clause-changes g c =
    let fits : SFits w8 c.in-Some.sample = search rules in
    record {
      changed = λ p p_in within.
          let inside = (c.of-extent.ensures.points p p_in).1
          (point_in c.args.across p c.args.region within c.requires.region_end) in
          subst (Makes (g.R.Rule.gives c.args.rule.now) p (page_at c.args.self.now p))
          (sym (even-sample _ c.even.result p (sym c.even.ensures) inside
          ∙ to_z-of_z w8 c.in-Some.sample fits))
          (c.in-Some.ensures.makes p (c.part_in_page-part.ensures.all p within p_in));
      kept = λ p p_in off. elim (inside_or_past c.of-extent.result (index_in_page p)) [
        | inl inside ↦
            absurd (off (c.part_in_page-part.ensures.of_region p
            (c.is_whole_page.ensures c.if-is_whole_page.true p p_in inside)))
        | inr past ↦
            even-padding _ c.even.result p (sym c.even.ensures) past
            ∙ sym (c.requires.padding p p_in
            (λ point. past ((c.of-extent.ensures.points p p_in).1 point)))
      ];
    }

-- a page of another sample is another page
pub returns-in-Some-2-clause-differs : goal.returns-in-Some-2-clause-differs
returns-in-Some-2-clause-differs g c = λ same.
    let p = c.part_in_page-part.result.lo in
    let here = c.part_in_page-part.ensures.not_empty in
    let p_in = c.part_in_page-part.ensures.in_page p here in
    let within = c.part_in_page-part.ensures.of_region p here in
    let inside = (c.of-extent.ensures.points p p_in).1
    (point_in c.args.across p c.args.region within c.requires.region_end) in
    let fits : SFits w8 c.in-Some.sample = search rules in
    let now : page_at c.even.result p ≡ c.in-Some.sample =
    even-sample _ c.even.result p (sym c.even.ensures) inside
    ∙ to_z-of_z w8 c.in-Some.sample fits in
    c.if-sample-first.false
    (ap (of_z w8) (sym now ∙ ap (λ l. page_at l p) same
    ∙ c.in-Some.ensures.even p here ∙ sym c.first.ensures))
