-- A page more is revised or left, and in the end all pages are.
use Rattle.std.proofs.Common.{◌≡◌, ◌≢◌, ◌+◌, ◌*◌, ◌<◌, [], ◌∷◌, ◌++◌, arith, ap, ◌∙◌, sym, subst, refl, IfSome, get_or, length, set, unwrap_or}
use Rattle.std.proofs.lemmas.Bool.{iff_false}
use Rattle.terrain.specs.Samples.{IsSample}
use Rattle.field_pages.specs.Places.{IsInPage, MeetsPage, page_at, page_number}
use Rattle.field_pages.specs.Changes.{Makes}
use Rattle.field_pages.proofs.ArePartsRevised.{ArePartsRevised, ArePartsRevised-all, ArePartsRevised-left, ArePartsRevised-set, ArePartsRevised-start}
use Rattle.field_pages.proofs.ChangesLemmas.{Changes-none}
use Rattle.field_pages.proofs.KeptLemmas.{ArePagesKept, ArePagesKept-left, ArePagesKept-push, ArePagesKept-start}
use Rattle.field_pages.proofs.LayerAtLemmas.{Changes-layer, IsRevisedPage, IsRevisedPage-at}
use Rattle.field_pages.proofs.OptionLemmas.{unwrap_or-none}
use Rattle.field_pages.proofs.PlacesLemmas.{corner_of, in_layer, no_points, page_number_is, page_number_within}
use Rattle.field_pages.proofs.layer.Layer.revise.Goals as goal
use Rattle.field_pages.proofs.layer.Layer.revise.Goals.{in-Some+in_ok-old+in_ok-push+in_ok-put, in-Some-revised, in-None+in_ok-layer-in-None, in_default}

pub loop-number-init : goal.loop-number-init
loop-number-init g c =
    let gives = Makes (g.R.Rule.gives c.args.rule.now) in
    let old = c.args.self.now in
    let across = c.args.across in
    record {
      parts =
          ArePartsRevised-start (IsRevisedPage c.args.region gives across c.args.z old) []
          c.page_number-number.result old old refl
          (λ n before. Changes-none c.args.region gives (IsInPage (corner_of across c.args.z n))
          (page_at (get_or old n [])) (λ p p_in within.
          let n_in =
          page_number_within across c.args.z n c.args.region p c.requires.region p_in within in
          omega (arith, n_in.0, before, c.page_number-number.ensures.value)));
      kept = ArePagesKept-start c.page_number-number.result old c.args.kept.now.items
          c.requires.empty;
    }

pub loop-number-preserved-then-not-meets : goal.loop-number-preserved-then-not-meets
loop-number-preserved-then-not-meets g c =
    let gives = Makes (g.R.Rule.gives c.args.rule.now) in
    let old = c.args.self.now in
    let across = c.args.across in
    let k = c.loop-number.number in
    let corner_is = c.page_corner-corner.ensures in
    let apart : MeetsPage c.page_corner-corner.result c.args.region → ⊥ =
    iff_false c.meets.ensures c.if-not-meets.true in
    record {
      parts =
          ArePartsRevised-left (IsRevisedPage c.args.region gives across c.args.z old) [] k old
          (unwrap_or c.loop-number.revised old)
          (Changes-none c.args.region gives (IsInPage (corner_of across c.args.z k))
          (page_at (get_or old k [])) (λ p p_in within.
          no_points c.page_corner-corner.result c.args.region apart p
          (subst (λ q. IsInPage q p) (sym corner_is) p_in) within))
          c.loop-number.invariant.parts;
      kept = ArePagesKept-left k old (unwrap_or c.loop-number.revised old)
          c.loop-number.kept.items c.loop-number.invariant.kept;
    }

pub revise-requires-clause-meets : goal.revise-requires-clause-meets
revise-requires-clause-meets g c = c.meets.ensures.0 c.if-not-meets.false

pub revise-requires-clause-samples : goal.revise-requires-clause-samples
revise-requires-clause-samples g c p p_in =
    let across = c.args.across in
    let k = c.loop-number.number in
    let p_page : IsInPage (corner_of across c.args.z k) p =
    subst (λ q. IsInPage q p) c.page_corner-corner.ensures p_in in
    let k_in : k < across * across = omega (
      arith,
      c.page_number-number-end.ensures.within,
      c.loop-number-test.true,
      c.loop-number.auto.number-end,
    ) in
    let here = in_layer across c.args.z k p k_in p_page in
    let k_is = page_number_is across c.args.z k p here.y_end p_page in
    let page_is : c.page-before.result.now ≡ get_or c.args.self.now (page_number across p) [] =
    c.page-before.ensures ∙ ap (λ l. get_or l k []) c.self.view_is
    ∙ ap (λ n. get_or c.args.self.now n []) (sym k_is) in
    subst IsSample (ap (λ l. page_at l p) (sym page_is)) (c.requires.samples p here)

pub revise-requires-clause-padding : goal.revise-requires-clause-padding
revise-requires-clause-padding g c p p_in past =
    let across = c.args.across in
    let k = c.loop-number.number in
    let p_page : IsInPage (corner_of across c.args.z k) p =
    subst (λ q. IsInPage q p) c.page_corner-corner.ensures p_in in
    let k_in : k < across * across = omega (
      arith,
      c.page_number-number-end.ensures.within,
      c.loop-number-test.true,
      c.loop-number.auto.number-end,
    ) in
    let here = in_layer across c.args.z k p k_in p_page in
    let k_is = page_number_is across c.args.z k p here.y_end p_page in
    let page_is : c.page-before.result.now ≡ get_or c.args.self.now (page_number across p) [] =
    c.page-before.ensures ∙ ap (λ l. get_or l k []) c.self.view_is
    ∙ ap (λ n. get_or c.args.self.now n []) (sym k_is) in
    ap (λ l. page_at l p) page_is ∙ c.requires.padding p here past

pub loop-number-preserved : goal.loop-number-preserved
loop-number-preserved g c =
    let gives = Makes (g.R.Rule.gives c.args.rule.now) in
    let old = c.args.self.now in
    let across = c.args.across in
    let k = c.loop-number.number in
    let revised = unwrap_or c.loop-number.revised old in
    let IsRevised = IsRevisedPage c.args.region gives across c.args.z old in
    let k_in : k < length old = omega (
      arith,
      c.page_number-number-end.ensures.within,
      c.loop-number-test.true,
      c.loop-number.auto.number-end,
      c.requires.pages,
    ) in
    let before_is : get_or old k [] ≡ c.page-before.result.now =
    sym (c.page-before.ensures ∙ ap (λ l. get_or l k []) c.self.view_is) in
    let here : IsRevised k (unwrap_or c.in_ok-page.field-0 c.page-before.result.now) =
    IsRevisedPage-at c.args.region gives across c.args.z old k c.page_corner-corner.result
    c.page-before.result.now (unwrap_or c.in_ok-page.field-0 c.page-before.result.now)
    c.page_corner-corner.ensures before_is c.in_ok-page.ensures.changes in
    let so_far = c.loop-number.invariant in
    elim c.match-branch-2.branch [
      | in-Some+in_ok-old+in_ok-push+in_ok-put w ↦
          let begun : w.match-revised-2.layer ≡ revised =
          elim w.match-revised-2.branch [
            | in-Some-revised w' ↦
                w'.layer-is ∙ sym (ap (λ r. unwrap_or r old) w'.in-Some-revised.is)
            | in-None+in_ok-layer-in-None w' ↦
                w'.layer-is ∙ w'.in_ok-layer-in-None.ensures
                ∙ sym (ap (λ r. unwrap_or r old) w'.in-None.is)
          ] in
          let set_is : w.put.new.self ≡ set revised k w.in-Some.page =
          w.in_ok-put.ensures ∙ ap (λ l. set l k w.in-Some.page) begun in
          let page_is = ap (λ o. unwrap_or o c.page-before.result.now) w.in-Some.is in
          let kept_is : w.push.new.self.items ≡ c.loop-number.kept.items ++ w.new.result ∷ [] =
          w.in_ok-push.ensures.items in
          let differs : w.in-Some.page ≢ c.page-before.result.now =
          subst (λ o. IfSome o (λ new. new ≢ c.page-before.result.now)) w.in-Some.is
          c.in_ok-page.ensures.differs in
          let number : w.new.result.number ≡ k = ap (λ p. p.number) w.new.ensures in
          let samples : w.new.result.samples ≡ get_or old k [] =
          ap (λ p. p.samples) w.new.ensures ∙ w.in_ok-old.ensures ∙ sym before_is in
          let parts = subst (ArePartsRevised IsRevised [] (k + 1) old) (sym set_is)
          (ArePartsRevised-set IsRevised [] k old revised w.in-Some.page
          k_in (subst (IsRevised k) page_is here) so_far.parts) in
          let kept = subst (λ l. ArePagesKept (k + 1) old l w.push.new.self.items) (sym set_is)
          (subst (ArePagesKept (k + 1) old (set revised k w.in-Some.page)) (sym kept_is)
          (ArePagesKept-push k old revised c.loop-number.kept.items w.new.result w.in-Some.page
          k_in so_far.parts.long number samples
          (λ same. differs (sym same ∙ samples ∙ before_is)) so_far.kept)) in
          record {
            parts = subst (λ r. ArePartsRevised IsRevised [] (k + 1) old (unwrap_or r old))
                (sym w.revised-is) parts;
            kept = subst (λ r. ArePagesKept (k + 1) old (unwrap_or r old)
                c.match-branch-2.kept.items) (sym w.revised-is)
                (subst (λ v. ArePagesKept (k + 1) old w.put.new.self v.items) (sym w.kept-is)
                kept);
          }
      | in_default w ↦
          let none =
          unwrap_or-none c.in_ok-page.field-0 c.page-before.result.now w.in_default.not-Some in
          record {
            parts = subst (λ r. ArePartsRevised IsRevised [] (k + 1) old (unwrap_or r old))
                (sym w.revised-is)
                (ArePartsRevised-left IsRevised [] k old revised
                (subst (IsRevised k) (none ∙ sym before_is) here) so_far.parts);
            kept = subst (λ r. ArePagesKept (k + 1) old (unwrap_or r old)
                c.match-branch-2.kept.items) (sym w.revised-is)
                (subst (λ v. ArePagesKept (k + 1) old revised v.items) (sym w.kept-is)
                (ArePagesKept-left k old revised c.loop-number.kept.items so_far.kept));
          }
    ]

pub returns-clause-changes : goal.returns-clause-changes
returns-clause-changes g c =
    let gives = Makes (g.R.Rule.gives c.args.rule.now) in
    let old = c.args.self.now in
    let across = c.args.across in
    let end_is = c.page_number-number-end.ensures.value in
    Changes-layer c.args.region gives across c.args.z old (unwrap_or c.loop-number.revised old)
    (ArePartsRevised-all (IsRevisedPage c.args.region gives across c.args.z old) []
    c.loop-number.number old (unwrap_or c.loop-number.revised old)
    (λ n past. Changes-none c.args.region gives (IsInPage (corner_of across c.args.z n))
    (page_at (get_or old n [])) (λ p p_in within.
    let n_in = page_number_within across c.args.z n c.args.region p c.requires.region p_in within in
    omega (arith, n_in.1, past, end_is, c.loop-number-test.false, c.loop-number.auto.number-end)))
    c.loop-number.invariant.parts)

pub returns-clause-kept : goal.returns-clause-kept
returns-clause-kept g c =
    let kept = c.loop-number.invariant.kept in
    kept.changed
