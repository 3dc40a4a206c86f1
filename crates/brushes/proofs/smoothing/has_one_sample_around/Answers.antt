-- Each neighbour of a point lies in its page or in the next one.
use Rattle.std.proofs.Common.{◌≡◌, ◌+◌, ℕ, ℤ, min, true, ap, refl, sym, subst, ◌∙◌, rules, w8, to_z, of_z}
use Rattle.lattice.specs.Settings.{world_side}
use Rattle.field_pages.specs.declared.page.TheConstants.{SIDE}
use Rattle.brushes.proofs.EvenLemmas.{IsAll, smoothed-even}
use Rattle.brushes.proofs.smoothing.has_one_sample_around.Goals as goal
use Rattle.brushes.proofs.smoothing.has_one_sample_around.Goals.{then-has_alone, else-has_alone, then-have_sample, else-have_sample}

pub returns-then-have_sample-2 : goal.returns-then-have_sample-2
returns-then-have_sample-2 c told q q_in same =
    let pages = c.args.version.now in
    let p = c.args.p in
    let s : ℤ = to_z w8 (of_z w8 c.sample-sample.result) in
    elim c.if-have_sample.branch [
      | then-have_sample w ↦ elim c.if-has_alone.branch [
        | then-has_alone v ↦
            let own = c.has_alone.ensures.0 v.if-has_alone.true in
            let x_told : v.have_sample.result ≡ true = sym v.value-is ∙ w.if-have_sample.true in
            let y_told : w.have_sample-then-have_sample.result ≡ true =
            sym w.value-is ∙ c.if-have_sample-2.true in
            let x = v.have_sample.ensures in
            let y = w.have_sample-then-have_sample.ensures in
            let z = c.have_sample-then-have_sample-2.ensures in
            let up : ℕ → ℕ = λ k. min (k + SIDE) (world_side pages.depth) in
            own p (record { z = refl; y = refl; x = refl })
            ∙ smoothed-even pages p q s c.requires.p q_in same own
            (subst (λ k. IsAll pages s (record p { x = k })) c.saturating_sub-3.ensures
            (x.first x_told))
            (subst (λ k. IsAll pages s (record p { x = k }))
            (c.min-3.ensures ∙ ap (min (p.x + SIDE)) c.requires.side) (x.second x_told))
            (subst (λ k. IsAll pages s (record p { y = k })) c.saturating_sub-2.ensures
            (y.first y_told))
            (subst (λ k. IsAll pages s (record p { y = k }))
            (c.min-2.ensures ∙ ap (min (p.y + SIDE)) c.requires.side) (y.second y_told))
            (subst (λ k. IsAll pages s (record p { z = k })) c.saturating_sub.ensures
            (z.first told))
            (subst (λ k. IsAll pages s (record p { z = k }))
            (c.min.ensures ∙ ap (min (p.z + SIDE)) c.requires.side) (z.second told))
        | else-has_alone v ↦ search rules
      ]
      | else-have_sample w ↦ search rules
    ]
