-- Smoothing leaves a page as it is where the page and those next to it on each axis have one sample alone.
-- Each neighbour of a point lies in its page or in the next one along an axis (low_page, high_page), so it has the
-- same sample (smoothed-even), and an eighth of eight times a sample is the sample (eighth-even).
use Rattle.std.proofs.Common.{◌≡◌, ℕ, ◌+◌, ◌-◌, ◌*◌, ◌/◌, ◌^◌, ◌≤◌, ◌+ℤ◌, ◌*ℤ◌, ◌⊎◌, ℤ, pos, negsuc, min, ap, inl, inr, sym, ◌∙◌, arith}
use Rattle.std.proofs.lemmas.Bool.{cases_lt}
use Rattle.std.proofs.lemmas.Int.{ints}
use Rattle.std.specs.Int.{int_div_euclid}
use Rattle.lattice.specs.declared.point.Point.{Point}
use Rattle.lattice.specs.Point.{IsInWorld}
use Rattle.lattice.specs.Settings.{world_side}
use Rattle.terrain.specs.Brushes.{smoothed}
use Rattle.field_pages.specs.declared.page.TheConstants.{SIDE}
use Rattle.field_pages.specs.Pages.{Pages, sample_at}
use Rattle.field_pages.specs.Places.{IsInSamePage}
use Rattle.brushes.proofs.SmoothingLemmas.{both, same_eighth}

-- the coordinate below one lies in its page, or in the one below
low_page : (c d : ℕ) → d / SIDE ≡ c / SIDE
    → ((d - 1) / SIDE ≡ c / SIDE) ⊎ ((d - 1) / SIDE ≡ (c - SIDE) / SIDE)
low_page c d same =
    elim (cases_lt (d - 1) (SIDE * (c / SIDE))) [
      | inl before ↦ inr (omega (arith, before, same))
      | inr within ↦ inl (omega (arith, within, same))
    ]

-- the coordinate above one lies in its page, or in the one above
high_page : (c d across : ℕ) → c ≤ SIDE * across → d ≤ SIDE * across → d / SIDE ≡ c / SIDE
    → (min (d + 1) (SIDE * across) / SIDE ≡ c / SIDE)
    ⊎ (min (d + 1) (SIDE * across) / SIDE ≡ min (c + SIDE) (SIDE * across) / SIDE)
high_page c d across c_in d_in same =
    elim (cases_lt (min (d + 1) (SIDE * across)) (SIDE * (c / SIDE) + SIDE)) [
      | inl within ↦ inl (omega (arith, within, same, c_in, d_in))
      | inr past ↦ inr (omega (arith, past, same, c_in, d_in))
    ]

-- an eighth of eight times a number
eighth-even : (a : ℤ)
    → int_div_euclid ((pos 2 *ℤ a) +ℤ ((a +ℤ a) +ℤ ((a +ℤ a) +ℤ (a +ℤ a)))) (pos 8) ≡ a
eighth-even (pos n) =
    let sum : (pos 2 *ℤ pos n) +ℤ ((pos n +ℤ pos n) +ℤ ((pos n +ℤ pos n) +ℤ (pos n +ℤ pos n)))
    ≡ pos (8 * n) = omega (arith, ints) in
    let part : 8 * n / 8 ≡ n = omega arith in
    ap (λ a. int_div_euclid a (pos 8)) sum ∙ ap pos part
eighth-even (negsuc n) =
    let sum : (pos 2 *ℤ negsuc n) +ℤ ((negsuc n +ℤ negsuc n)
    +ℤ ((negsuc n +ℤ negsuc n) +ℤ (negsuc n +ℤ negsuc n))) ≡ negsuc (8 * n + 7) =
    omega (arith, ints) in
    let part : (8 * n + 7) / 8 ≡ n = omega arith in
    ap (λ a. int_div_euclid a (pos 8)) sum ∙ ap negsuc part

-- a page has one sample alone
abbrev pub IsAll : Pages → ℤ → Point → Type 0
IsAll pages sample p = (r : Point) → IsInSamePage p r → sample_at pages r ≡ sample

-- a point of a page that has one sample around is smoothed to that sample
pub smoothed-even : (pages : Pages) (p q : Point) (sample : ℤ)
    → IsInWorld pages.depth p → IsInWorld pages.depth q → IsInSamePage p q
    → IsAll pages sample p
    → IsAll pages sample (record p { x = p.x - SIDE })
    → IsAll pages sample (record p { x = min (p.x + SIDE) (world_side pages.depth) })
    → IsAll pages sample (record p { y = p.y - SIDE })
    → IsAll pages sample (record p { y = min (p.y + SIDE) (world_side pages.depth) })
    → IsAll pages sample (record p { z = p.z - SIDE })
    → IsAll pages sample (record p { z = min (p.z + SIDE) (world_side pages.depth) })
    → sample ≡ smoothed pages.depth (sample_at pages) q
smoothed-even pages p q sample p_in q_in same own x_low x_high y_low y_high z_low z_high =
    let f : Point → ℤ = sample_at pages in
    let in_x : (k : ℕ) → (k / SIDE ≡ p.x / SIDE) → f (record q { x = k }) ≡ sample =
    λ k is. own _ (record { z = same.z; y = same.y; x = is }) in
    let in_y : (k : ℕ) → (k / SIDE ≡ p.y / SIDE) → f (record q { y = k }) ≡ sample =
    λ k is. own _ (record { z = same.z; y = is; x = same.x }) in
    let in_z : (k : ℕ) → (k / SIDE ≡ p.z / SIDE) → f (record q { z = k }) ≡ sample =
    λ k is. own _ (record { z = is; y = same.y; x = same.x }) in
    let across : ℕ = 2 ^ pages.depth in
    let up : ℕ → ℕ = λ k. min (k + 1) (world_side pages.depth) in
    let xl : f (record q { x = q.x - 1 }) ≡ sample = elim (low_page p.x q.x same.x) [
      | inl is ↦ in_x (q.x - 1) is
      | inr is ↦ x_low _ (record { z = same.z; y = same.y; x = is })
    ] in
    let xh : f (record q { x = up q.x }) ≡ sample =
    elim (high_page p.x q.x across p_in.x q_in.x same.x) [
      | inl is ↦ in_x (up q.x) is
      | inr is ↦ x_high _ (record { z = same.z; y = same.y; x = is })
    ] in
    let yl : f (record q { y = q.y - 1 }) ≡ sample = elim (low_page p.y q.y same.y) [
      | inl is ↦ in_y (q.y - 1) is
      | inr is ↦ y_low _ (record { z = same.z; y = is; x = same.x })
    ] in
    let yh : f (record q { y = up q.y }) ≡ sample =
    elim (high_page p.y q.y across p_in.y q_in.y same.y) [
      | inl is ↦ in_y (up q.y) is
      | inr is ↦ y_high _ (record { z = same.z; y = is; x = same.x })
    ] in
    let zl : f (record q { z = q.z - 1 }) ≡ sample = elim (low_page p.z q.z same.z) [
      | inl is ↦ in_z (q.z - 1) is
      | inr is ↦ z_low _ (record { z = is; y = same.y; x = same.x })
    ] in
    let zh : f (record q { z = up q.z }) ≡ sample =
    elim (high_page p.z q.z across p_in.z q_in.z same.z) [
      | inl is ↦ in_z (up q.z) is
      | inr is ↦ z_high _ (record { z = is; y = same.y; x = same.x })
    ] in
    sym (same_eighth _ _ _ _ _ _ _ _ (own q same) (both xl xh) (both yl yh) (both zl zh)
    ∙ eighth-even sample)
