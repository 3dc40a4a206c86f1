-- Each page more has the greatest sample at every point.
use Rattle.std.proofs.Common.{arith, ◌≡◌, ◌+◌, ◌-◌, ◌<◌, ℕ, ℤ, List, [], ◌∷◌, ◌++◌, ap, ◌∙◌, get_or, inl, inr, length}
use Rattle.std.proofs.lemmas.Bool.{cases_lt}
use Rattle.std.proofs.lemmas.List.{get_or_append_left, get_or-append_right, length-append}
use Rattle.lattice.specs.declared.point.Point.{Point}
use Rattle.terrain.specs.declared.brush.TheConstants.{MAX_SAMPLE}
use Rattle.field_pages.specs.Places.{page_at}
use Rattle.field_pages.proofs.shared_pages.Group.empty.Goals as goal

-- one more page of the greatest sample behind others
one_more : (pages : List (List ℤ)) (page : List ℤ) (k : ℕ) → length pages ≡ k
    → ((n : ℕ) (p : Point) → n < k → page_at (get_or pages n []) p ≡ MAX_SAMPLE)
    → ((p : Point) → page_at page p ≡ MAX_SAMPLE) → (n : ℕ) (p : Point) → n < k + 1
    → page_at (get_or (pages ++ page ∷ []) n []) p ≡ MAX_SAMPLE
one_more pages page k long each here n p n_in = elim (cases_lt n k) [
  | inl before ↦
      ap (λ l. page_at l p)
      (get_or_append_left pages (page ∷ []) [] n (omega (arith, before, long)))
      ∙ each n p before
  | inr past ↦
      let last : n - k ≡ 0 = omega arith in
      ap (λ l. page_at l p) (get_or-append_right pages (page ∷ []) k n [] long past
      ∙ ap (λ m. get_or (page ∷ []) m []) last)
      ∙ here p
]

pub loop-preserved : goal.loop-preserved
loop-preserved c =
    let pages = c.loop.pages.items in
    let items = c.push_reserved.ensures.items in record {
      long = ap length items ∙ length-append pages (c.empty.result ∷ [])
          ∙ ap (λ n. n + 1) c.loop.invariant.long;
      room = omega (arith, c.loop.invariant.room, c.push_reserved.ensures.capacity);
      each = λ n p n_in. ap (λ l. page_at (get_or l n []) p) items
          ∙ one_more pages c.empty.result c.loop.counter c.loop.invariant.long
          c.loop.invariant.each c.empty.ensures n p n_in;
    }
