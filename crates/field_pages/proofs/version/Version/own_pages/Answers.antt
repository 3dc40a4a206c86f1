-- A layer has no more pages of its own than it has pages, and so have the layers together.
use Rattle.std.proofs.Common.{arith, ◌≡◌, ◌*◌, ◌<◌, ◌≤◌, ℕ, ℤ, List, [], ap, ◌∙◌, sym, subst, get_or, length}
use Rattle.std.proofs.lemmas.Nat.{mul-le}
use Rattle.field_pages.specs.declared.page.TheConstants.{MAX_ACROSS}
use Rattle.field_pages.specs.Places.{pages_across}
use Rattle.field_pages.specs.Pages.{IsVersion, Pages}
use Rattle.field_pages.proofs.version.Version.own_pages.Goals as goal
use Rattle.field_pages.proofs.version.Version.own_pages.Goals.{then-is_own, else-is_own}

-- a layer has at most as many pages of its own as it has pages
own_within : (v : Pages) (layer : List (List ℤ)) (across k own : ℕ) → IsVersion v
    → across ≡ pages_across v.depth → k < across → get_or v.layers k [] ≡ layer
    → own ≤ length layer → own ≤ across * across
own_within v layer across k own sound across_is k_in layer_is within =
    let pages : length layer ≡ across * across =
    ap length (sym layer_is) ∙ sound.rows k (omega (arith, k_in, across_is))
    ∙ ap (λ a. a * a) (sym across_is) in
    omega (arith, pages, within)

pub overflow_add-count : goal.overflow_add-count
overflow_add-count c =
    let across = c.pages_across-place-end.result in
    let few = c.pages_across-place-end.ensures.few in
    let own = own_within _ _ across c.loop-place.place _ c.self.invariant
    c.pages_across-place-end.ensures.value c.loop-place-test.true (c.part.ensures [])
    c.own_pages-count.ensures in
    let square = mul-le across across MAX_ACROSS MAX_ACROSS few few in
    let all = mul-le c.loop-place.place (across * across) MAX_ACROSS (MAX_ACROSS * MAX_ACROSS)
    (omega (arith, few, c.loop-place.auto.place-end)) square in
    omega (arith, own, square, all, c.loop-place.invariant)

pub loop-place-preserved : goal.loop-place-preserved
loop-place-preserved c = elim c.if-is_own.branch [
  | then-is_own w ↦
      let own = own_within _ _ c.pages_across-place-end.result c.loop-place.place _
      c.self.invariant c.pages_across-place-end.ensures.value c.loop-place-test.true
      (w.part.ensures []) w.own_pages-count.ensures in
      omega (arith, own, c.loop-place.invariant, w.count-is)
  | else-is_own w ↦ omega (arith, c.loop-place.invariant, w.count-is)
]

pub returns : goal.returns
returns c =
    let across = c.pages_across-place-end.result in
    let across_is : across ≡ pages_across c.args.self.now.depth =
    c.pages_across-place-end.ensures.value
    ∙ ap (λ (v : Pages). pages_across v.depth) c.self.view_is in
    let all = mul-le c.loop-place.place (across * across) across (across * across)
    c.loop-place.auto.place-end (omega arith) in
    let within : c.loop-place.count ≤ across * across * across =
    omega (arith, all, c.loop-place.invariant) in
    subst (λ a. c.loop-place.count ≤ a * a * a) across_is within
