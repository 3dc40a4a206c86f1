-- The samples of a page that has one sample at each of its points of the world.
--
-- A place is that of a point of the world exactly where its three coordinates in the page are below the page's extent
-- (inside_from, inside_parts). There the page has its sample (even_at-inside), and elsewhere the greatest one
-- (even_at-past). The list of its samples is as long as a page's, has these at its places, and is the only such list
-- (length-even, get_or-even, even_from).
use Rattle.std.proofs.Common.{◌≡◌, ℕ, ◌-◌, replicate, ◌/◌, ◌%◌, ◌<◌, ◌≤◌, ◌+◌, ◌*◌, ◌⊎◌, List, ℤ, cond, length, get_or, inl, inr, refl, sym, ap, subst, ◌∙◌, arith}
use Rattle.std.specs.Prelude.{nat_lt}
use Rattle.std.proofs.lemmas.Bool.{cases_lt, cond_above, cond_below, le-ltb, lt-ltb}
use Rattle.std.proofs.lemmas.List.{get_or-replicate, length-replicate}
use Rattle.std.proofs.lemmas.List.FromFn.{fill_by_all, get_or-map-range_with_len, length-map-range_with_len}
use Rattle.lattice.specs.declared.point.Point.{Point}
use Rattle.terrain.specs.declared.brush.TheConstants.{MAX_SAMPLE}
use Rattle.field_pages.specs.declared.even.EvenPage.{EvenPage}
use Rattle.field_pages.specs.declared.even.Extent.{Extent}
use Rattle.field_pages.specs.declared.page.TheConstants.{COUNT, SIDE}
use Rattle.field_pages.specs.Even.{IsExtent, IsWorldPlace, even_at, even_list, row_count}
use Rattle.field_pages.specs.Places.{IsEven, index_in_page, page_at}

-- ---- which places are those of points of the world

-- a row of points of the world
pub row_count-in : (e : Extent) (row : ℕ) → row / SIDE < e.z → row % SIDE < e.y
    → row_count e row ≡ e.x
row_count-in e row z y =
    ap (λ b. cond b (cond (nat_lt (row % SIDE) e.y) e.x 0) 0) (lt-ltb (row / SIDE) e.z z)
    ∙ ap (λ b. cond b e.x 0) (lt-ltb (row % SIDE) e.y y)

-- and another one
pub row_count-out : (e : Extent) (row : ℕ) → (row / SIDE < e.z → row % SIDE < e.y → ⊥)
    → row_count e row ≡ 0
row_count-out e row out =
    elim (cases_lt (row / SIDE) e.z) [
      | inr past ↦
          ap (λ b. cond b (cond (nat_lt (row % SIDE) e.y) e.x 0) 0) (le-ltb (row / SIDE) e.z past)
      | inl z ↦
          ap (λ b. cond b (cond (nat_lt (row % SIDE) e.y) e.x 0) 0) (lt-ltb (row / SIDE) e.z z)
          ∙ elim (cases_lt (row % SIDE) e.y) [
            | inr past ↦ ap (λ b. cond b e.x 0) (le-ltb (row % SIDE) e.y past)
            | inl y ↦ absurd (out z y)
          ]
    ]

-- no row has more points than a page along an axis
pub row_count-few : (e : Extent) (row : ℕ) → IsExtent e → row_count e row ≤ SIDE
row_count-few e row is =
    elim (cases_lt (row / SIDE) e.z) [
      | inr past ↦
          let none = row_count-out e row (λ z y. omega (arith, past, z)) in
          omega (arith, none)
      | inl z ↦ elim (cases_lt (row % SIDE) e.y) [
        | inr past ↦
            let none = row_count-out e row (λ z y. omega (arith, past, y)) in
            omega (arith, none)
        | inl y ↦
            let here = row_count-in e row z y in
            omega (arith, here, is.x_few)
      ]
    ]

-- a place is that of a point of the world by its three coordinates
pub inside_from : (e : Extent) (k : ℕ) → k / SIDE / SIDE < e.z → k / SIDE % SIDE < e.y
    → k % SIDE < e.x → IsWorldPlace e k
inside_from e k z y x =
    let here = row_count-in e (k / SIDE) z y in
    omega (arith, here, x)

-- and then these are below the extent
pub inside_parts : (e : Extent) (k : ℕ) → IsWorldPlace e k
    → (k / SIDE / SIDE < e.z) × (k / SIDE % SIDE < e.y) × (k % SIDE < e.x)
inside_parts e k inside =
    elim (cases_lt (k / SIDE / SIDE) e.z) [
      | inr past ↦
          let none = row_count-out e (k / SIDE) (λ z y. omega (arith, past, z)) in
          absurd (omega (arith, none, inside))
      | inl z ↦ elim (cases_lt (k / SIDE % SIDE) e.y) [
        | inr past ↦
            let none = row_count-out e (k / SIDE) (λ z y. omega (arith, past, y)) in
            absurd (omega (arith, none, inside))
        | inl y ↦
            let here = row_count-in e (k / SIDE) z y in
            (z, y, omega (arith, here, inside))
      ]
    ]

-- it is, or it isn't
pub inside_or_past : (e : Extent) (k : ℕ) → IsWorldPlace e k ⊎ (IsWorldPlace e k → ⊥)
inside_or_past e k =
    elim (cases_lt (k % SIDE) (row_count e (k / SIDE))) [
      | inl inside ↦ inl inside
      | inr off ↦ inr (λ inside. omega (arith, off, inside))
    ]

-- the first place is that of a point of the world
pub inside-first : (e : Extent) → IsExtent e → IsWorldPlace e 0
inside-first e is =
    inside_from e 0 (omega (arith, is.z)) (omega (arith, is.y)) (omega (arith, is.x))

-- a place of a row whose count of points is known
pub inside-row : (e : Extent) (row t : ℕ) → t < SIDE → t < row_count e row
    → IsWorldPlace e (SIDE * row + t)
inside-row e row t t_in inside =
    let at : row ≡ (SIDE * row + t) / SIDE = omega (arith, t_in) in
    let place : (SIDE * row + t) % SIDE ≡ t = omega (arith, t_in) in
    subst (λ r. (SIDE * row + t) % SIDE < row_count e r) at (omega (arith, place, inside))

-- and one behind them
pub past-row : (e : Extent) (row t : ℕ) → t < SIDE → row_count e row ≤ t
    → IsWorldPlace e (SIDE * row + t) → ⊥
past-row e row t t_in past inside =
    let at : (SIDE * row + t) / SIDE ≡ row = omega (arith, t_in) in
    let place : (SIDE * row + t) % SIDE ≡ t = omega (arith, t_in) in
    let here : (SIDE * row + t) % SIDE < row_count e row =
    subst (λ r. (SIDE * row + t) % SIDE < row_count e r) at inside in
    omega (arith, here, place, past)

-- a page whose last row is whole has no place past the world's end
pub whole_from : (e : Extent) → row_count e 255 ≡ SIDE → (k : ℕ) → k < COUNT → IsWorldPlace e k
whole_from e last k k_in =
    let end : IsWorldPlace e 4095 = omega (arith, last) in
    let parts = inside_parts e 4095 end in
    inside_from e k (omega (arith, parts.0, k_in)) (omega (arith, parts.1))
    (omega (arith, parts.2))

-- and the other way round
pub whole_row : (e : Extent) → IsExtent e → IsWorldPlace e 4095 → row_count e 255 ≡ SIDE
whole_row e is end =
    let here : 4095 % SIDE < row_count e (4095 / SIDE) = end in
    omega (arith, here, row_count-few e 255 is)

-- ---- the samples

-- the sample at a point of the world
pub even_at-inside : (e : Extent) (sample : ℤ) (k : ℕ) → IsWorldPlace e k
    → even_at e sample k ≡ sample
even_at-inside e sample k inside =
    sym (cond_below (k % SIDE) (row_count e (k / SIDE)) sample MAX_SAMPLE inside)

-- and past the world's end
pub even_at-past : (e : Extent) (sample : ℤ) (k : ℕ) → (IsWorldPlace e k → ⊥)
    → even_at e sample k ≡ MAX_SAMPLE
even_at-past e sample k past =
    elim (cases_lt (k % SIDE) (row_count e (k / SIDE))) [
      | inl inside ↦ absurd (past inside)
      | inr off ↦
          sym (cond_above (k % SIDE) (row_count e (k / SIDE)) sample MAX_SAMPLE MAX_SAMPLE off
          refl)
    ]

-- it is one of the two
pub even_at-any : (P : ℤ → Type 0) (e : Extent) (sample : ℤ) (k : ℕ)
    → (IsWorldPlace e k → P sample) → ((IsWorldPlace e k → ⊥) → P MAX_SAMPLE)
    → P (even_at e sample k)
even_at-any P e sample k here past =
    elim (cases_lt (k % SIDE) (row_count e (k / SIDE))) [
      | inl inside ↦ subst P (sym (even_at-inside e sample k inside)) (here inside)
      | inr off ↦
          let out : IsWorldPlace e k → ⊥ = λ inside. omega (arith, off, inside) in
          subst P (sym (even_at-past e sample k out)) (past out)
    ]

-- ---- the list of samples

-- it is as long as a page's
pub length-even : (page : EvenPage) → length (even_list page) ≡ COUNT
unfolding even_list
length-even page = length-map-range_with_len (even_at page.extent page.sample) 0 COUNT

-- it has these samples
pub get_or-even : (page : EvenPage) (k : ℕ) (d : ℤ) → k < COUNT
    → get_or (even_list page) k d ≡ even_at page.extent page.sample k
unfolding even_list
get_or-even page k d k_in =
    get_or-map-range_with_len (even_at page.extent page.sample) 0 COUNT k k d k_in (omega arith)

-- and is the only such list
pub even_from : (page : EvenPage) (samples : List ℤ) → length samples ≡ COUNT
    → ((k : ℕ) → k < COUNT → get_or samples k MAX_SAMPLE ≡ even_at page.extent page.sample k)
    → samples ≡ even_list page
unfolding even_list
even_from page samples long each =
    fill_by_all (even_at page.extent page.sample) samples COUNT MAX_SAMPLE long each

-- ---- pages that are even past the world's end too

-- a page without a place past it
pub even-whole : (page : EvenPage) → ((k : ℕ) → k < COUNT → IsWorldPlace page.extent k)
    → IsEven (even_list page)
even-whole page whole k k_in =
    let first : 0 < COUNT = omega arith in
    get_or-even page k MAX_SAMPLE k_in
    ∙ even_at-inside page.extent page.sample k (whole k k_in)
    ∙ sym (get_or-even page 0 MAX_SAMPLE first
    ∙ even_at-inside page.extent page.sample 0 (whole 0 first))

-- a page with the greatest sample
pub even-greatest : (page : EvenPage) → page.sample ≡ MAX_SAMPLE → IsEven (even_list page)
even-greatest page is k k_in =
    let same : (n : ℕ) → n < COUNT → get_or (even_list page) n MAX_SAMPLE ≡ MAX_SAMPLE = λ n n_in.
    get_or-even page n MAX_SAMPLE n_in
    ∙ even_at-any (λ s. s ≡ MAX_SAMPLE) page.extent page.sample n (λ _. is) (λ _. refl) in
    same k k_in ∙ sym (same 0 (omega arith))

-- no other page
pub even-past : (page : EvenPage) (k : ℕ) → IsExtent page.extent → IsEven (even_list page)
    → k < COUNT → (IsWorldPlace page.extent k → ⊥) → page.sample ≡ MAX_SAMPLE
even-past page k is even k_in past =
    let first : 0 < COUNT = omega arith in
    sym (get_or-even page 0 MAX_SAMPLE first
    ∙ even_at-inside page.extent page.sample 0 (inside-first page.extent is))
    ∙ sym (even k k_in)
    ∙ get_or-even page k MAX_SAMPLE k_in
    ∙ even_at-past page.extent page.sample k past

-- a sample of such a page at a point of the world
pub even-sample : (page : EvenPage) (samples : List ℤ) (p : Point) → even_list page ≡ samples
    → IsWorldPlace page.extent (index_in_page p) → page_at samples p ≡ page.sample
even-sample page samples p is inside =
    ap (λ l. page_at l p) (sym is)
    ∙ get_or-even page (index_in_page p) MAX_SAMPLE (omega arith)
    ∙ even_at-inside page.extent page.sample (index_in_page p) inside

-- so is its first one
pub even-first : (page : EvenPage) (samples : List ℤ) → even_list page ≡ samples
    → IsExtent page.extent → get_or samples 0 MAX_SAMPLE ≡ page.sample
even-first page samples is extent =
    ap (λ l. get_or l 0 MAX_SAMPLE) (sym is)
    ∙ get_or-even page 0 MAX_SAMPLE (omega arith)
    ∙ even_at-inside page.extent page.sample 0 (inside-first page.extent extent)

-- where all are the same it is the first one, so many times
pub even-filled : (page : EvenPage) → IsExtent page.extent → IsEven (even_list page)
    → replicate COUNT page.sample ≡ even_list page
even-filled page extent even =
    let first : get_or (even_list page) 0 MAX_SAMPLE ≡ page.sample =
    even-first page (even_list page) refl extent in
    even_from page (replicate COUNT page.sample) (length-replicate COUNT page.sample) (λ k k_in.
    get_or-replicate COUNT k page.sample MAX_SAMPLE k_in ∙ sym (even k k_in ∙ first)
    ∙ get_or-even page k MAX_SAMPLE k_in)

-- and past the world's end
pub even-padding : (page : EvenPage) (samples : List ℤ) (p : Point) → even_list page ≡ samples
    → (IsWorldPlace page.extent (index_in_page p) → ⊥) → page_at samples p ≡ MAX_SAMPLE
even-padding page samples p is past =
    ap (λ l. page_at l p) (sym is)
    ∙ get_or-even page (index_in_page p) MAX_SAMPLE (omega arith)
    ∙ even_at-past page.extent page.sample (index_in_page p) past

-- ---- a list that is filled row by row

-- the rows before one have the page's samples, and the others the greatest one
pub record AreRowsFilled (page : EvenPage) (row : ℕ) (samples : List ℤ) : Type 0 where
  pub long : length samples ≡ COUNT
  pub made : (k : ℕ) → k < SIDE * row
      → get_or samples k MAX_SAMPLE ≡ even_at page.extent page.sample k
  pub left : (k : ℕ) → SIDE * row ≤ k → k < COUNT → get_or samples k MAX_SAMPLE ≡ MAX_SAMPLE

-- at first no row
pub AreRowsFilled-start : (page : EvenPage) (samples : List ℤ)
    → samples ≡ replicate COUNT MAX_SAMPLE → AreRowsFilled page 0 samples
AreRowsFilled-start page samples is = record {
  long = ap length is ∙ length-replicate COUNT MAX_SAMPLE;
  made = λ k k_in. absurd (omega (arith, k_in));
  left = λ k from k_in. ap (λ l. get_or l k MAX_SAMPLE) is
      ∙ get_or-replicate COUNT k MAX_SAMPLE MAX_SAMPLE k_in;
}

-- one row more: its points of the world have the page's sample
pub AreRowsFilled-more : (page : EvenPage) (row count : ℕ) (old new : List ℤ)
    → IsExtent page.extent → row < 256 → count ≡ row_count page.extent row
    → length new ≡ length old
    → ((t : ℕ) (d : ℤ) → t < count → get_or new (SIDE * row + t) d ≡ page.sample)
    → ((k : ℕ) (d : ℤ) → (SIDE * row ≤ k → k < SIDE * row + count → ⊥)
    → get_or new k d ≡ get_or old k d)
    → AreRowsFilled page row old → AreRowsFilled page (row + 1) new
AreRowsFilled-more page row count old new is row_in count_is same_length filled same so_far =
    let e = page.extent in
    let few : count ≤ SIDE = omega (arith, count_is, row_count-few e row is) in
    record {
      long = same_length ∙ so_far.long;
      made = λ k k_in. elim (cases_lt k (SIDE * row)) [
        | inl before ↦
            same k MAX_SAMPLE (λ after _. omega (arith, before, after)) ∙ so_far.made k before
        | inr past ↦
            let t : ℕ = k - SIDE * row in
            let t_in : t < SIDE = omega (arith, past, k_in) in
            let here : SIDE * row + t ≡ k = omega (arith, past) in
            subst (λ n. get_or new n MAX_SAMPLE ≡ even_at e page.sample n) here
            (elim (cases_lt t count) [
              | inl within ↦
                  filled t MAX_SAMPLE within ∙ sym (even_at-inside e page.sample (SIDE * row + t)
                  (inside-row e row t t_in (omega (arith, within, count_is))))
              | inr off ↦
                  same (SIDE * row + t) MAX_SAMPLE (λ _ before. omega (arith, off, before))
                  ∙ so_far.left (SIDE * row + t) (omega arith) (omega (arith, t_in, row_in))
                  ∙ sym (even_at-past e page.sample (SIDE * row + t)
                  (past-row e row t t_in (omega (arith, off, count_is))))
            ])
      ];
      left = λ k from k_in.
          same k MAX_SAMPLE (λ _ before. omega (arith, from, before, few))
          ∙ so_far.left k (omega (arith, from)) k_in;
    }

-- in the end all rows
pub AreRowsFilled-all : (page : EvenPage) (row : ℕ) (samples : List ℤ) → 256 ≤ row
    → AreRowsFilled page row samples → samples ≡ even_list page
AreRowsFilled-all page row samples past so_far =
    even_from page samples so_far.long (λ k k_in. so_far.made k (omega (arith, k_in, past)))
