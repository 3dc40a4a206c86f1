-- What holds once old pages were put back: the version is sound, and all lengths stay. And how many pages there are.
-- Each page is either one of the old version or one of the new one then, and what holds of the pages of both holds of
-- it (layer_restored-all, layers_restored-all). What a sound version keeps of its samples is such a thing (IsFitPage),
-- so the restored version is sound (IsVersion-restored). What is put back has a place (layer_place, page_places), and
-- all lengths stay (layer_restored-length, rows-restored). Numbers rise, so there are no more pages than places for
-- them (few_pages).
use Rattle.std.proofs.Common.{◌≡◌, ℕ, ◌+◌, ◌*◌, ◌/◌, ◌^◌, ◌<◌, ◌≤◌, List, [], ◌∷◌, ℤ, length, get_or, set, All, refl, sym, ap, ◌∙◌, subst, inl, inr, arith}
use Rattle.std.proofs.lemmas.Bool.{cases_eq, cases_lt}
use Rattle.std.proofs.lemmas.List.{get_or-set_other, get_or-set_same, length-set, set_past}
use Rattle.std.proofs.lemmas.List.Elements.{All-head, All-tail, All-weaker}
use Rattle.std.proofs.Math.Nat.{mul-le-mul}
use Rattle.lattice.specs.declared.point.Point.{Point}
use Rattle.lattice.specs.declared.settings.TheConstants.{MAX_DEPTH}
use Rattle.lattice.specs.Point.{IsInWorld}
use Rattle.lattice.specs.Settings.{IsDepth}
use Rattle.terrain.specs.declared.brush.TheConstants.{MAX_SAMPLE}
use Rattle.terrain.specs.Samples.{IsSample}
use Rattle.field_pages.specs.declared.page.TheConstants.{MAX_ACROSS, SIDE}
use Rattle.field_pages.specs.Kept.{AreVersionPages, IsLayerOf, IsPageOf, LayersRise, OldLayer, OldPage, OldPages, PagesRise, layer_restored, layers_restored, page_count, restored}
use Rattle.field_pages.specs.Pages.{IsVersion, Pages, sample_at}
use Rattle.field_pages.specs.Places.{IsInPages, page_at, page_number, pages_across}

-- ---- what holds of each part of a list

-- what holds of each part, by its number, holds once one that it holds of was put somewhere
each-set : {A : Type 0} (P : ℕ → A → Type 0) (d : A) (xs : List A) (k : ℕ) (x : A) → P k x
    → ((n : ℕ) → P n (get_or xs n d)) → (n : ℕ) → P n (get_or (set xs k x) n d)
each-set P d xs k x here all n =
    elim (cases_lt k (length xs)) [
      | inl within ↦ elim (cases_eq n k) [
        | inl same ↦
            subst (λ m. P m (get_or (set xs k x) m d)) (sym same)
            (subst (P k) (sym (get_or-set_same xs k x d within)) here)
        | inr apart ↦ subst (P n) (sym (get_or-set_other xs k n x d apart)) (all n)
      ]
      | inr past ↦ subst (λ l. P n (get_or l n d)) (sym (set_past xs k x past)) (all n)
    ]

-- so it does of the pages of a layer, once pages that it holds of were put back
layer_restored-all : (P : ℕ → List ℤ → Type 0) (pages : List OldPage) (layer : List (List ℤ))
    → All (λ page. P page.number page.samples) pages → ((m : ℕ) → P m (get_or layer m []))
    → (m : ℕ) → P m (get_or (layer_restored pages layer) m [])
layer_restored-all P [] layer kept all = all
layer_restored-all P (page ∷ pages) layer kept all =
    layer_restored-all P pages (set layer page.number page.samples)
    (All-tail (λ page. P page.number page.samples) page pages kept)
    (each-set P [] layer page.number page.samples
    (All-head (λ page. P page.number page.samples) page pages kept) all)

-- a layer keeps something when the pages of an old one are put back
abbrev Keeps : (ℕ → List (List ℤ) → Type 0) → OldLayer → Type 0
Keeps P old = (layer : List (List ℤ)) → P old.number layer
    → P old.number (layer_restored old.pages layer)

-- so do the layers of a version
layers_restored-all : (P : ℕ → List (List ℤ) → Type 0) (olds : List OldLayer)
    (layers : List (List (List ℤ))) → All (Keeps P) olds → ((n : ℕ) → P n (get_or layers n []))
    → (n : ℕ) → P n (get_or (layers_restored olds layers) n [])
layers_restored-all P [] layers keep all = all
layers_restored-all P (old ∷ olds) layers keep all =
    layers_restored-all P olds
    (set layers old.number (layer_restored old.pages (get_or layers old.number [])))
    (All-tail (Keeps P) old olds keep)
    (each-set P [] layers old.number (layer_restored old.pages (get_or layers old.number []))
    (All-head (Keeps P) old olds keep (get_or layers old.number []) (all old.number)) all)

-- ---- lengths

-- a layer has as many pages as before
pub layer_restored-length : (pages : List OldPage) (layer : List (List ℤ))
    → length (layer_restored pages layer) ≡ length layer
layer_restored-length [] layer = refl
layer_restored-length (page ∷ pages) layer =
    layer_restored-length pages (set layer page.number page.samples)
    ∙ length-set layer page.number page.samples

-- so has each layer of a version, when the pages of one are put back
pub rows-restored : (layers : List (List (List ℤ))) (old : OldLayer) (n : ℕ)
    → length (get_or (set layers old.number
    (layer_restored old.pages (get_or layers old.number []))) n [])
    ≡ length (get_or layers n [])
rows-restored layers old =
    each-set (λ n layer. length layer ≡ length (get_or layers n [])) [] layers old.number
    (layer_restored old.pages (get_or layers old.number []))
    (layer_restored-length old.pages (get_or layers old.number [])) (λ n. refl)

-- a version has as many layers
layers_restored-length : (olds : List OldLayer) (layers : List (List (List ℤ)))
    → length (layers_restored olds layers) ≡ length layers
layers_restored-length [] layers = refl
layers_restored-length (old ∷ olds) layers =
    layers_restored-length olds
    (set layers old.number (layer_restored old.pages (get_or layers old.number [])))
    ∙ length-set layers old.number (layer_restored old.pages (get_or layers old.number []))

-- ---- a version

-- a page, by the numbers of its layer and its own, has samples in range, and the greatest one past the world's end
IsFitPage : ℕ → ℕ → ℕ → List ℤ → Type 0
IsFitPage depth n m page = (p : Point) → IsInPages (pages_across depth) p → p.z / SIDE ≡ n
    → page_number (pages_across depth) p ≡ m
    → IsSample (page_at page p) × ((IsInWorld depth p → ⊥) → page_at page p ≡ MAX_SAMPLE)

-- each page of a sound version is so
fit_pages : (pages : Pages) → IsVersion pages → (n m : ℕ)
    → IsFitPage pages.depth n m (get_or (get_or pages.layers n []) m [])
unfolding IsFitPage
fit_pages pages sound n m p p_in layer number =
    let across = pages_across pages.depth in
    let is : sample_at pages p ≡ page_at (get_or (get_or pages.layers n []) m []) p =
    λ i. page_at (get_or (get_or pages.layers (layer i) []) (number i) []) p in (
      subst IsSample is (sound.range p p_in),
      λ past. sym is ∙ sound.padding p p_in past,
    )

-- a version whose pages are so is sound
sound_pages : (old : Pages) (layers : List (List (List ℤ))) → IsVersion old
    → length layers ≡ length old.layers
    → ((n : ℕ) → length (get_or layers n []) ≡ length (get_or old.layers n []))
    → ((n m : ℕ) → IsFitPage old.depth n m (get_or (get_or layers n []) m []))
    → IsVersion (record { depth = old.depth; layers = layers })
unfolding IsFitPage
sound_pages old layers sound long rows fit = record {
  depth = sound.depth;
  layers = long ∙ sound.layers;
  rows = λ k k_in. rows k ∙ sound.rows k k_in;
  range = λ p p_in.
      (fit (p.z / SIDE) (page_number (pages_across old.depth) p) p p_in refl refl).0;
  padding = λ p p_in past.
      (fit (p.z / SIDE) (page_number (pages_across old.depth) p) p p_in refl refl).1 past;
}

-- the pages of an old layer are so
fit_layer : (version : Pages) → IsVersion version → (old : OldLayer) → IsLayerOf version old
    → All (λ page. IsFitPage version.depth old.number page.number page.samples) old.pages
fit_layer version sound old is =
    All-weaker (IsPageOf (get_or version.layers old.number []))
    (λ page. IsFitPage version.depth old.number page.number page.samples)
    (λ page of. subst (IsFitPage version.depth old.number page.number) (sym of.same)
    (fit_pages version sound old.number page.number)) old.pages is.pages

-- once old pages were put back the version is sound
pub IsVersion-restored : (kept : OldPages) (pages : Pages) → AreVersionPages kept
    → kept.depth ≡ pages.depth → IsVersion pages → IsVersion (restored kept pages)
IsVersion-restored kept pages old same sound =
    let depth = pages.depth in
    let version = old.version in
    let depth_is : version.depth ≡ depth = old.depth ∙ same in
    let Fit : ℕ → List (List ℤ) → Type 0 =
    λ n layer. (m : ℕ) → IsFitPage depth n m (get_or layer m []) in
    let rows : (n : ℕ) → length (get_or (layers_restored kept.layers pages.layers) n [])
    ≡ length (get_or pages.layers n []) =
    layers_restored-all (λ n layer. length layer ≡ length (get_or pages.layers n []))
    kept.layers pages.layers
    (All-weaker (IsLayerOf version)
    (Keeps (λ n layer. length layer ≡ length (get_or pages.layers n [])))
    (λ layer is l h. layer_restored-length layer.pages l ∙ h) kept.layers old.each)
    (λ n. refl) in
    let fit : (n m : ℕ)
    → IsFitPage depth n m (get_or (get_or (layers_restored kept.layers pages.layers) n []) m []) =
    layers_restored-all Fit kept.layers pages.layers
    (All-weaker (IsLayerOf version) (Keeps Fit)
    (λ layer is l h. layer_restored-all (IsFitPage depth layer.number) layer.pages l
    (subst (λ d. All (λ page. IsFitPage d layer.number page.number page.samples) layer.pages)
    depth_is (fit_layer version old.sound layer is)) h) kept.layers old.each)
    (fit_pages pages sound) in
    sound_pages pages (layers_restored kept.layers pages.layers) sound
    (layers_restored-length kept.layers pages.layers) rows fit

-- ---- the places of what is put back

-- an old layer has a place in each version of its depth
layer_fits : (kept : OldPages) (pages : Pages) (layer : OldLayer) (old : AreVersionPages kept)
    → IsLayerOf old.version layer → kept.depth ≡ pages.depth → IsVersion pages
    → layer.number < length pages.layers
layer_fits kept pages layer old is same sound =
    let across : pages_across old.version.depth ≡ pages_across pages.depth =
    ap pages_across (old.depth ∙ same) in
    omega (arith, is.within, old.sound.layers, sound.layers, across)

-- and so do its pages in that layer
pages_fit : (kept : OldPages) (pages : Pages) (layer : OldLayer) (old : AreVersionPages kept)
    → IsLayerOf old.version layer → kept.depth ≡ pages.depth → IsVersion pages
    → All (λ page. page.number < length (get_or pages.layers layer.number [])) layer.pages
pages_fit kept pages layer old is same sound =
    let n = layer.number in
    let depth_is : old.version.depth ≡ pages.depth = old.depth ∙ same in
    let n_in : n < pages_across pages.depth =
    omega (arith, layer_fits kept pages layer old is same sound, sound.layers) in
    let long : length (get_or old.version.layers n []) ≡ length (get_or pages.layers n []) =
    old.sound.rows n (subst (λ depth. n < pages_across depth) (sym depth_is) n_in)
    ∙ ap (λ depth. pages_across depth * pages_across depth) depth_is
    ∙ sym (sound.rows n n_in) in
    All-weaker (IsPageOf (get_or old.version.layers n []))
    (λ page. page.number < length (get_or pages.layers n []))
    (λ page of. omega (arith, of.within, long)) layer.pages is.pages

-- an old layer that is read from a list of them is one of them
read_layer : (kept : OldPages) (olds : List OldLayer) (k : ℕ) (layer : OldLayer)
    (old : AreVersionPages kept) → olds ≡ kept.layers → k < length olds
    → layer ≡ get_or olds k layer → IsLayerOf old.version layer
read_layer kept olds k layer old is k_in read =
    subst (IsLayerOf old.version) (sym (read ∙ ap (λ os. get_or os k layer) is))
    (old.each k layer (omega (arith, k_in, ap length is)))

-- so it has a place
pub layer_place : (kept : OldPages) (pages : Pages) (olds : List OldLayer) (k : ℕ)
    (layer : OldLayer) → AreVersionPages kept → olds ≡ kept.layers → kept.depth ≡ pages.depth
    → IsVersion pages → k < length olds → layer ≡ get_or olds k layer
    → layer.number < length pages.layers
layer_place kept pages olds k layer old is same sound k_in read =
    layer_fits kept pages layer old (read_layer kept olds k layer old is k_in read) same sound

-- and so do its pages
pub page_places : (kept : OldPages) (pages : Pages) (olds : List OldLayer) (k : ℕ)
    (layer : OldLayer) → AreVersionPages kept → olds ≡ kept.layers → kept.depth ≡ pages.depth
    → IsVersion pages → k < length olds → layer ≡ get_or olds k layer
    → All (λ page. page.number < length (get_or pages.layers layer.number [])) layer.pages
page_places kept pages olds k layer old is same sound k_in read =
    pages_fit kept pages layer old (read_layer kept olds k layer old is k_in read) same sound

-- ---- how many there are

-- pages whose numbers rise to below an end are no more than the numbers
few_in_layer : (least end : ℕ) (pages : List OldPage) → least ≤ end → PagesRise least pages
    → All (λ page. page.number < end) pages → least + length pages ≤ end
few_in_layer least end [] from rise below = omega arith
few_in_layer least end (page ∷ pages) from rise below =
    let here : page.number < end = All-head (λ page. page.number < end) page pages below in
    let first : least ≤ page.number = rise.0 in
    let rest = few_in_layer (page.number + 1) end pages (omega arith) rise.1
    (All-tail (λ page. page.number < end) page pages below) in
    omega (arith, here, first, rest)

-- the most pages of a layer
abbrev MOST : ℕ
MOST = MAX_ACROSS * MAX_ACROSS

-- an old layer with a number below an end has no more pages than a layer of the largest world
pub record IsFew (end : ℕ) (layer : OldLayer) : Type 0 where
  pub below : layer.number < end
  pub few : length layer.pages ≤ MOST

-- so the pages of all layers are no more than those of the largest world
few_in_layers : (least end : ℕ) (layers : List OldLayer) → least ≤ end → LayersRise least layers
    → All (IsFew end) layers → page_count layers + least * MOST ≤ end * MOST
few_in_layers least end [] from rise few = omega arith
few_in_layers least end (layer ∷ layers) from rise few =
    let here : IsFew end layer = All-head (IsFew end) layer layers few in
    let first : least ≤ layer.number = rise.0 in
    let below : layer.number < end = here.below in
    let rest = few_in_layers (layer.number + 1) end layers (omega arith) rise.1
    (All-tail (IsFew end) layer layers few) in
    omega (arith, here.few, first, below, rest)

-- the square of a number of pages in a row
few_square : (a : ℕ) → a ≤ MAX_ACROSS → a * a ≤ MOST
few_square a few = mul-le-mul few few

-- old pages are few
pub few_pages : (kept : OldPages) → AreVersionPages kept
    → ((depth : ℕ) → IsDepth depth → 2 ^ depth ≤ 2 ^ MAX_DEPTH)
    → page_count kept.layers ≤ MAX_ACROSS * MAX_ACROSS * MAX_ACROSS
few_pages kept old powers =
    let version = old.version in
    let across : pages_across version.depth ≤ MAX_ACROSS =
    omega (arith, powers version.depth old.sound.depth) in
    let few : All (IsFew MAX_ACROSS) kept.layers =
    λ k d k_in.
    let layer = get_or kept.layers k d in
    let is = old.each k d k_in in
    let number : layer.number < pages_across version.depth =
    omega (arith, is.within, old.sound.layers) in
    let row = old.sound.rows layer.number number in
    let most : pages_across version.depth * pages_across version.depth ≤ MOST =
    few_square (pages_across version.depth) across in
    let in_row = few_in_layer 0 (length (get_or version.layers layer.number [])) layer.pages
    (omega arith) is.rise
    (All-weaker (IsPageOf (get_or version.layers layer.number []))
    (λ page. page.number < length (get_or version.layers layer.number []))
    (λ page of. of.within) layer.pages is.pages) in
    record { below = omega (arith, number, across); few = omega (arith, in_row, row, most) } in
    omega (arith, few_in_layers 0 MAX_ACROSS kept.layers (omega arith) old.rise few)
