-- What an edit keeps of the version before it, by which it can be undone: the pages in which a sample changed, as they
-- were.
-- Source: this project's rule.
use Rattle.std.specs.Prelude.{◌≡◌, ◌≢◌, ℕ, ◌+◌, ◌<◌, ◌≤◌, List, [], ◌∷◌, ℤ, All, length, slice_index_or, slice_set}
use Rattle.field_pages.specs.Pages.{IsVersion, Pages}

-- a page as it was: its number in its layer, and its samples
pub record OldPage : Type 0 where
  pub number : ℕ
  pub samples : List ℤ

-- the old pages of a layer, and the layer's number
pub record OldLayer : Type 0 where
  pub number : ℕ
  pub pages : List OldPage

-- the old pages of a version, and its depth
pub record OldPages : Type 0 where
  pub depth : ℕ
  pub layers : List OldLayer

-- how many pages some layers have
abbrev pub page_count : List OldLayer → ℕ
page_count [] = 0
page_count (layer ∷ layers) = length layer.pages + page_count layers

-- ---- what it is to put them back

-- a layer once old pages were put back into their places
abbrev pub layer_restored : List OldPage → List (List ℤ) → List (List ℤ)
layer_restored [] layer = layer
layer_restored (page ∷ pages) layer =
    layer_restored pages (slice_set layer page.number page.samples)

-- layers once old pages of some of them were put back
abbrev pub layers_restored : List OldLayer → List (List (List ℤ)) → List (List (List ℤ))
layers_restored [] layers = layers
layers_restored (old ∷ olds) layers =
    layers_restored olds (slice_set layers old.number
    (layer_restored old.pages (slice_index_or layers old.number [])))

-- a version once old pages were put back
abbrev pub restored : OldPages → Pages → Pages
restored old pages =
    record { depth = pages.depth; layers = layers_restored old.layers pages.layers }

-- ---- which pages are kept

-- an old page is one of a layer
pub record IsPageOf (layer : List (List ℤ)) (page : OldPage) : Type 0 where
  pub within : page.number < length layer
  pub same : page.samples ≡ slice_index_or layer page.number []

-- the numbers of old pages rise, from this one on
abbrev pub PagesRise : ℕ → List OldPage → Type 0
PagesRise least [] = Unit {0}
PagesRise least (page ∷ pages) = (least ≤ page.number) × PagesRise (page.number + 1) pages

-- the same of layers
abbrev pub LayersRise : ℕ → List OldLayer → Type 0
LayersRise least [] = Unit {0}
LayersRise least (layer ∷ layers) = (least ≤ layer.number) × LayersRise (layer.number + 1) layers

-- pages are those of a layer that a new one hasn't, each once: put back into the new layer they make the old one, and
-- each differs from the page that is in its place in the new one
pub record AreChangedPages (old new : List (List ℤ)) (pages : List OldPage) : Type 0 where
  pub back : layer_restored pages new ≡ old
  pub differ : All (λ page. page.samples ≢ slice_index_or new page.number []) pages
  pub same : All (IsPageOf old) pages
  pub rise : PagesRise 0 pages

-- the same of the layer with a number, of all layers
pub record IsChangedLayer (old new : List (List (List ℤ))) (layer : OldLayer) : Type 0 where
  pub within : layer.number < length old
  pub pages : AreChangedPages (slice_index_or old layer.number [])
      (slice_index_or new layer.number []) layer.pages

-- old pages are just those of a version in which a sample is another one in a new version, each once: put back into the
-- new version they make the old one
pub record AreChanged (old new : Pages) (kept : OldPages) : Type 0 where
  pub depth : kept.depth ≡ old.depth
  pub back : restored kept new ≡ old
  pub each : All (IsChangedLayer old.layers new.layers) kept.layers
  pub rise : LayersRise 0 kept.layers

-- the pages of an old layer are those of a version, each once
pub record IsLayerOf (version : Pages) (layer : OldLayer) : Type 0 where
  pub within : layer.number < length version.layers
  pub pages : All (IsPageOf (slice_index_or version.layers layer.number [])) layer.pages
  pub rise : PagesRise 0 layer.pages

-- what old pages always are: pages of some version, each once
pub record AreVersionPages (kept : OldPages) : Type 0 where
  pub version : Pages
  pub sound : IsVersion version
  pub depth : version.depth ≡ kept.depth
  pub each : All (IsLayerOf version) kept.layers
  pub rise : LayersRise 0 kept.layers
