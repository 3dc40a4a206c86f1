-- What an edit keeps as it goes up the pages of a layer, and the layers of a version: the clauses `kept` of
-- `Layer::revise` and `Version::revise_kept`.
-- So far old pages were kept of those below a number alone, by rising numbers (ArePagesKept). A page that stays adds
-- none (left); one that changes is kept as it was (push): put back last, after all others, it makes up for the change,
-- since the others lie elsewhere (layer_restored-push, layer_restored-set). The same of layers (AreLayersKept), in
-- which the place of a page is taken by the kept pages of a layer. In the end they are all that changed
-- (AreChanged-from), and pages of the old version (AreVersionPages-from).
use Rattle.std.proofs.Common.{◌≡◌, ◌≢◌, ℕ, ◌+◌, ◌<◌, ◌≤◌, List, [], ◌∷◌, ◌++◌, ℤ, length, get_or, set, All, refl, sym, ap, ◌∙◌, subst, arith}
use Rattle.std.proofs.lemmas.List.{get_or-set_other, get_or-set_same, set_comm, set-get_or, set-set}
use Rattle.std.proofs.lemmas.List.Elements.{All-head, All-nil, All-push, All-tail, All-weaker}
use Rattle.field_pages.specs.Kept.{AreChanged, AreChangedPages, AreVersionPages, IsChangedLayer, IsLayerOf, IsPageOf, LayersRise, OldLayer, OldPage, PagesRise, layer_restored, layers_restored}
use Rattle.field_pages.specs.Pages.{IsVersion, Pages}

-- ---- the pages of a layer

-- one page more is put back last
layer_restored-push : (pages : List OldPage) (page : OldPage) (layer : List (List ℤ))
    → layer_restored (pages ++ page ∷ []) layer
    ≡ set (layer_restored pages layer) page.number page.samples
layer_restored-push [] page layer = refl
layer_restored-push (first ∷ pages) page layer =
    layer_restored-push pages page (set layer first.number first.samples)

-- a page above those that are put back may change before or after
layer_restored-set : (pages : List OldPage) (layer : List (List ℤ)) (k : ℕ) (x : List ℤ)
    → All (λ page. page.number < k) pages
    → layer_restored pages (set layer k x) ≡ set (layer_restored pages layer) k x
layer_restored-set [] layer k x below = refl
layer_restored-set (page ∷ pages) layer k x below =
    let first : page.number < k = All-head (λ page. page.number < k) page pages below in
    let other : k ≢ page.number = omega arith in
    ap (layer_restored pages) (set_comm layer k page.number x page.samples other)
    ∙ layer_restored-set pages (set layer page.number page.samples) k x
    (All-tail (λ page. page.number < k) page pages below)

-- a number above all others rises
PagesRise-push : (least : ℕ) (pages : List OldPage) (page : OldPage) → least ≤ page.number
    → All (λ p. p.number < page.number) pages → PagesRise least pages
    → PagesRise least (pages ++ page ∷ [])
PagesRise-push least [] page from below rise = (from, tt)
PagesRise-push least (first ∷ pages) page from below rise =
    let here : first.number < page.number =
    All-head (λ p. p.number < page.number) first pages below in (
      rise.0,
      PagesRise-push (first.number + 1) pages page (omega arith)
          (All-tail (λ p. p.number < page.number) first pages below) rise.1,
    )

-- old pages are just those that changed, and have numbers below this one
pub record ArePagesKept (k : ℕ) (old new : List (List ℤ)) (pages : List OldPage) : Type 0 where
  pub changed : AreChangedPages old new pages
  pub below : All (λ page. page.number < k) pages

-- at first none changed
pub ArePagesKept-start : (k : ℕ) (old : List (List ℤ)) (pages : List OldPage) → pages ≡ []
    → ArePagesKept k old old pages
ArePagesKept-start k old pages none =
    subst (ArePagesKept k old old) (sym none) (record {
      changed = record {
        back = refl;
        differ = All-nil (λ page. page.samples ≢ get_or old page.number []);
        same = All-nil (IsPageOf old);
        rise = tt;
      };
      below = All-nil (λ page. page.number < k);
    })

-- a page stays
pub ArePagesKept-left : (k : ℕ) (old new : List (List ℤ)) (pages : List OldPage)
    → ArePagesKept k old new pages → ArePagesKept (k + 1) old new pages
ArePagesKept-left k old new pages so_far = record {
  changed = so_far.changed;
  below = All-weaker (λ page. page.number < k) (λ page. page.number < k + 1)
      (λ page h. omega arith) pages so_far.below;
}

-- a page changes, and is kept as it was
pub ArePagesKept-push : (k : ℕ) (old new : List (List ℤ)) (pages : List OldPage) (page : OldPage)
    (x : List ℤ) → k < length old → length new ≡ length old → page.number ≡ k
    → page.samples ≡ get_or old k [] → page.samples ≢ x → ArePagesKept k old new pages
    → ArePagesKept (k + 1) old (set new k x) (pages ++ page ∷ [])
ArePagesKept-push k old new pages page x within long number samples apart so_far =
    let changed = so_far.changed in
    let k_in : k < length new = omega (arith, long, within) in
    let back : layer_restored (pages ++ page ∷ []) (set new k x) ≡ old =
    layer_restored-push pages page (set new k x)
    ∙ (λ i. set (layer_restored-set pages new k x so_far.below i) (number i) (samples i))
    ∙ ap (λ l. set (set l k x) k (get_or old k [])) changed.back
    ∙ set-set old k x (get_or old k [])
    ∙ set-get_or old k [] in
    let others : All (λ p. p.samples ≢ get_or (set new k x) p.number []) pages =
    λ n d n_in same.
    changed.differ n d n_in (same ∙ get_or-set_other new k (get_or pages n d).number x []
    (let h = so_far.below n d n_in in omega arith)) in
    let this : page.samples ≢ get_or (set new k x) page.number [] =
    λ same. apart (same ∙ ap (λ m. get_or (set new k x) m []) number
    ∙ get_or-set_same new k x [] k_in) in
    record {
      changed = record {
        back = back;
        differ = All-push (λ p. p.samples ≢ get_or (set new k x) p.number []) pages page others
            this;
        same = All-push (IsPageOf old) pages page changed.same (record {
          within = omega (arith, number, within);
          same = samples ∙ ap (λ m. get_or old m []) (sym number);
        });
        rise = PagesRise-push 0 pages page (omega arith)
            (subst (λ m. All (λ p. p.number < m) pages) (sym number) so_far.below) changed.rise;
      };
      below = All-push (λ p. p.number < k + 1) pages page
          (All-weaker (λ p. p.number < k) (λ p. p.number < k + 1) (λ p h. omega arith) pages
          so_far.below)
          (omega (arith, number));
    }

-- ---- the layers of a version

-- the pages of one layer more are put back last
layers_restored-push : (olds : List OldLayer) (old : OldLayer) (layers : List (List (List ℤ)))
    → layers_restored (olds ++ old ∷ []) layers
    ≡ set (layers_restored olds layers) old.number
    (layer_restored old.pages (get_or (layers_restored olds layers) old.number []))
layers_restored-push [] old layers = refl
layers_restored-push (first ∷ olds) old layers =
    layers_restored-push olds old (set layers first.number
    (layer_restored first.pages (get_or layers first.number [])))

-- a layer above those whose pages are put back may change before or after
layers_restored-set : (olds : List OldLayer) (layers : List (List (List ℤ))) (k : ℕ)
    (x : List (List ℤ)) → All (λ old. old.number < k) olds
    → layers_restored olds (set layers k x) ≡ set (layers_restored olds layers) k x
layers_restored-set [] layers k x below = refl
layers_restored-set (old ∷ olds) layers k x below =
    let n = old.number in
    let first : n < k = All-head (λ old. old.number < k) old olds below in
    let other : n ≢ k = omega arith in
    let apart : k ≢ n = omega arith in
    ap (layers_restored olds)
    (ap (λ layer. set (set layers k x) n (layer_restored old.pages layer))
    (get_or-set_other layers k n x [] other)
    ∙ set_comm layers k n x (layer_restored old.pages (get_or layers n [])) apart)
    ∙ layers_restored-set olds
    (set layers n (layer_restored old.pages (get_or layers n []))) k x
    (All-tail (λ old. old.number < k) old olds below)

-- a number above all others rises
LayersRise-push : (least : ℕ) (olds : List OldLayer) (old : OldLayer) → least ≤ old.number
    → All (λ l. l.number < old.number) olds → LayersRise least olds
    → LayersRise least (olds ++ old ∷ [])
LayersRise-push least [] old from below rise = (from, tt)
LayersRise-push least (first ∷ olds) old from below rise =
    let here : first.number < old.number =
    All-head (λ l. l.number < old.number) first olds below in (
      rise.0,
      LayersRise-push (first.number + 1) olds old (omega arith)
          (All-tail (λ l. l.number < old.number) first olds below) rise.1,
    )

-- old layers have just the pages that changed, and numbers below this one
pub record AreLayersKept (k : ℕ) (old new : List (List (List ℤ))) (olds : List OldLayer) : Type 0
  where
    pub back : layers_restored olds new ≡ old
    pub each : All (IsChangedLayer old new) olds
    pub rise : LayersRise 0 olds
    pub below : All (λ layer. layer.number < k) olds

-- at first none changed
pub AreLayersKept-start : (k : ℕ) (old new : List (List (List ℤ))) (olds : List OldLayer)
    → new ≡ old → olds ≡ [] → AreLayersKept k old new olds
AreLayersKept-start k old new olds same none =
    subst (λ l. AreLayersKept k old l olds) (sym same)
    (subst (AreLayersKept k old old) (sym none) (record {
      back = refl;
      each = All-nil (IsChangedLayer old old);
      rise = tt;
      below = All-nil (λ layer. layer.number < k);
    }))

-- a layer stays
pub AreLayersKept-left : (k : ℕ) (old new : List (List (List ℤ))) (olds : List OldLayer)
    → AreLayersKept k old new olds → AreLayersKept (k + 1) old new olds
AreLayersKept-left k old new olds so_far = record {
  back = so_far.back;
  each = so_far.each;
  rise = so_far.rise;
  below = All-weaker (λ layer. layer.number < k) (λ layer. layer.number < k + 1)
      (λ layer h. omega arith) olds so_far.below;
}

-- a layer changes, and its pages that do are kept
pub AreLayersKept-push : (k : ℕ) (old new : List (List (List ℤ))) (olds : List OldLayer)
    (layer : OldLayer) (x : List (List ℤ)) → k < length old → length new ≡ length old
    → layer.number ≡ k → AreChangedPages (get_or old k []) x layer.pages
    → AreLayersKept k old new olds → AreLayersKept (k + 1) old (set new k x) (olds ++ layer ∷ [])
AreLayersKept-push k old new olds layer x within long number changed so_far =
    let k_in : k < length new = omega (arith, long, within) in
    let k_old : k < length old = within in
    let put : layers_restored olds (set new k x) ≡ set old k x =
    layers_restored-set olds new k x so_far.below ∙ ap (λ l. set l k x) so_far.back in
    let back : layers_restored (olds ++ layer ∷ []) (set new k x) ≡ old =
    layers_restored-push olds layer (set new k x)
    ∙ (λ i. set (put i) (number i) (layer_restored layer.pages (get_or (put i) (number i) [])))
    ∙ ap (λ l. set (set old k x) k (layer_restored layer.pages l))
    (get_or-set_same old k x [] k_old)
    ∙ ap (λ l. set (set old k x) k l) changed.back
    ∙ set-set old k x (get_or old k [])
    ∙ set-get_or old k [] in
    let others : All (IsChangedLayer old (set new k x)) olds =
    λ n d n_in.
    let one = get_or olds n d in
    let was = so_far.each n d n_in in
    let other : one.number ≢ k = (let h = so_far.below n d n_in in omega arith) in
    record {
      within = was.within;
      pages = subst (λ l. AreChangedPages (get_or old one.number []) l one.pages)
          (sym (get_or-set_other new k one.number x [] other)) was.pages;
    } in
    let this : IsChangedLayer old (set new k x) layer = record {
      within = omega (arith, number, within);
      pages = subst (λ m. AreChangedPages (get_or old m []) (get_or (set new k x) m []) layer.pages)
          (sym number)
          (subst (λ l. AreChangedPages (get_or old k []) l layer.pages)
          (sym (get_or-set_same new k x [] k_in)) changed);
    } in
    record {
      back = back;
      each = All-push (IsChangedLayer old (set new k x)) olds layer others this;
      rise = LayersRise-push 0 olds layer (omega arith)
          (subst (λ m. All (λ l. l.number < m) olds) (sym number) so_far.below) so_far.rise;
      below = All-push (λ l. l.number < k + 1) olds layer
          (All-weaker (λ l. l.number < k) (λ l. l.number < k + 1) (λ l h. omega arith) olds
          so_far.below)
          (omega (arith, number));
    }

-- in the end they are all that changed
pub AreChanged-from : (k : ℕ) (old : Pages) (new : List (List (List ℤ))) (olds : List OldLayer)
    → AreLayersKept k old.layers new olds
    → AreChanged old (record { depth = old.depth; layers = new })
    (record { depth = old.depth; layers = olds })
AreChanged-from k old new olds kept = record {
  depth = refl;
  back = λ i. record { depth = old.depth; layers = kept.back i };
  each = kept.each;
  rise = kept.rise;
}

-- and pages of the old version
pub AreVersionPages-from : (k : ℕ) (old : Pages) (new : List (List (List ℤ)))
    (olds : List OldLayer) → IsVersion old → AreLayersKept k old.layers new olds
    → AreVersionPages (record { depth = old.depth; layers = olds })
AreVersionPages-from k old new olds sound kept = record {
  version = old;
  sound = sound;
  depth = refl;
  each = All-weaker (IsChangedLayer old.layers new) (IsLayerOf old)
      (λ layer is. record {
        within = is.within;
        pages = is.pages.same;
        rise = is.pages.rise;
      }) olds kept.each;
  rise = kept.rise;
}
