-- The surface after a history: what its triangles are, and over which places they stand.
--
-- A leaf has the triangles of its block, and any other node has none (`surface-leaf`, `surface-other`). The corners of
-- a leaf's triangles lie in its cube (`surface-lies`). What covers a place is a mean of corners, so it isn't on either
-- side of all of them (`weighed-low`, `weighed-high`): the leaf's cube lies over the place (`stands`).
use Rattle.std.proofs.Common.{◌≡◌, ℕ, ◌+◌, ◌*◌, ◌^◌, ◌≤◌, Bool, true, false, List, [], ◌∷◌, length, get_or, map, inl, inr, sym, ap, subst, arith}
use Rattle.std.specs.Prelude.{All, if◌then◌else◌, slice_index_or}
use Rattle.std.proofs.Math.Nat.{le_of_mul-le-mul_right, mul-le-mul_left}
use Rattle.std.proofs.lemmas.Bool.{cases_Bool, cases_lt}
use Rattle.std.proofs.lemmas.List.{get_or_past}
use Rattle.std.proofs.lemmas.List.Elements.{All-get_or, All-head, All-map, All-nil, All-tail, All-weaker}
use Rattle.lattice.specs.declared.node.Node.{Node}
use Rattle.lattice.specs.declared.key.Key.{Key}
use Rattle.lattice.specs.declared.point.Pos.{Pos}
use Rattle.lattice.specs.declared.settings.Settings.{Settings}
use Rattle.lattice.specs.Key.{IsKey}
use Rattle.level_laws.proofs.LeafLemmas.{leaf_test}
use Rattle.terrain.specs.declared.event.Event.{Event}
use Rattle.terrain.specs.Blocks.{block, keys_of, place}
use Rattle.terrain.specs.History.{sample}
use Rattle.terrain.specs.Levels.{IsBalanced, IsLeaf, LevelMap, is_leaf, levels}
use Rattle.terrain.specs.Samples.{Field}
use Rattle.vertex_places.proofs.LeafKeyLemmas.{coarse_key, fine_key}
use Rattle.vertex_places.specs.Moves.{FinePointsStay}
use Rattle.frame_surface.proofs.BlockLemmas.{block-hold, keys-hold}
use Rattle.frame_surface.proofs.EndLemmas.{coarse-lies, fine-lies}
use Rattle.frame_surface.specs.Columns.{HoldsPlace, StandsOverNodes}
use Rattle.frame_surface.specs.Heights.{Covers, weight_sum, weighed}
use Rattle.frame_surface.specs.Surface.{LiesIn, surface_after}

-- ---- the keys of a leaf

module _ (stay : FinePointsStay) (depth : ℕ) (s : Field) (m : LevelMap) (n : Node)
    (balanced : IsBalanced depth m) (leaf : IsLeaf depth m n) where
  -- a key has its vertex in the leaf
  abbrev pub Lies : Key → Type 0
  Lies key = LiesIn n (place depth s m key)

  -- all keys of the leaf's triangles have theirs there
  pub block-lies : All (All Lies) (block depth s m n)
  block-lies =
      block-hold depth s m n Lies balanced
      (λ at axis most. coarse-lies depth s m n at axis leaf most)
      (λ some at axis most. fine-lies stay depth s m n at axis balanced leaf some most)

  -- and so have the keys that the leaf's mesh lists
  pub keys-lie : All Lies (keys_of (block depth s m n))
  keys-lie =
      keys-hold depth s m n Lies balanced
      (λ at axis most. coarse-lies depth s m n at axis leaf most)
      (λ some at axis most. fine-lies stay depth s m n at axis balanced leaf some most)

-- the keys of a leaf's mesh are keys of the world
pub keys-known : (depth : ℕ) (s : Field) (m : LevelMap) (n : Node) → IsBalanced depth m
    → IsLeaf depth m n → All (IsKey depth) (keys_of (block depth s m n))
keys-known depth s m n balanced leaf =
    keys-hold depth s m n (IsKey depth) balanced
    (λ at axis most. coarse_key depth n at axis leaf.node most)
    (λ some at axis most. fine_key depth n at axis leaf.node some most)

-- ---- the triangles of a node

module _ (rules : Settings) (history : List Event) (n : Node) where
  -- the place of a key
  abbrev pub place_of : Key → Pos
  place_of = place rules.depth (sample rules history) (levels rules history)

  -- the triangles of the node's block
  abbrev pub triangles : List (List Key)
  triangles = block rules.depth (sample rules history) (levels rules history) n

  -- whether the node is a leaf
  abbrev pub is_one : Bool
  is_one = is_leaf rules.depth (levels rules history) n

  -- the triangles of a leaf
  pub surface-leaf : is_one ≡ true → (i : ℕ)
      → surface_after rules history n i ≡ map place_of (get_or triangles i [])
  unfolding surface_after
  surface-leaf is i =
      ap (λ b. map place_of (slice_index_or (if b then triangles else []) i [])) is

  -- other nodes have none
  pub surface-other : is_one ≡ false → (i : ℕ) → surface_after rules history n i ≡ []
  unfolding surface_after
  surface-other is i =
      ap (λ b. map place_of (slice_index_or (if b then triangles else []) i [])) is

  module _ (stay : FinePointsStay)
      (balanced : IsBalanced rules.depth (levels rules history)) where
    -- the corners of a leaf's triangles lie in it
    pub surface-lies : (i : ℕ) → All (LiesIn n) (surface_after rules history n i)
    surface-lies i = elim (cases_Bool is_one) [
      | inl is ↦
          let leaf = (leaf_test rules.depth (levels rules history) n).0 is in
          let all = block-lies stay rules.depth (sample rules history) (levels rules history) n
          balanced leaf in
          let one : All (λ key. LiesIn n (place_of key)) (get_or triangles i []) =
          elim (cases_lt i (length triangles)) [
            | inl within ↦
                All-get_or (All (λ key. LiesIn n (place_of key))) triangles i [] within all
            | inr past ↦
                subst (All (λ key. LiesIn n (place_of key)))
                (sym (get_or_past triangles i [] past))
                (All-nil (λ key. LiesIn n (place_of key)))
          ] in
          subst (All (LiesIn n)) (sym (surface-leaf is i))
          (All-map (LiesIn n) place_of (get_or triangles i []) one)
      | inr not ↦ subst (All (LiesIn n)) (sym (surface-other not i)) (All-nil (LiesIn n))
    ]

-- ---- means of corners

-- a mean isn't below all
weighed-low : (f : Pos → ℕ) (low : ℕ) (ws : List ℕ) (ps : List Pos) → length ws ≡ length ps
    → All (λ p. low ≤ f p) ps → low * weight_sum ws ≤ weighed ws (map f ps)
weighed-low f low [] ps each all = omega arith
weighed-low f low (w ∷ ws) [] each all = absurd (omega arith)
weighed-low f low (w ∷ ws) (p ∷ ps) each all =
    let one : w * low ≤ w * f p =
    mul-le-mul_left w (All-head (λ p. low ≤ f p) p ps all) in
    let rest = weighed-low f low ws ps (omega arith) (All-tail (λ p. low ≤ f p) p ps all) in
    omega (arith, one, rest)

-- nor above all
pub weighed-high : (f : Pos → ℕ) (high : ℕ) (ws : List ℕ) (ps : List Pos) → length ws ≡ length ps
    → All (λ p. f p ≤ high) ps → weighed ws (map f ps) ≤ high * weight_sum ws
weighed-high f high [] ps each all = omega arith
weighed-high f high (w ∷ ws) [] each all = absurd (omega arith)
weighed-high f high (w ∷ ws) (p ∷ ps) each all =
    let one : w * f p ≤ w * high =
    mul-le-mul_left w (All-head (λ p. f p ≤ high) p ps all) in
    let rest = weighed-high f high ws ps (omega arith) (All-tail (λ p. f p ≤ high) p ps all) in
    omega (arith, one, rest)

-- no corners cover nothing
pub covers-none : (x y n d : ℕ) → Covers [] x y n d → ⊥
covers-none x y n d c = go c.weights c.each c.sum_is c.some
  where
    go : (ws : List ℕ) → length ws ≡ 0 → weight_sum ws ≡ d → 1 ≤ d → ⊥
    go [] each sum some = omega arith
    go (w ∷ ws) each sum some = omega arith

-- so a place that corners in a node cover lies under the node
module _ (n : Node) (corners : List Pos) (x y num den : ℕ) (lie : All (LiesIn n) corners)
    (covers : Covers corners x y num den) where
  -- along x
  holds-x : HoldsPlace n.level n.i x
  holds-x =
      let low = 256 * (n.i * (16 * 2 ^ n.level)) in
      let high = 256 * ((n.i + 1) * (16 * 2 ^ n.level)) in
      let from : low * den ≤ x * den = omega (
        arith,
        weighed-low (λ p. p.x) low covers.weights corners covers.each
            (All-weaker (LiesIn n) (λ p. low ≤ p.x) (λ p l. l.x) corners lie),
        covers.x_is,
        ap (λ t. low * t) covers.sum_is,
      ) in
      let to : x * den ≤ high * den = omega (
        arith,
        weighed-high (λ p. p.x) high covers.weights corners covers.each
            (All-weaker (LiesIn n) (λ p. p.x ≤ high) (λ p l. l.x_end) corners lie),
        covers.x_is,
        ap (λ t. high * t) covers.sum_is,
      ) in
      let from' : low ≤ x = le_of_mul-le-mul_right from covers.some in
      let to' : x ≤ high = le_of_mul-le-mul_right to covers.some in
      record { low = omega (arith, from'); high = omega (arith, to') }

  -- along y
  holds-y : HoldsPlace n.level n.j y
  holds-y =
      let low = 256 * (n.j * (16 * 2 ^ n.level)) in
      let high = 256 * ((n.j + 1) * (16 * 2 ^ n.level)) in
      let from : low * den ≤ y * den = omega (
        arith,
        weighed-low (λ p. p.y) low covers.weights corners covers.each
            (All-weaker (LiesIn n) (λ p. low ≤ p.y) (λ p l. l.y) corners lie),
        covers.y_is,
        ap (λ t. low * t) covers.sum_is,
      ) in
      let to : y * den ≤ high * den = omega (
        arith,
        weighed-high (λ p. p.y) high covers.weights corners covers.each
            (All-weaker (LiesIn n) (λ p. p.y ≤ high) (λ p l. l.y_end) corners lie),
        covers.y_is,
        ap (λ t. high * t) covers.sum_is,
      ) in
      let from' : low ≤ y = le_of_mul-le-mul_right from covers.some in
      let to' : y ≤ high = le_of_mul-le-mul_right to covers.some in
      record { low = omega (arith, from'); high = omega (arith, to') }

-- a surface whose triangles lie in their leaves stands over its nodes
pub stands : (rules : Settings) (history : List Event)
    → ((n : Node) (i : ℕ) → All (LiesIn n) (surface_after rules history n i))
    → StandsOverNodes rules.depth (surface_after rules history)
stands rules history lie = record {
  node = λ n i x y num den covers.
      elim (cases_Bool (is_one rules history n)) [
        | inl is ↦ ((leaf_test rules.depth (levels rules history) n).0 is).node
        | inr not ↦
            absurd (covers-none x y num den
            (subst (λ t. Covers t x y num den) (surface-other rules history n not i) covers))
      ];
  x = λ n i x y num den covers.
      holds-x n (surface_after rules history n i) x y num den (lie n i) covers;
  y = λ n i x y num den covers.
      holds-y n (surface_after rules history n i) x y num den (lie n i) covers;
}
