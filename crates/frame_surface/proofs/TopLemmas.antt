-- The height of a hit, rounded down, is what trying finds: what `height_over` returns.
--
-- What is found by trying is there, and what is there is found (`below-found`, `below-from`, `weights-found`,
-- `weights-from`), so a height is reached exactly where a triangle covers it or a greater one (`reached-found`,
-- `reached-from`). The whole part of the highest one is reached, and no greater number (`height-hit`); where nothing is
-- covered, none is (`height-none`). A hit's height is in the world (`height-within`).
use Rattle.std.proofs.Common.{◌≡◌, ℕ, zero, suc, ◌+◌, ◌*◌, ◌^◌, ◌<◌, ◌≤◌, Bool, true, false, ◌&&◌, ◌||◌, List, [], ◌∷◌, length, map, inl, inr, refl, sym, ap, subst, ◌∙◌, arith}
use Rattle.std.specs.Prelude.{All, ◌/◌, ◌==◌, nat_le, None, Some}
use Rattle.std.specs.List.{list_any}
use Rattle.std.proofs.Math.Nat.{div-le_of_le-mul, div-mul-le_self, mul-le-mul_left, mul-lt-mul_of_pos_left}
use Rattle.std.proofs.lemmas.Bool.{and_from, and_parts, cases_Bool, cases_lt, cond-false, cond-true, eq-eqb, eqb-true, false_from_ne_true, le-leb, leb-true, or_left, or_right}
use Rattle.std.proofs.lemmas.List.Elements.{All-weaker}
use Rattle.std.proofs.lemmas.List.Folds.{list_any_at}
use Rattle.std.proofs.lemmas.Nat.{le-div}
use Rattle.lattice.proofs.SizeLemmas.{corner_inside}
use Rattle.lattice.specs.declared.node.Node.{Node}
use Rattle.lattice.specs.declared.point.Pos.{Pos}
use Rattle.lattice.specs.declared.point.TheConstants.{UNITS}
use Rattle.lattice.specs.Laws.{NodesAreListed}
use Rattle.lattice.specs.Node.{nodes}
use Rattle.lattice.specs.Settings.{world_side}
use Rattle.frame_surface.specs.Best.{IsBare, IsHighest, IsReached}
use Rattle.frame_surface.specs.Columns.{StandsOverNodes}
use Rattle.frame_surface.specs.Heights.{Covers, weight_sum, weighed}
use Rattle.frame_surface.proofs.SurfaceLemmas.{weighed-high}
use Rattle.frame_surface.specs.Surface.{LiesIn, Surface}
use Rattle.frame_surface.specs.Tops.{greatest_below, height_over, is_over, is_reached, reaches, some_below, some_weights}
use Rattle.frame_surface.specs.declared.hit.Hit.{Hit}

-- ---- trying numbers

-- a number that was found
below-found : (n : ℕ) (test : ℕ → Bool) → some_below n test ≡ true
    → (k : ℕ) × (k < n) × (test k ≡ true)
unfolding some_below
below-found zero test is = absurd (cc)
below-found (suc n) test is = elim (cases_Bool (test n)) [
  | inl holds ↦ (n, omega arith, holds)
  | inr lacks ↦
      let found = below-found n test (subst (λ b. (b || some_below n test) ≡ true) lacks is) in
      (found.0, omega (arith, found.1), found.2)
]

-- a number is found
below-from : (n k : ℕ) (test : ℕ → Bool) → k < n → test k ≡ true → some_below n test ≡ true
unfolding some_below
below-from zero k test within holds = absurd (omega arith)
below-from (suc n) k test within holds = elim (cases_lt k n) [
  | inl below ↦ or_right (test n) (some_below n test) (below-from n k test below holds)
  | inr not ↦
      let last : k ≡ n = omega arith in
      or_left (test n) (some_below n test) (subst (λ m. test m ≡ true) last holds)
]

-- the greatest number
greatest-some : (n h : ℕ) (test : ℕ → Bool) → h < n → test h ≡ true
    → ((k : ℕ) → h < k → test k ≡ false) → greatest_below n test ≡ Some h
unfolding greatest_below
greatest-some zero h test within holds none = absurd (omega arith)
greatest-some (suc n) h test within holds none = elim (cases_lt h n) [
  | inl below ↦
      cond-false (test n) (Some n) (greatest_below n test) (none n below)
      ∙ greatest-some n h test below holds none
  | inr not ↦
      let last : h ≡ n = omega arith in
      cond-true (test n) (Some n) (greatest_below n test)
      (subst (λ m. test m ≡ true) last holds) ∙ ap Some (sym last)
]

-- no number
greatest-none : (n : ℕ) (test : ℕ → Bool) → ((k : ℕ) → test k ≡ false)
    → greatest_below n test ≡ None
unfolding greatest_below
greatest-none zero test none = refl
greatest-none (suc n) test none =
    cond-false (test n) (Some n) (greatest_below n test) (none n) ∙ greatest-none n test none

-- an item that was found
any-found : {A : Type 0} (test : A → Bool) (xs : List A) → list_any test xs ≡ true
    → (x : A) × (test x ≡ true)
any-found test [] is = absurd (cc)
any-found test (x ∷ xs) is = elim (cases_Bool (test x)) [
  | inl holds ↦ (x, holds)
  | inr lacks ↦ any-found test xs (subst (λ b. (b || list_any test xs) ≡ true) lacks is)
]

-- ---- trying weights

-- weights that were found
weights-found : (bound : ℕ) (corners : List Pos) (test : List ℕ → Bool)
    → some_weights bound corners test ≡ true
    → (ws : List ℕ) × (length ws ≡ length corners) × (test ws ≡ true)
weights-found bound [] test is = ([], refl, is)
weights-found bound (p ∷ ps) test is =
    let one = below-found bound _ is in
    let rest = weights-found bound ps (λ ws. test (one.0 ∷ ws)) one.2 in
    (one.0 ∷ rest.0, omega (arith, rest.1), rest.2)

-- weights are found
weights-from : (bound : ℕ) (corners : List Pos) (ws : List ℕ) (test : List ℕ → Bool)
    → length ws ≡ length corners → weight_sum ws < bound → test ws ≡ true
    → some_weights bound corners test ≡ true
weights-from bound [] [] test each small holds = holds
weights-from bound [] (w ∷ ws) test each small holds = absurd (omega arith)
weights-from bound (p ∷ ps) [] test each small holds = absurd (omega arith)
weights-from bound (p ∷ ps) (w ∷ ws) test each small holds =
    below-from bound w _ (omega arith)
    (weights-from bound ps ws (λ vs. test (w ∷ vs)) (omega arith) (omega arith) holds)

-- ---- heights of a triangle

module _ (corners : List Pos) (x y h : ℕ) where
  -- the sum of the corners' coordinates along x by weights
  abbrev xs : List ℕ → ℕ
  xs ws = weighed ws (map (λ (p : Pos). p.x) corners)

  -- along y
  abbrev ys : List ℕ → ℕ
  ys ws = weighed ws (map (λ (p : Pos). p.y) corners)

  -- along z
  abbrev zs : List ℕ → ℕ
  zs ws = weighed ws (map (λ (p : Pos). p.z) corners)

  -- whether there is some weight
  abbrev some : List ℕ → Bool
  some ws = nat_le 1 (weight_sum ws)

  -- whether the mean lies over the place along x
  abbrev at_x : List ℕ → Bool
  at_x ws = xs ws == x * weight_sum ws

  -- and along y
  abbrev at_y : List ℕ → Bool
  at_y ws = ys ws == y * weight_sum ws

  -- whether it is at least so high
  abbrev high : List ℕ → Bool
  high ws = nat_le (h * weight_sum ws) (zs ws)

  -- a height that is covered, and at least so high
  pub record IsReach : Type 0 where
    pub num : ℕ
    pub den : ℕ
    pub covers : Covers corners x y num den
    pub above : h * den ≤ num

  -- what reaches a height covers it or a greater one
  reaches-found : reaches corners x y h ≡ true → IsReach
  reaches-found is =
      let found = weights-found (2 ^ 63) corners (is_over corners x y h) is in
      let ws = found.0 in
      let all = and_parts (some ws && at_x ws && at_y ws) (high ws) found.2 in
      let three = and_parts (some ws && at_x ws) (at_y ws) all.0 in
      let two = and_parts (some ws) (at_x ws) three.0 in record {
        num = zs ws;
        den = weight_sum ws;
        covers = record {
          weights = ws;
          each = found.1;
          some = leb-true 1 (weight_sum ws) two.0;
          sum_is = refl;
          x_is = eqb-true (xs ws) (x * weight_sum ws) two.1;
          y_is = eqb-true (ys ws) (y * weight_sum ws) three.1;
          z_is = refl;
        };
        above = leb-true (h * weight_sum ws) (zs ws) all.1;
      }

  -- and what covers it reaches it
  reaches-from : (num den : ℕ) → Covers corners x y num den → den < 2 ^ 63 → h * den ≤ num
      → reaches corners x y h ≡ true
  reaches-from num den covers small above =
      let ws = covers.weights in
      let sum = covers.sum_is in
      weights-from (2 ^ 63) corners ws (is_over corners x y h) covers.each
      (omega (arith, sum, small))
      (and_from (some ws && at_x ws && at_y ws) (high ws)
      (and_from (some ws && at_x ws) (at_y ws)
      (and_from (some ws) (at_x ws) (le-leb 1 (weight_sum ws) (omega (arith, sum, covers.some)))
      (eq-eqb (xs ws) (x * weight_sum ws) (covers.x_is ∙ ap (λ d. x * d) (sym sum))))
      (eq-eqb (ys ws) (y * weight_sum ws) (covers.y_is ∙ ap (λ d. y * d) (sym sum))))
      (le-leb (h * weight_sum ws) (zs ws)
      (omega (arith, above, covers.z_is, ap (λ d. h * d) sum))))

-- ---- heights of a surface

module _ (depth : ℕ) (surface : Surface) (x y : ℕ) where
  -- a triangle of a node that reaches a height
  record IsReachOf (h : ℕ) : Type 0 where
    node : Node
    triangle : ℕ
    reach : IsReach (surface node triangle) x y h

  -- what is reached is reached by a triangle
  reached-found : (h : ℕ) → is_reached depth surface x y h ≡ true → IsReachOf h
  reached-found h is =
      let of_node = any-found _ (nodes depth) is in
      let of_triangle = below-found (2 ^ 32) _ of_node.1 in record {
        node = of_node.0;
        triangle = of_triangle.0;
        reach = reaches-found (surface of_node.0 of_triangle.0) x y h of_triangle.2;
      }

  module _ (listed : NodesAreListed) (stands : StandsOverNodes depth surface) where
    -- what a triangle covers is reached
    reached-from : (h num den : ℕ) (n : Node) (i : ℕ) → i < 2 ^ 32 → den < 2 ^ 63
        → Covers (surface n i) x y num den → h * den ≤ num
        → is_reached depth surface x y h ≡ true
    reached-from h num den n i few small covers above =
        let place = (listed depth n).0 (stands.node n i x y num den covers) in
        let test : Node → Bool = λ m. some_below (2 ^ 32) (λ j. reaches (surface m j) x y h) in
        let own = below-from (2 ^ 32) i (λ j. reaches (surface n j) x y h) few
        (reaches-from (surface n i) x y h num den covers small above) in
        list_any_at test (nodes depth) place.0 n place.1
        (subst (λ m. test m ≡ true) (sym place.2) own)

    -- no greater number than the whole part of the highest height is reached
    above-whole : (hit : Hit) (w k : ℕ) → IsHighest surface x y hit
        → hit.num < (w + 1) * hit.den → w < k → is_reached depth surface x y k ≡ true → ⊥
    above-whole hit w k highest whole above is =
        let found = reached-found k is in
        let r = found.reach in
        let most : r.num * hit.den ≤ hit.num * r.den =
        highest found.node found.triangle r.num r.den r.covers in
        let scaled : hit.den * (k * r.den) ≤ hit.den * r.num = mul-le-mul_left hit.den r.above in
        let next : hit.den * (w + 1) ≤ hit.den * k = mul-le-mul_left hit.den (omega arith) in
        let under : hit.num < k * hit.den = omega (arith, whole, next) in
        let strict : r.den * hit.num < r.den * (k * hit.den) =
        mul-lt-mul_of_pos_left under r.covers.some in
        omega (arith, most, scaled, strict)

    -- the whole part of a hit's height is the greatest number that is reached
    pub height-hit : (hit : Hit) → hit.triangle < 2 ^ 32 → hit.den < 2 ^ 63
        → hit.num / hit.den ≤ UNITS * world_side depth
        → IsReached surface x y hit → IsHighest surface x y hit
        → height_over depth surface x y ≡ Some (hit.num / hit.den)
    height-hit hit few small within reached highest =
        let w = hit.num / hit.den in
        let whole : hit.num < (w + 1) * hit.den = elim (cases_lt hit.num ((w + 1) * hit.den)) [
          | inl below ↦ below
          | inr not ↦
              let more = le-div (w + 1) hit.num hit.den reached.some (omega (arith, not)) in
              absurd (omega (arith, more))
        ] in
        greatest-some (UNITS * world_side depth + 1) w (is_reached depth surface x y)
        (omega (arith, within))
        (reached-from w hit.num hit.den hit.node hit.triangle few small reached
        (div-mul-le_self hit.num hit.den))
        (λ k above. false_from_ne_true (is_reached depth surface x y k)
        (above-whole hit w k highest whole above))

  -- where nothing is covered, no number is reached
  pub height-none : IsBare surface x y → height_over depth surface x y ≡ None
  height-none bare =
      greatest-none (UNITS * world_side depth + 1) (is_reached depth surface x y)
      (λ k. false_from_ne_true (is_reached depth surface x y k) (λ is.
      let found = reached-found k is in
      bare found.node found.triangle found.reach.num found.reach.den found.reach.covers))

-- a hit's height is in the world, as the corners of its triangle are
pub height-within : (depth : ℕ) (surface : Surface) (x y : ℕ) (hit : Hit)
    → StandsOverNodes depth surface → ((n : Node) (i : ℕ) → All (LiesIn n) (surface n i))
    → IsReached surface x y hit → hit.num / hit.den ≤ UNITS * world_side depth
height-within depth surface x y hit stands lie reached =
    let n = hit.node in
    let corners = surface n hit.triangle in
    let node = stands.node n hit.triangle x y hit.num hit.den reached in
    let side = UNITS * world_side depth in
    let inside = (corner_inside depth n node).z in
    let low : All (λ (p : Pos). p.z ≤ side) corners =
    All-weaker (LiesIn n) (λ (p : Pos). p.z ≤ side) (λ p lies. omega (arith, lies.z_end, inside))
    corners (lie n hit.triangle) in
    let most = weighed-high (λ (p : Pos). p.z) side reached.weights corners reached.each low in
    div-le_of_le-mul hit.den
    (omega (arith, most, reached.z_is, ap (λ d. side * d) reached.sum_is))
