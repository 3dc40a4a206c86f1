-- The best hit among the triangles before a bound, as the bound moves on.
--
-- It stays the best where no triangle that is passed covers anything (`moved_on`). One triangle more is the bound's own
-- (`one_more`): the hit stays where that covers nothing higher (`kept`), and else that triangle's height takes its
-- place (`taken`). `better-none`, `better-kept` and `better-taken` say so of what `better` returns.
use Rattle.std.proofs.Common.{◌≡◌, ℕ, ◌+◌, ◌*◌, ◌<◌, ◌≤◌, ◌⊎◌, inl, inr, refl, sym, subst, arith}
use Rattle.std.specs.Prelude.{IfSome, None, Option, Some}
use Rattle.std.proofs.Math.Nat.{lt_of_mul-lt-mul_left, mul-le-mul_left, mul-lt-mul_of_pos_left}
use Rattle.std.proofs.lemmas.Bool.{cases_lt}
use Rattle.lattice.specs.declared.node.Node.{Node}
use Rattle.frame_surface.proofs.HeightLemmas.{through}
use Rattle.frame_surface.specs.Heights.{Covers, IsAtMost, IsHeight}
use Rattle.frame_surface.specs.Scan.{IsBest, IsBestBefore}
use Rattle.frame_surface.specs.Surface.{IsEarlier, Surface}
use Rattle.frame_surface.specs.declared.height.Height.{Height}
use Rattle.frame_surface.specs.declared.hit.Hit.{Hit}

-- through a height between two others, the second of which is greater
through-less : (n d a b p q : ℕ) → 0 < d → n * b ≤ a * d → a * q < p * b → n * q < p * d
through-less n d a b p q some low high =
    let first : q * (n * b) ≤ q * (a * d) = mul-le-mul_left q low in
    let second : d * (a * q) < d * (p * b) = mul-lt-mul_of_pos_left high some in
    let scaled : b * (n * q) < b * (p * d) = omega (arith, first, second) in
    lt_of_mul-lt-mul_left b scaled

-- a triangle before the next one is before this one, or is this one
one_more : (n m : Node) (i t : ℕ) → IsEarlier n i m (t + 1)
    → IsEarlier n i m t ⊎ ((n ≡ m) × (i ≡ t))
one_more n m i t (inl before) = inl (inl before)
one_more n m i t (inr (same, less)) = elim (cases_lt i t) [
  | inl earlier ↦ inl (inr (same, earlier))
  | inr not_earlier ↦ inr (same, omega arith)
]

-- what is before one is before the next
one_on : (n m : Node) (i t : ℕ) → IsEarlier n i m t → IsEarlier n i m (t + 1)
one_on n m i t (inl before) = inl before
one_on n m i t (inr (same, less)) = inr (same, omega arith)

module _ (s : Surface) (x y : ℕ) where
  -- the bound moves on past triangles that cover nothing
  pub moved_on : (b b' : Node) (t t' : ℕ) (o : Option Hit)
      → ((n : Node) (i : ℕ) → IsEarlier n i b t → IsEarlier n i b' t')
      → ((n : Node) (i num den : ℕ) → IsEarlier n i b' t' → Covers (s n i) x y num den
      → IsEarlier n i b t) → IsBestBefore s x y b t o → IsBestBefore s x y b' t' o
  moved_on b b' t t' None up down before =
      λ n i num den early covers. before n i num den (down n i num den early covers) covers
  moved_on b b' t t' (Some hit) up down before = record {
    earlier = up hit.node hit.triangle before.earlier;
    reached = before.reached;
    highest = λ n i num den early covers.
        before.highest n i num den (down n i num den early covers) covers;
    first = before.first;
  }

  -- the bound's own triangle covers nothing higher than a hit, if there is one
  abbrev IsAtMostHit : ℕ → ℕ → Option Hit → Type 0
  IsAtMostHit num den None = ⊥
  IsAtMostHit num den (Some hit) = num * hit.den ≤ hit.num * den

  module _ (b : Node) (t : ℕ) where
    -- the same triangle by equal names
    own : (n : Node) (i num den : ℕ) → n ≡ b → i ≡ t → Covers (s n i) x y num den
        → Covers (s b t) x y num den
    own n i num den same place covers =
        subst (λ m. Covers (s m t) x y num den) same
        (subst (λ j. Covers (s n j) x y num den) place covers)

    -- the hit stays the best
    kept : (o : Option Hit)
        → ((num den : ℕ) → Covers (s b t) x y num den → IsAtMostHit num den o)
        → IsBestBefore s x y b t o → IsBestBefore s x y b (t + 1) o
    kept None most before =
        λ n i num den early covers. elim (one_more n b i t early) [
          | inl earlier ↦ before n i num den earlier covers
          | inr this ↦ most num den (own n i num den this.0 this.1 covers)
        ]
    kept (Some hit) most before = record {
      earlier = one_on hit.node b hit.triangle t before.earlier;
      reached = before.reached;
      highest = λ n i num den early covers.
          elim (one_more n b i t early) [
            | inl earlier ↦ before.highest n i num den earlier covers
            | inr this ↦ most num den (own n i num den this.0 this.1 covers)
          ];
      first = before.first;
    }

    -- a hit is lower than a height, if there is one
    abbrev IsLower : Option Hit → ℕ → ℕ → Type 0
    IsLower None num den = Unit {0}
    IsLower (Some hit) num den = hit.num * den < num * hit.den

    -- what was the best is lower than a height: so is all that it is at least as high as
    lower : (o : Option Hit) (num den : ℕ) → IsLower o num den → IsBestBefore s x y b t o
        → (n : Node) (i u e : ℕ) → IsEarlier n i b t → Covers (s n i) x y u e
        → u * den < num * e
    lower None num den less before n i u e early covers = absurd (before n i u e early covers)
    lower (Some hit) num den less before n i u e early covers =
        through-less u e hit.num hit.den num den covers.some
        (before.highest n i u e early covers) less

    -- the height takes its place
    taken : (o : Option Hit) (num den : ℕ) → IsLower o num den → Covers (s b t) x y num den
        → ((u e : ℕ) → Covers (s b t) x y u e → u * den ≤ num * e)
        → IsBestBefore s x y b t o
        → IsBest s x y b (t + 1) (record { node = b; triangle = t; num = num; den = den })
    taken o num den less reached most before = record {
      earlier = inr (refl, omega arith);
      reached = reached;
      highest = λ n i u e early covers.
          elim (one_more n b i t early) [
            | inl earlier ↦
                let below = lower o num den less before n i u e earlier covers in
                omega (arith, below)
            | inr this ↦ most u e (own n i u e this.0 this.1 covers)
          ];
      first = λ n i u e early covers. lower o num den less before n i u e early covers;
    }

    -- ---- the same of what `better` is given

    -- the triangle covers nothing
    pub better-none : (best : Option Hit) (top : Option Height) → top ≡ None
        → ((n d : ℕ) → Covers (s b t) x y n d → IsAtMost n d top)
        → IsBestBefore s x y b t best → IsBestBefore s x y b (t + 1) best
    better-none best top none most before =
        kept best (λ n d covers. absurd (subst (IsAtMost n d) none (most n d covers))) before

    -- the same where it is known to cover nothing
    pub unchanged : (best : Option Hit) → ((n d : ℕ) → Covers (s b t) x y n d → ⊥)
        → IsBestBefore s x y b t best → IsBestBefore s x y b (t + 1) best
    unchanged best none before = kept best (λ n d covers. absurd (none n d covers)) before

    -- it covers nothing higher
    pub better-kept : (best : Option Hit) (top : Option Height) (old : Hit) (h : Height)
        → best ≡ Some old → top ≡ Some h → IsHeight h → h.num * old.den ≤ old.num * h.den
        → ((n d : ℕ) → Covers (s b t) x y n d → IsAtMost n d top)
        → IsBestBefore s x y b t best → IsBest s x y b (t + 1) old
    better-kept best top old h is_old is_h height low most before =
        kept (Some old) (λ n d covers.
        through n d h.num h.den old.num old.den height.some
        (subst (IsAtMost n d) is_h (most n d covers)) low)
        (subst (IsBestBefore s x y b t) is_old before)

    -- it covers something higher
    pub better-taken : (best : Option Hit) (top : Option Height) (h : Height) → top ≡ Some h
        → IfSome top (λ h. Covers (s b t) x y h.num h.den)
        → ((n d : ℕ) → Covers (s b t) x y n d → IsAtMost n d top)
        → IsLower best h.num h.den → IsBestBefore s x y b t best
        → IsBest s x y b (t + 1) (record { node = b; triangle = t; num = h.num; den = h.den })
    better-taken best top h is_h covers most less before =
        taken best h.num h.den less
        (subst (λ o. IfSome o (λ h. Covers (s b t) x y h.num h.den)) is_h covers)
        (λ u e c. subst (IsAtMost u e) is_h (most u e c)) before

    -- a hit that is lower
    pub lower-some : (best : Option Hit) (old : Hit) (num den : ℕ) → best ≡ Some old
        → old.num * den < num * old.den → IsLower best num den
    lower-some best old num den is less = subst (λ o. IsLower o num den) (sym is) less

    -- no hit
    pub lower-none : (best : Option Hit) (num den : ℕ) → best ≡ None → IsLower best num den
    lower-none best num den is = subst (λ o. IsLower o num den) (sym is) tt
