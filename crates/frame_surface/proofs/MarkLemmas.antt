-- The greatest height that two marks, and three, cover at a place, for the functions of `line`.
--
-- Two marks on both sides of a place cover one height there (`between-covers`, `between-greatest`); two at the place
-- itself cover the higher one's (`here-covers`, `here-greatest`); two on one side cover none (`aside`). What two of
-- three marks cover all three do (`IfCovers-three`), and what three cover is at most what two do (`three_at_most`).
use Rattle.std.proofs.Common.{◌≡◌, ℕ, ◌+◌, ◌*◌, ◌<◌, ◌≤◌, ◌⊎◌, inl, inr, [], ◌∷◌, max, refl, sym, ap, ◌∙◌, subst, arith}
use Rattle.std.specs.Prelude.{IfSome, None, Option, Some}
use Rattle.std.proofs.Math.Nat.{mul-le-mul_left}
use Rattle.std.proofs.lemmas.Bool.{cases_lt}
use Rattle.frame_surface.proofs.HeightLemmas.{raised}
use Rattle.frame_surface.proofs.LineLemmas.{from_three, from_two, of_two, turned, two_above}
use Rattle.frame_surface.specs.Heights.{IsAtMost}
use Rattle.frame_surface.specs.Lines.{CoversOnLine}
use Rattle.frame_surface.specs.declared.height.Height.{Height}
use Rattle.frame_surface.specs.declared.line.Mark.{Mark}

-- ---- two marks at the place itself

-- the height of the higher one is covered
pub here-covers : (a b : Mark) (at h : ℕ) → a.at ≡ at → b.at ≡ at → h ≡ max a.z b.z
    → CoversOnLine (a ∷ b ∷ []) at h 1
here-covers a b at h here there high = elim (cases_lt a.z b.z) [
  | inl less ↦
      from_two a b at h 1 (record {
        u = 0;
        v = 1;
        some = omega arith;
        sum = refl;
        at_is = omega (arith, here, there);
        z_is = omega (arith, high, less);
      })
  | inr more ↦
      from_two a b at h 1 (record {
        u = 1;
        v = 0;
        some = omega arith;
        sum = refl;
        at_is = omega (arith, here, there);
        z_is = omega (arith, high, more);
      })
]

-- and nothing higher
pub here-greatest : (a b : Mark) (at h : ℕ) → h ≡ max a.z b.z → (n d : ℕ)
    → CoversOnLine (a ∷ b ∷ []) at n d → n * 1 ≤ h * d
here-greatest a b at h high n d c =
    let two = of_two a b at n d c in
    let first : two.u * a.z ≤ two.u * h = mul-le-mul_left two.u (omega (arith, high)) in
    let second : two.v * b.z ≤ two.v * h = mul-le-mul_left two.v (omega (arith, high)) in
    omega (arith, first, second, two.z_is, ap (λ t. h * t) two.sum)

-- ---- two marks on both sides of the place

-- their mean by the distances of the other one is covered
pub between-covers : (a b : Mark) (at on back : ℕ) → a.at + back ≡ at → b.at ≡ at + on
    → 1 ≤ on + back → CoversOnLine (a ∷ b ∷ []) at (on * a.z + back * b.z) (on + back)
between-covers a b at on back behind before some =
    from_two a b at (on * a.z + back * b.z) (on + back) (record {
      u = on;
      v = back;
      some = some;
      sum = refl;
      at_is = omega (arith, ap (λ t. on * t) behind, ap (λ t. back * t) before);
      z_is = refl;
    })

-- weights in the ratio of two distances
crossed : (u v on back p q : ℕ) → u * back ≡ v * on
    → (u * p + v * q) * (on + back) ≡ (on * p + back * q) * (u + v)
crossed u v on back p q level = omega (arith, ap (λ t. t * p) level, ap (λ t. t * q) level)

-- and nothing higher
pub between-greatest : (a b : Mark) (at on back : ℕ) → a.at + back ≡ at → b.at ≡ at + on
    → (n d : ℕ) → CoversOnLine (a ∷ b ∷ []) at n d
    → n * (on + back) ≤ (on * a.z + back * b.z) * d
between-greatest a b at on back behind before n d c =
    let two = of_two a b at n d c in
    let level : two.u * back ≡ two.v * on =
    omega (
      arith,
      two.at_is,
      ap (λ t. at * t) two.sum,
      ap (λ t. two.u * t) behind,
      ap (λ t. two.v * t) before,
    ) in
    let same = crossed two.u two.v on back a.z b.z level in
    omega (
      arith,
      same,
      ap (λ t. t * (on + back)) two.z_is,
      ap (λ t. (on * a.z + back * b.z) * t) two.sum,
    )

-- ---- two marks on one side of the place

-- they cover nothing
pub aside : (a b : Mark) (at n d : ℕ)
    → ((a.at < at) × (b.at < at)) ⊎ ((at < a.at) × (at < b.at))
    → CoversOnLine (a ∷ b ∷ []) at n d → ⊥
aside a b at n d (inl (ha, hb)) c =
    let two = of_two a b at n d c in
    let first : two.u * (a.at + 1) ≤ two.u * at = mul-le-mul_left two.u (omega (arith, ha)) in
    let second : two.v * (b.at + 1) ≤ two.v * at = mul-le-mul_left two.v (omega (arith, hb)) in
    omega (arith, first, second, two.at_is, two.some, two.sum, ap (λ t. at * t) two.sum)
aside a b at n d (inr (ha, hb)) c =
    let two = of_two a b at n d c in
    let first : two.u * (at + 1) ≤ two.u * a.at = mul-le-mul_left two.u (omega (arith, ha)) in
    let second : two.v * (at + 1) ≤ two.v * b.at = mul-le-mul_left two.v (omega (arith, hb)) in
    omega (arith, first, second, two.at_is, two.some, two.sum, ap (λ t. at * t) two.sum)

-- the same marks the other way round
pub covers-turned : (a b : Mark) (at n d : ℕ) → CoversOnLine (a ∷ b ∷ []) at n d
    → CoversOnLine (b ∷ a ∷ []) at n d
covers-turned a b at n d c = from_two b a at n d (turned a b at n d (of_two a b at n d c))

-- ---- three marks

module _ (a b c : Mark) (at : ℕ) where
  -- what two of three marks cover all three cover
  covers-ab : (n d : ℕ) → CoversOnLine (a ∷ b ∷ []) at n d
      → CoversOnLine (a ∷ b ∷ c ∷ []) at n d
  covers-ab n d h =
      let two = of_two a b at n d h in
      from_three a b c at n d (record {
        u = two.u;
        v = two.v;
        w = 0;
        some = two.some;
        sum = omega (arith, two.sum);
        at_is = omega (arith, two.at_is);
        z_is = omega (arith, two.z_is);
      })

  -- the second and the third
  covers-bc : (n d : ℕ) → CoversOnLine (b ∷ c ∷ []) at n d
      → CoversOnLine (a ∷ b ∷ c ∷ []) at n d
  covers-bc n d h =
      let two = of_two b c at n d h in
      from_three a b c at n d (record {
        u = 0;
        v = two.u;
        w = two.v;
        some = two.some;
        sum = omega (arith, two.sum);
        at_is = omega (arith, two.at_is);
        z_is = omega (arith, two.z_is);
      })

  -- the third and the first
  covers-ca : (n d : ℕ) → CoversOnLine (c ∷ a ∷ []) at n d
      → CoversOnLine (a ∷ b ∷ c ∷ []) at n d
  covers-ca n d h =
      let two = of_two c a at n d h in
      from_three a b c at n d (record {
        u = two.v;
        v = 0;
        w = two.u;
        some = two.some;
        sum = omega (arith, two.sum);
        at_is = omega (arith, two.at_is);
        z_is = omega (arith, two.z_is);
      })

  -- a height that two marks cover, if there is one
  abbrev pub IfCovers : Mark → Mark → Option Height → Type 0
  IfCovers k i o = IfSome o (λ h. CoversOnLine (k ∷ i ∷ []) at h.num h.den)

  -- one that three cover
  abbrev pub IfCoversThree : Option Height → Type 0
  IfCoversThree o = IfSome o (λ h. CoversOnLine (a ∷ b ∷ c ∷ []) at h.num h.den)

  -- from the first two
  from_ab : (o : Option Height) → IfCovers a b o → IfCoversThree o
  from_ab None h = tt
  from_ab (Some h) c = covers-ab h.num h.den c

  -- from the last two
  from_bc : (o : Option Height) → IfCovers b c o → IfCoversThree o
  from_bc None h = tt
  from_bc (Some h) c = covers-bc h.num h.den c

  -- from the third and the first
  from_ca : (o : Option Height) → IfCovers c a o → IfCoversThree o
  from_ca None h = tt
  from_ca (Some h) c = covers-ca h.num h.den c

  module _ (x y z two all : Option Height) where
    -- the greatest of the three pairs' heights is one of the three marks
    pub IfCovers-three : IfCovers a b x → IfCovers b c y → IfCovers c a z
        → (two ≡ x) ⊎ (two ≡ y) → (all ≡ two) ⊎ (all ≡ z) → IfCoversThree all
    IfCovers-three hx hy hz first second = elim second [
      | inl is_two ↦
          elim first [
            | inl is_x ↦ subst IfCoversThree (sym (is_two ∙ is_x)) (from_ab x hx)
            | inr is_y ↦ subst IfCoversThree (sym (is_two ∙ is_y)) (from_bc y hy)
          ]
      | inr is_z ↦ subst IfCoversThree (sym is_z) (from_ca z hz)
    ]

    -- and what three marks cover is at most that
    pub three_at_most : ((n d : ℕ) → CoversOnLine (a ∷ b ∷ []) at n d → IsAtMost n d x)
        → ((n d : ℕ) → CoversOnLine (b ∷ c ∷ []) at n d → IsAtMost n d y)
        → ((n d : ℕ) → CoversOnLine (c ∷ a ∷ []) at n d → IsAtMost n d z)
        → ((n d : ℕ) → IsAtMost n d x → IsAtMost n d two)
        → ((n d : ℕ) → IsAtMost n d y → IsAtMost n d two)
        → ((n d : ℕ) → IsAtMost n d two → IsAtMost n d all)
        → ((n d : ℕ) → IsAtMost n d z → IsAtMost n d all) → (n d : ℕ)
        → CoversOnLine (a ∷ b ∷ c ∷ []) at n d → IsAtMost n d all
    three_at_most gx gy gz x_two y_two two_all z_all n d covers =
        elim (two_above a b c at n d covers) [
          | inl p ↦
              raised n d p.n' p.d' all p.covers.some p.above
              (two_all p.n' p.d' (x_two p.n' p.d' (gx p.n' p.d' p.covers)))
          | inr r ↦
              elim r [
                | inl p ↦
                    raised n d p.n' p.d' all p.covers.some p.above
                    (two_all p.n' p.d' (y_two p.n' p.d' (gy p.n' p.d' p.covers)))
                | inr p ↦
                    raised n d p.n' p.d' all p.covers.some p.above
                    (z_all p.n' p.d' (gz p.n' p.d' p.covers))
              ]
        ]
