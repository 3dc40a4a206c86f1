-- Which faces of cells lie on the border of the world: a square where its plane is one of the border, a segment where
-- one of the two planes through it is.
--
-- For `BorderCells`. The test `lie_on_border` tries six planes. Points that differ along an axis lie in no plane across
-- it (`off-plane`), and points that agree along it lie in the plane of their coordinate (`on-plane`). So for each of
-- the three axes it is known what the test gives (`by-axes`): for the four points of a square (`square-lies`), and for
-- the five of a lateral face in a plane inside the world (`lower-lies`, `higher-lies`).
use Rattle.std.proofs.Common.{◌≡◌, ℕ, Bool, true, false, List, [], ◌∷◌, refl, sym, ◌∙◌}
use Rattle.std.specs.Prelude.{◌&&◌, ◌||◌, ◌==◌}
use Rattle.std.specs.List.{list_all}
use Rattle.std.proofs.lemmas.Bool.{eqb-true}
use Rattle.lattice.specs.declared.point.Point.{Point}
use Rattle.lattice.specs.declared.point.Axis.{Axis}
use Rattle.lattice.specs.declared.point.Axis.TheVariants.{X, Y, Z}
use Rattle.lattice.specs.Settings.{world_side}
use Rattle.lattice.specs.Point.{coordinate}
use Rattle.lattice.specs.Face.{lower, higher}
use Rattle.terrain.specs.Blocks.{lie_on_border}
use Rattle.seam_laws.specs.Seams.{axis_on}

-- whether a plane with this coordinate is on the border
abbrev pub lies : ℕ → ℕ → Bool
lies depth c = c == 0 || c == world_side depth

-- whether points have this coordinate
abbrev pub in_plane : List Point → Axis → ℕ → Bool
in_plane points axis c = list_all (λ p. coordinate axis p == c) points

-- ---- one plane

-- for `apart`
and-false : (b : Bool) → (b && false) ≡ false
and-false true = refl
and-false false = refl

-- two numbers that differ aren't both c
apart : (x y c : ℕ) (b e : Bool) → (x ≡ y → ⊥) → ((x == c) && (b && ((y == c) && e))) ≡ false
apart x y c b e differ = go (x == c) (y == c) refl refl
  where
    go : (p q : Bool) → (x == c) ≡ p → (y == c) ≡ q → ((x == c) && (b && ((y == c) && e))) ≡ false
    go false q ep eq = rw ep refl
    go true false ep eq = rw (ep, eq) (and-false b)
    go true true ep eq = absurd (differ (eqb-true x c ep ∙ sym (eqb-true y c eq)))

-- the first and the third point differ, so not all have one coordinate
off-plane : (axis : Axis) (c : ℕ) (p q r : Point) (rest : List Point)
    → (coordinate axis p ≡ coordinate axis r → ⊥) → in_plane (p ∷ q ∷ r ∷ rest) axis c ≡ false
off-plane axis c p q r rest differ = apart (coordinate axis p) (coordinate axis r) c
    (coordinate axis q == c) (list_all (λ p. coordinate axis p == c) rest) differ

-- a test written four times
four-times : (b : Bool) → (b && (b && (b && (b && true)))) ≡ b
four-times true = refl
four-times false = refl

-- a test written five times
five-times : (b : Bool) → (b && (b && (b && (b && (b && true))))) ≡ b
five-times true = refl
five-times false = refl

-- all have one coordinate
pub on-plane : (axis : Axis) (c n : ℕ) (p q r t : Point) → coordinate axis p ≡ n
    → coordinate axis q ≡ n → coordinate axis r ≡ n → coordinate axis t ≡ n
    → in_plane (p ∷ q ∷ r ∷ t ∷ []) axis c ≡ (n == c)
on-plane axis c n p q r t ep eq er et =
    (λ i. (ep i == c) && ((eq i == c) && ((er i == c) && ((et i == c) && true))))
    ∙ four-times (n == c)

-- the same of five points
on-plane5 : (axis : Axis) (c n : ℕ) (p q r t u : Point) → coordinate axis p ≡ n
    → coordinate axis q ≡ n → coordinate axis r ≡ n → coordinate axis t ≡ n → coordinate axis u ≡ n
    → in_plane (p ∷ q ∷ r ∷ t ∷ u ∷ []) axis c ≡ (n == c)
on-plane5 axis c n p q r t u ep eq er et eu =
    (λ i. (ep i == c) && ((eq i == c) && ((er i == c) && ((et i == c) && ((eu i == c) && true)))))
    ∙ five-times (n == c)

-- ---- the planes of the border across one axis

-- whether points lie in a plane of the border across an axis
abbrev across : ℕ → List Point → Axis → Bool
across depth points axis = in_plane points axis 0 || in_plane points axis (world_side depth)

-- points that differ along an axis lie in no plane of the border across it
off-border : (depth : ℕ) (axis : Axis) (p q r : Point) (rest : List Point)
    → (coordinate axis p ≡ coordinate axis r → ⊥) → across depth (p ∷ q ∷ r ∷ rest) axis ≡ false
off-border depth axis p q r rest differ = λ i. off-plane axis 0 p q r rest differ i
    || off-plane axis (world_side depth) p q r rest differ i

-- four points that agree along it lie there where their coordinate is one of the border
on-border : (depth : ℕ) (axis : Axis) (n : ℕ) (p q r t : Point) → coordinate axis p ≡ n
    → coordinate axis q ≡ n → coordinate axis r ≡ n → coordinate axis t ≡ n
    → across depth (p ∷ q ∷ r ∷ t ∷ []) axis ≡ lies depth n
on-border depth axis n p q r t ep eq er et = λ i. on-plane axis 0 n p q r t ep eq er et i
    || on-plane axis (world_side depth) n p q r t ep eq er et i

-- the same of five points
on-border5 : (depth : ℕ) (axis : Axis) (n : ℕ) (p q r t u : Point) → coordinate axis p ≡ n
    → coordinate axis q ≡ n → coordinate axis r ≡ n → coordinate axis t ≡ n → coordinate axis u ≡ n
    → across depth (p ∷ q ∷ r ∷ t ∷ u ∷ []) axis ≡ lies depth n
on-border5 depth axis n p q r t u ep eq er et eu =
    λ i. on-plane5 axis 0 n p q r t u ep eq er et eu i
    || on-plane5 axis (world_side depth) n p q r t u ep eq er et eu i

-- ---- squares and segments

-- the tests of the three axes, by an axis and the two along the faces across it
by-axes : (depth : ℕ) (points : List Point) (axis : Axis) (a b c : Bool)
    → across depth points axis ≡ a → across depth points (axis_on axis lower) ≡ b
    → across depth points (axis_on axis higher) ≡ c → lie_on_border depth points ≡ (a || (b || c))
by-axes depth points X a b c ea eb ec = (λ i. ea i || (eb i || (ec i || false))) ∙ x-first a b c
  where
    x-first : (a b c : Bool) → (a || (b || (c || false))) ≡ (a || (b || c))
    x-first true b c = refl
    x-first false true c = refl
    x-first false false true = refl
    x-first false false false = refl
by-axes depth points Y a b c ea eb ec = (λ i. eb i || (ea i || (ec i || false))) ∙ y-first a b c
  where
    y-first : (a b c : Bool) → (b || (a || (c || false))) ≡ (a || (b || c))
    y-first true true c = refl
    y-first true false c = refl
    y-first false true c = refl
    y-first false false true = refl
    y-first false false false = refl
by-axes depth points Z a b c ea eb ec = (λ i. eb i || (ec i || (ea i || false))) ∙ z-first a b c
  where
    z-first : (a b c : Bool) → (b || (c || (a || false))) ≡ (a || (b || c))
    z-first true true c = refl
    z-first true false true = refl
    z-first true false false = refl
    z-first false true c = refl
    z-first false false true = refl
    z-first false false false = refl

-- two tests that fail say nothing
or-none : (a : Bool) → (a || (false || false)) ≡ a
or-none true = refl
or-none false = refl

-- four points of a plane of which opposite ones differ along it
pub square-lies : (depth : ℕ) (axis : Axis) (n : ℕ) (p q r t : Point)
    → coordinate axis p ≡ n → coordinate axis q ≡ n → coordinate axis r ≡ n → coordinate axis t ≡ n
    → (coordinate (axis_on axis lower) p ≡ coordinate (axis_on axis lower) r → ⊥)
    → (coordinate (axis_on axis higher) p ≡ coordinate (axis_on axis higher) r → ⊥)
    → lie_on_border depth (p ∷ q ∷ r ∷ t ∷ []) ≡ lies depth n
square-lies depth axis n p q r t ep eq er et du dv =
    by-axes depth (p ∷ q ∷ r ∷ t ∷ []) axis (lies depth n) false false
    (on-border depth axis n p q r t ep eq er et)
    (off-border depth (axis_on axis lower) p q r (t ∷ []) du)
    (off-border depth (axis_on axis higher) p q r (t ∷ []) dv)
    ∙ or-none (lies depth n)

-- five points of a segment in a plane inside the world
pub lower-lies : (depth : ℕ) (axis : Axis) (n k : ℕ) (p q r t u : Point) → lies depth n ≡ false
    → coordinate axis p ≡ n → coordinate axis q ≡ n → coordinate axis r ≡ n → coordinate axis t ≡ n
    → coordinate axis u ≡ n
    → (coordinate (axis_on axis lower) p ≡ coordinate (axis_on axis lower) r → ⊥)
    → (let v = axis_on axis higher in coordinate v p ≡ k → coordinate v q ≡ k → coordinate v r ≡ k
    → coordinate v t ≡ k → coordinate v u ≡ k
    → lie_on_border depth (p ∷ q ∷ r ∷ t ∷ u ∷ []) ≡ lies depth k)
lower-lies depth axis n k p q r t u inside ep eq er et eu du fp fq fr ft fu =
    by-axes depth (p ∷ q ∷ r ∷ t ∷ u ∷ []) axis false false (lies depth k)
    (on-border5 depth axis n p q r t u ep eq er et eu
    ∙ inside) (off-border depth (axis_on axis lower) p q r (t ∷ u ∷ []) du)
    (on-border5 depth (axis_on axis higher) k p q r t u fp fq fr ft fu)

-- the same along the higher axis
pub higher-lies : (depth : ℕ) (axis : Axis) (n k : ℕ) (p q r t u : Point) → lies depth n ≡ false
    → coordinate axis p ≡ n → coordinate axis q ≡ n → coordinate axis r ≡ n → coordinate axis t ≡ n
    → coordinate axis u ≡ n
    → (coordinate (axis_on axis higher) p ≡ coordinate (axis_on axis higher) r → ⊥)
    → (let v = axis_on axis lower in coordinate v p ≡ k → coordinate v q ≡ k → coordinate v r ≡ k
    → coordinate v t ≡ k → coordinate v u ≡ k
    → lie_on_border depth (p ∷ q ∷ r ∷ t ∷ u ∷ []) ≡ lies depth k)
higher-lies depth axis n k p q r t u inside ep eq er et eu dv fp fq fr ft fu =
    by-axes depth (p ∷ q ∷ r ∷ t ∷ u ∷ []) axis false (lies depth k) false
    (on-border5 depth axis n p q r t u ep eq er et eu
    ∙ inside) (on-border5 depth (axis_on axis lower) k p q r t u fp fq fr ft fu)
    (off-border depth (axis_on axis higher) p q r (t ∷ u ∷ []) dv)
    ∙ or-end (lies depth k)
  where
    or-end : (a : Bool) → (false || (a || false)) ≡ a
    or-end true = refl
    or-end false = refl
