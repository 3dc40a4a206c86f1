-- The keys of a curve in the border lie on it together, so of two keys that don't none comes from the other there.
--
-- For `BorderKeys`, and by it for the clause `inside` of `no_crack`. The test `lie_on_border` tells a plane
-- (`BorderPlane`, `lie-tells`); a key between two corners in that plane has both its ends in it (`joined-in`); and the
-- curves of a face join keys of its sides alone, by cases on which corners are solid (`square-within`,
-- `lateral-within`, `back-within`). Together: `quad-in`, `side-in` and `back-in`, for a square and for a lateral face
-- in either turn.
use Rattle.std.proofs.Common.{◌≡◌, ℕ, Bool, true, false, ◌⊎◌, inl, inr, List, [], ◌∷◌, refl, ap, ◌∙◌}
use Rattle.std.specs.Prelude.{◌||◌, ◌==◌}
use Rattle.std.proofs.lemmas.Bool.{and_parts, or_cases, eqb-true, eq-eqb, false≢true}
use Rattle.lattice.specs.declared.point.Point.{Point}
use Rattle.lattice.specs.declared.point.Axis.{Axis}
use Rattle.lattice.specs.declared.point.Axis.TheVariants.{X, Y, Z}
use Rattle.lattice.specs.declared.key.Key.{Key}
use Rattle.lattice.specs.Point.{coordinate}
use Rattle.lattice.specs.Key.{far_end}
use Rattle.lattice.specs.Settings.{world_side}
use Rattle.terrain.specs.Curves.{no_side}
use Rattle.terrain.specs.Blocks.{lie_on_border, LieOnBorder}
use Rattle.cell_laws.specs.Squares.{keyed}
use Rattle.cell_laws.proofs.SquareCurves.{square, square-keyed, lateral, lateral-keyed}
use Rattle.seam_laws.proofs.OnBorder.{lies, in_plane, on-plane}

-- ---- points in a plane of the border

-- a plane of the border that holds all these points
pub record BorderPlane (depth : ℕ) (points : List Point) : Type 0 where
  pub axis : Axis
  pub c : ℕ
  pub on : lies depth c ≡ true
  pub all : in_plane points axis c ≡ true

-- the low planes of the border
zero-lies : (depth : ℕ) → lies depth 0 ≡ true
zero-lies depth = refl

-- a second reason is enough
or-right : (a b : Bool) → b ≡ true → (a || b) ≡ true
or-right true b e = refl
or-right false b e = e

-- a first reason is enough
or-left : (a b : Bool) → a ≡ true → (a || b) ≡ true
or-left true b e = refl
or-left false b e = absurd (false≢true e)

-- the high planes of the border
side-lies : (depth : ℕ) → lies depth (world_side depth) ≡ true
side-lies depth = or-right _ _ (eq-eqb (world_side depth) (world_side depth) refl)

-- the plane across one axis
plane : (depth : ℕ) (points : List Point) (axis : Axis)
    → (in_plane points axis 0 || in_plane points axis (world_side depth)) ≡ true
    → BorderPlane depth points
plane depth points axis h =
    elim (or_cases (in_plane points axis 0) (in_plane points axis (world_side depth)) h) [
      | inl low ↦ record { axis = axis; c = 0; on = zero-lies depth; all = low }
      | inr high ↦ record { axis = axis; c = world_side depth; on = side-lies depth; all = high }
    ]

-- points that pass the test have a plane of the border in common
pub lie-tells : (depth : ℕ) (points : List Point) → lie_on_border depth points ≡ true
    → BorderPlane depth points
lie-tells depth points h =
    let on : Axis → Bool = λ axis. in_plane points axis 0
    || in_plane points axis (world_side depth) in
    elim (or_cases (on X) (on Y || (on Z || false)) h) [
      | inl x ↦ plane depth points X x
      | inr rest ↦
          elim (or_cases (on Y) (on Z || false) rest) [
            | inl y ↦ plane depth points Y y
            | inr last ↦
                elim (or_cases (on Z) false last)
                [ inl z ↦ plane depth points Z z | inr none ↦ absurd (false≢true none) ]
          ]
    ]

-- a point lies in a plane
abbrev InPlane : Axis → ℕ → Point → Type 0
InPlane axis c p = coordinate axis p ≡ c

-- a plane across one axis is enough for the test
on-axis : (depth : ℕ) (points : List Point) (axis : Axis)
    → (in_plane points axis 0 || in_plane points axis (world_side depth)) ≡ true
    → lie_on_border depth points ≡ true
on-axis depth points X h = rw h refl
on-axis depth points Y h =
    let on : Axis → Bool = λ axis. in_plane points axis 0
    || in_plane points axis (world_side depth) in
    or-right (on X) (on Y || (on Z || false)) (or-left (on Y) (on Z || false) h)
on-axis depth points Z h =
    let on : Axis → Bool = λ axis. in_plane points axis 0
    || in_plane points axis (world_side depth) in
    or-right (on X) (on Y || (on Z || false))
    (or-right (on Y) (on Z || false) (or-left (on Z) false h))

-- a point of the list is in the plane
pub all-tells : (axis : Axis) (c : ℕ) (p : Point) (ps : List Point)
    → in_plane (p ∷ ps) axis c ≡ true → InPlane axis c p × (in_plane ps axis c ≡ true)
all-tells axis c p ps h =
    let parts = and_parts (coordinate axis p == c) (in_plane ps axis c) h in
    (eqb-true (coordinate axis p) c parts.0, parts.1)

-- an edge of a key lies in a plane
abbrev pub KeyInPlane : Axis → ℕ → Key → Type 0
KeyInPlane axis c key = InPlane axis c key.at × InPlane axis c (far_end key)

-- two keys in one plane of the border lie on the border together
pub together : (depth : ℕ) (axis : Axis) (c : ℕ) (a b : Key) → lies depth c ≡ true
    → KeyInPlane axis c a → KeyInPlane axis c b → LieOnBorder depth a b
together depth axis c a b on on_a on_b =
    let points : List Point = a.at ∷ far_end a ∷ b.at ∷ far_end b ∷ [] in
    let at : (d : ℕ) → in_plane points axis d ≡ (c == d) =
    λ d. on-plane axis d c a.at (far_end a) b.at (far_end b) on_a.0 on_a.1 on_b.0 on_b.1 in
    on-axis depth points axis ((λ t. at 0 t || at (world_side depth) t) ∙ on)

-- ---- lists of directed edges

-- both keys of each edge
unfoldable pub Within : (Key → Type 0) → List (Key × Key) → Type 0
Within Q [] = Unit {0}
Within Q (edge ∷ edges) = (Q edge.0 × Q edge.1) × Within Q edges

-- four keys of a square's sides, and three of a lateral face's
square-within : (Q : Key → Type 0) (a b c d : Bool) (ab bc cd da : Key) → Q ab → Q bc → Q cd → Q da
    → Within Q (square a b c d ab bc cd da)
unfolding square Within
square-within Q true true true true ab bc cd da h1 h2 h3 h4 = assumption
square-within Q true true true false ab bc cd da h1 h2 h3 h4 = assumption
square-within Q true true false true ab bc cd da h1 h2 h3 h4 = assumption
square-within Q true true false false ab bc cd da h1 h2 h3 h4 = assumption
square-within Q true false true true ab bc cd da h1 h2 h3 h4 = assumption
square-within Q true false true false ab bc cd da h1 h2 h3 h4 = assumption
square-within Q true false false true ab bc cd da h1 h2 h3 h4 = assumption
square-within Q true false false false ab bc cd da h1 h2 h3 h4 = assumption
square-within Q false true true true ab bc cd da h1 h2 h3 h4 = assumption
square-within Q false true true false ab bc cd da h1 h2 h3 h4 = assumption
square-within Q false true false true ab bc cd da h1 h2 h3 h4 = assumption
square-within Q false true false false ab bc cd da h1 h2 h3 h4 = assumption
square-within Q false false true true ab bc cd da h1 h2 h3 h4 = assumption
square-within Q false false true false ab bc cd da h1 h2 h3 h4 = assumption
square-within Q false false false true ab bc cd da h1 h2 h3 h4 = assumption
square-within Q false false false false ab bc cd da h1 h2 h3 h4 = assumption

-- three keys of a lateral face's sides
lateral-within : (Q : Key → Type 0) (a b c : Bool) (ab bc ca : Key) → Q ab → Q bc → Q ca
    → Within Q (lateral a b c ab bc ca)
unfolding lateral Within
lateral-within Q true true true ab bc ca h1 h2 h3 = assumption
lateral-within Q true true false ab bc ca h1 h2 h3 = assumption
lateral-within Q true false true ab bc ca h1 h2 h3 = assumption
lateral-within Q true false false ab bc ca h1 h2 h3 = assumption
lateral-within Q false true true ab bc ca h1 h2 h3 = assumption
lateral-within Q false true false ab bc ca h1 h2 h3 = assumption
lateral-within Q false false true ab bc ca h1 h2 h3 = assumption
lateral-within Q false false false ab bc ca h1 h2 h3 = assumption

-- a lateral face with its corners in reverse
back-within : (Q : Key → Type 0) (key : ℕ → Key) (n m k : ℕ) (a b c : Bool) → Q (key n) → Q (key m)
    → Q (key k) → Within Q (keyed key (record {
      solid = a ∷ b ∷ c ∷ c ∷ a ∷ [];
      sides = k ∷ m ∷ no_side ∷ n ∷ no_side ∷ [];
    }))
unfolding Within
back-within Q key n m k true true true h1 h2 h3 = assumption
back-within Q key n m k true true false h1 h2 h3 = assumption
back-within Q key n m k true false true h1 h2 h3 = assumption
back-within Q key n m k true false false h1 h2 h3 = assumption
back-within Q key n m k false true true h1 h2 h3 = assumption
back-within Q key n m k false true false h1 h2 h3 = assumption
back-within Q key n m k false false true h1 h2 h3 = assumption
back-within Q key n m k false false false h1 h2 h3 = assumption

-- ---- keys between corners

-- the edge of a key goes from one corner of a cell to another, in either direction
abbrev pub Joins : (ℕ → Key) → (ℕ → Point) → ℕ → ℕ → ℕ → Type 0
Joins key point n i j = (((key n).at ≡ point i) × (far_end (key n) ≡ point j))
    ⊎ (((key n).at ≡ point j) × (far_end (key n) ≡ point i))

-- a key between two corners in a plane lies in it
joined-in : (key : ℕ → Key) (point : ℕ → Point) (axis : Axis) (c n i j : ℕ) → Joins key point n i j
    → InPlane axis c (point i) → InPlane axis c (point j) → KeyInPlane axis c (key n)
joined-in key point axis c n i j (inl ends) h h' =
    (ap (coordinate axis) ends.0 ∙ h, ap (coordinate axis) ends.1 ∙ h')
joined-in key point axis c n i j (inr ends) h h' =
    (ap (coordinate axis) ends.0 ∙ h', ap (coordinate axis) ends.1 ∙ h)

module _ (key : ℕ → Key) (point : ℕ → Point) (axis : Axis) (c : ℕ) where
  -- the sides of a square in a plane
  pub quad-in : (i j k l p q r t : ℕ) (a b d e : Bool)
      → in_plane (point i ∷ point j ∷ point k ∷ point l ∷ []) axis c ≡ true
      → Joins key point p i j → Joins key point q j k → Joins key point r k l
      → Joins key point t l i
      → Within (KeyInPlane axis c) (keyed key (record {
        solid = a ∷ b ∷ d ∷ e ∷ [];
        sides = p ∷ q ∷ r ∷ t ∷ [];
      }))
  quad-in i j k l p q r t a b d e all hp hq hr ht =
      let i' = all-tells axis c (point i) (point j ∷ point k ∷ point l ∷ []) all in
      let j' = all-tells axis c (point j) (point k ∷ point l ∷ []) i'.1 in
      let k' = all-tells axis c (point k) (point l ∷ []) j'.1 in
      let l' = all-tells axis c (point l) [] k'.1 in
      rw (square-keyed key p q r t a b d e)
      (square-within (KeyInPlane axis c) a b d e (key p) (key q) (key r) (key t)
      (joined-in key point axis c p i j hp i'.0 j'.0)
      (joined-in key point axis c q j k hq j'.0 k'.0)
      (joined-in key point axis c r k l hr k'.0 l'.0)
      (joined-in key point axis c t l i ht l'.0 i'.0))

  -- the sides of a lateral face in a plane, in either turn
  pub side-in : (i j k p q r : ℕ) (a b d : Bool)
      → in_plane (point i ∷ point j ∷ point j ∷ point k ∷ point i ∷ []) axis c ≡ true
      → Joins key point p i j → Joins key point q j k → Joins key point r k i
      → Within (KeyInPlane axis c) (keyed key (record {
        solid = a ∷ d ∷ d ∷ b ∷ a ∷ [];
        sides = p ∷ no_side ∷ q ∷ r ∷ no_side ∷ [];
      }))
  side-in i j k p q r a b d all hp hq hr =
      let i' = all-tells axis c (point i) (point j ∷ point j ∷ point k ∷ point i ∷ []) all in
      let j' = all-tells axis c (point j) (point j ∷ point k ∷ point i ∷ []) i'.1 in
      let k' = all-tells axis c (point k) (point i ∷ [])
      (all-tells axis c (point j) (point k ∷ point i ∷ []) j'.1).1 in
      rw (lateral-keyed key p q r a b d)
      (lateral-within (KeyInPlane axis c) a b d (key p) (key q) (key r)
      (joined-in key point axis c p i j hp i'.0 j'.0)
      (joined-in key point axis c q j k hq j'.0 k'.0)
      (joined-in key point axis c r k i hr k'.0 i'.0))

  -- the same of three joins that go back
  pub back-in : (i j k p q r : ℕ) (a b d : Bool)
      → in_plane (point i ∷ point k ∷ point j ∷ point j ∷ point i ∷ []) axis c ≡ true
      → Joins key point p i j → Joins key point q j k → Joins key point r k i
      → Within (KeyInPlane axis c) (keyed key (record {
        solid = a ∷ b ∷ d ∷ d ∷ a ∷ [];
        sides = r ∷ q ∷ no_side ∷ p ∷ no_side ∷ [];
      }))
  back-in i j k p q r a b d all hp hq hr =
      let i' = all-tells axis c (point i) (point k ∷ point j ∷ point j ∷ point i ∷ []) all in
      let k' = all-tells axis c (point k) (point j ∷ point j ∷ point i ∷ []) i'.1 in
      let j' = all-tells axis c (point j) (point j ∷ point i ∷ []) k'.1 in
      back-within (KeyInPlane axis c) key p q r a b d
      (joined-in key point axis c p i j hp i'.0 j'.0)
      (joined-in key point axis c q j k hq j'.0 k'.0)
      (joined-in key point axis c r k i hr k'.0 i'.0)
