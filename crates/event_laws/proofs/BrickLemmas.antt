-- A brick is decided by the samples in its leaf's closed cube and by its rim, so by the samples in the world: the law
-- `bricks_read_their_leaf`.
-- The points of a leaf's samples and of its finer samples lie in its cube (CubeLemmas), so two fields that agree there
-- give the same lists (leaf_samples-same, face_samples-same). Which faces are there follows from the rim alone
-- (RimLemmas, faces-same). A node of the world has its cube in the world, so it is enough that a field agrees with a
-- history's there (brick-world).
use Rattle.std.proofs.Common.{◌≡◌, ℕ, zero, suc, ◌+◌, ◌*◌, ◌<◌, ◌≤◌, Bool, true, false, List, [], ◌∷◌, ◌++◌, refl, sym, ap, ◌∙◌, arith, inl, inr}
use Rattle.std.specs.Prelude.{flat_map, ℤ}
use Rattle.std.proofs.lemmas.Bool.{false≢true, cases_lt}
use Rattle.lattice.proofs.JoinedLemmas.{joined-same}
use Rattle.lattice.specs.declared.node.Node.{Node}
use Rattle.lattice.specs.declared.node.TheConstants.{CELLS}
use Rattle.lattice.specs.declared.point.Point.{Point}
use Rattle.lattice.specs.declared.point.Face.{Face}
use Rattle.lattice.specs.declared.settings.Settings.{Settings}
use Rattle.lattice.specs.Face.{faces}
use Rattle.lattice.specs.Lists.{joined}
use Rattle.lattice.specs.Node.{cube, high_corner}
use Rattle.lattice.specs.Point.{IsInWorld}
use Rattle.lattice.specs.Region.{IsWithin}
use Rattle.terrain.specs.declared.event.Event.{Event}
use Rattle.terrain.specs.Blocks.{brick, cell_corner, face_samples, leaf_samples, over_transitional}
use Rattle.terrain.specs.History.{sample}
use Rattle.terrain.specs.Levels.{LevelMap, is_transitional, levels, rim}
use Rattle.terrain.specs.Samples.{Field}
use Rattle.event_laws.specs.Changes.{brick_after}
use Rattle.event_laws.proofs.CubeLemmas.{IsInWorld-cube, cell_corner-within, fine_corner, fine_corner-within}
use Rattle.event_laws.proofs.MapLemmas.{rim-lowest}
use Rattle.event_laws.proofs.RimLemmas.{is_transitional-none, is_transitional-same}

-- a list that is there only where a test holds
abbrev only_on : {A : Type 0} → Bool → List A → List A
only_on b xs = elim b [ true ↦ xs | false ↦ [] ]

-- such a list is the same where the tests agree, and the lists do if they hold
only_on-same : {A : Type 0} (a b : Bool) (xs ys : List A) → a ≡ b → (a ≡ true → xs ≡ ys)
    → only_on a xs ≡ only_on b ys
only_on-same true true xs ys same on = on refl
only_on-same false false xs ys same on = refl
only_on-same true false xs ys same on = absurd (cc)
only_on-same false true xs ys same on = absurd (cc)

module _ (depth : ℕ) (s t : Field) (m l : LevelMap) (n : Node)
    (agree : (p : Point) → IsWithin (cube n) p → s p ≡ t p) where
  -- the samples of the leaf are the same
  leaf_samples-same : leaf_samples s n ≡ leaf_samples t n
  leaf_samples-same =
      joined-same (CELLS + 1) _ _ (λ z hz. joined-same (CELLS + 1) _ _
      (λ y hy. joined-same (CELLS + 1) _ _ (λ x hx. ap (λ v. v ∷ [])
      (agree (cell_corner n z y x) (cell_corner-within n z y x hz hy hx)))))

  -- the finer samples of a face are the same; they are there above level 0
  face_samples-same : 1 ≤ n.level → (face : Face) → face_samples s n face ≡ face_samples t n face
  face_samples-same some face =
      joined-same (2 * CELLS + 1) _ _ (λ v hv. joined-same (2 * CELLS + 1) _ _
      (λ u hu. ap (λ w. w ∷ []) (agree (fine_corner n face v u)
      (fine_corner-within n some v u hv hu face))))

  -- what a leaf's face adds to its brick
  abbrev part : Field → LevelMap → Face → List ℤ
  part f map face = only_on (is_transitional depth map n face) (face_samples f n face)

  module _ (same : rim depth m n ≡ rim depth l n) (lowest : n.level ≡ 0 → rim depth m n ≡ 0) where
    -- a leaf with a transitional face is above level 0
    level_some : (face : Face) → is_transitional depth m n face ≡ true → 1 ≤ n.level
    level_some face on =
        elim (cases_lt n.level 1) [
          | inl low ↦
              let none = is_transitional-none depth m n face (lowest (omega arith)) in
              absurd (false≢true (sym none ∙ on))
          | inr high ↦ high
        ]

    -- what a face adds is the same
    part-same : (face : Face) → part s m face ≡ part t l face
    part-same face =
        only_on-same (is_transitional depth m n face) (is_transitional depth l n face) _ _
        (is_transitional-same depth m l n same face)
        (λ on. face_samples-same (level_some face on) face)

    -- so is what all faces add
    faces-same : over_transitional depth m n (face_samples s n)
        ≡ over_transitional depth l n (face_samples t n)
    faces-same = ap (λ f. flat_map f faces) (λ i face. part-same face i)

    -- two fields and maps that agree in a leaf's cube and on its rim give it one brick
    pub brick-same : brick depth s m n ≡ brick depth t l n
    unfolding brick
    brick-same = λ i. record {
      depth = depth;
      node = n;
      rim = same i;
      samples = leaf_samples-same i;
      faces = faces-same i;
    }

-- a field that agrees with a history's in the world gives a node the brick of the history
pub brick-world : (settings : Settings) (events : List Event) (s : Field) (n : Node)
    → IsInWorld settings.depth (high_corner n)
    → ((p : Point) → IsInWorld settings.depth p → s p ≡ sample settings events p)
    → brick settings.depth s (levels settings events) n ≡ brick_after settings events n
brick-world settings events s n corner agree =
    let m = levels settings events in
    brick-same settings.depth s (sample settings events) m m n
    (λ p on. agree p (IsInWorld-cube settings.depth n p corner on))
    refl (rim-lowest settings events n)
