-- The nodes of a level by their indices across an axis and along its two other axes, so that a proof for one axis is a
-- proof for all three.
--
-- `node_at level axis c u v` is the node; everything below is by cases on the axis: its level, indices and neighbours,
-- when it is in the world, when its faces are transitional (inside the world where the neighbour is split, at the ends
-- of a row never), when its low face lies on the border, and that two neighbours share a face. For `FaceSums`,
-- `LateralRows` and `LeafTotals`.
use Rattle.std.proofs.Common.{◌≡◌, ℕ, suc, ◌+◌, ◌-◌, ◌*◌, ◌<◌, ◌≤◌, Bool, true, false, refl, sym, ◌∙◌, ◌⊎◌, inl, inr, arith, add-one}
use Rattle.std.specs.Prelude.{◌&&◌, ◌||◌, nat_lt, nat_le}
use Rattle.std.proofs.lemmas.Bool.{lt-ltb, le-leb, lt-leb, eq-eqb, ne_eqb, and_from, and_right, false≢true}
use Rattle.lattice.specs.declared.point.Axis.{Axis}
use Rattle.lattice.specs.declared.point.Axis.TheVariants.{X, Y, Z}
use Rattle.lattice.specs.declared.node.Node.{Node}
use Rattle.lattice.specs.Node.{node_side, nodes_across, IsNode}
use Rattle.lattice.specs.Face.{lower, higher}
use Rattle.terrain.specs.Levels.{LevelMap, is_transitional}
use Rattle.level_laws.specs.Balance.{ShareFace}
use Rattle.level_laws.proofs.RangeLemmas.{side_some}
use Rattle.cell_laws.specs.Squares.{low_face, high_face}
use Rattle.seam_laws.specs.Seams.{index, node_after, on_border, axis_on}

-- the node of a level that is at c across an axis, at u along the lower and at v along the higher of the two others
abbrev pub node_at : ℕ → Axis → ℕ → ℕ → ℕ → Node
node_at level X c u v = record { level = level; k = v; j = u; i = c }
node_at level Y c u v = record { level = level; k = v; j = c; i = u }
node_at level Z c u v = record { level = level; k = c; j = v; i = u }

-- its level
pub node_at-level : (level : ℕ) (axis : Axis) (c u v : ℕ) → (node_at level axis c u v).level ≡ level
node_at-level level X c u v = refl
node_at-level level Y c u v = refl
node_at-level level Z c u v = refl

-- its place across the axis
pub node_at-index : (level : ℕ) (axis : Axis) (c u v : ℕ)
    → index axis (node_at level axis c u v) ≡ c
node_at-index level X c u v = refl
node_at-index level Y c u v = refl
node_at-index level Z c u v = refl

-- the next node across the axis
pub node_at-next : (level : ℕ) (axis : Axis) (c u v : ℕ)
    → node_after axis (node_at level axis c u v) ≡ node_at level axis (suc c) u v
node_at-next level X c u v = rw add-one refl
node_at-next level Y c u v = rw add-one refl
node_at-next level Z c u v = rw add-one refl

-- the next node along the lower axis
pub node_at-lower : (level : ℕ) (axis : Axis) (c u v : ℕ)
    → node_after (axis_on axis lower) (node_at level axis c u v) ≡ node_at level axis c (suc u) v
node_at-lower level X c u v = rw add-one refl
node_at-lower level Y c u v = rw add-one refl
node_at-lower level Z c u v = rw add-one refl

-- the next node along the higher axis
pub node_at-higher : (level : ℕ) (axis : Axis) (c u v : ℕ)
    → node_after (axis_on axis higher) (node_at level axis c u v) ≡ node_at level axis c u (suc v)
node_at-higher level X c u v = rw add-one refl
node_at-higher level Y c u v = rw add-one refl
node_at-higher level Z c u v = rw add-one refl

-- ---- in the world

-- it is in the world where its places are
pub IsNode-at : (depth level : ℕ) (axis : Axis) (c u v : ℕ) → level ≤ depth
    → c < nodes_across depth level → u < nodes_across depth level → v < nodes_across depth level
    → IsNode depth (node_at level axis c u v)
IsNode-at depth level X c u v l hc hu hv = record { level = l; k = hv; j = hu; i = hc }
IsNode-at depth level Y c u v l hc hu hv = record { level = l; k = hv; j = hc; i = hu }
IsNode-at depth level Z c u v l hc hu hv = record { level = l; k = hc; j = hv; i = hu }

-- ---- next to one another

-- whether a place next to an index is in the world
abbrev fits : ℕ → ℕ → ℕ → Bool
fits across index step = nat_lt 0 (index + step) && nat_le (index + step) across

-- a node of the world fits where it is
fits-itself : (across index : ℕ) → index < across → fits across index 1 ≡ true
fits-itself across index h = and_from _ _ (lt-ltb 0 (index + 1) (omega arith))
    (le-leb (index + 1) across (omega arith))

-- a node but the last has one after it
fits-next : (across index : ℕ) → index + 1 < across → fits across index 2 ≡ true
fits-next across index h = and_from _ _ (lt-ltb 0 (index + 2) (omega arith))
    (le-leb (index + 2) across (omega arith))

-- a node but the first has one before it
fits-before : (across index : ℕ) → suc index < across → fits across (suc index) 0 ≡ true
fits-before across index h = and_from _ _ (lt-ltb 0 (suc index + 0) (omega arith))
    (le-leb (suc index + 0) across (omega arith))

-- three tests that pass say nothing
both : (a b c d : Bool) → a ≡ true → b ≡ true → c ≡ true → (((a && b) && c) && d) ≡ d
both a b c d ea eb ec = rw (ea, eb, ec) refl

-- the level map at a node with the same indices
same-node : (m : LevelMap) (level k j i k' j' i' : ℕ) → k ≡ k' → j ≡ j' → i ≡ i'
    → m (record { level = level; k = k; j = j; i = i })
    ≡ m (record { level = level; k = k'; j = j'; i = i' })
same-node m level k j i k' j' i' ek ej ei =
    λ t. m (record { level = level; k = ek t; j = ej t; i = ei t })

-- a high face is transitional where the next node is split
pub transitional-high : (depth : ℕ) (m : LevelMap) (level : ℕ) (axis : Axis) (c u v : ℕ)
    → c + 1 < nodes_across depth level → u < nodes_across depth level → v < nodes_across depth level
    → is_transitional depth m (node_at level axis c u v) (high_face axis)
    ≡ m (node_at level axis (suc c) u v)
transitional-high depth m level X c u v hc hu hv =
    let N = nodes_across depth level in
    both (fits N v 1) (fits N u 1) (fits N c 2) _ (fits-itself N v hv) (fits-itself N u hu)
    (fits-next N c hc) ∙ same-node m level (v + 1 - 1) (u + 1 - 1) (c + 2 - 1) v u (suc c)
    (omega arith) (omega arith) (omega arith)
transitional-high depth m level Y c u v hc hu hv =
    let N = nodes_across depth level in
    both (fits N v 1) (fits N c 2) (fits N u 1) _ (fits-itself N v hv) (fits-next N c hc)
    (fits-itself N u hu) ∙ same-node m level (v + 1 - 1) (c + 2 - 1) (u + 1 - 1) v (suc c) u
    (omega arith) (omega arith) (omega arith)
transitional-high depth m level Z c u v hc hu hv =
    let N = nodes_across depth level in
    both (fits N c 2) (fits N v 1) (fits N u 1) _ (fits-next N c hc) (fits-itself N v hv)
    (fits-itself N u hu) ∙ same-node m level (c + 2 - 1) (v + 1 - 1) (u + 1 - 1) (suc c) v u
    (omega arith) (omega arith) (omega arith)

-- a low face is transitional where the node before it is split
pub transitional-low : (depth : ℕ) (m : LevelMap) (level : ℕ) (axis : Axis) (c u v : ℕ)
    → suc c < nodes_across depth level → u < nodes_across depth level → v < nodes_across depth level
    → is_transitional depth m (node_at level axis (suc c) u v) (low_face axis)
    ≡ m (node_at level axis c u v)
transitional-low depth m level X c u v hc hu hv =
    let N = nodes_across depth level in
    both (fits N v 1) (fits N u 1) (fits N (suc c) 0) _ (fits-itself N v hv) (fits-itself N u hu)
    (fits-before N c hc) ∙ same-node m level (v + 1 - 1) (u + 1 - 1) (suc c + 0 - 1) v u c
    (omega arith) (omega arith) (omega arith)
transitional-low depth m level Y c u v hc hu hv =
    let N = nodes_across depth level in
    both (fits N v 1) (fits N (suc c) 0) (fits N u 1) _ (fits-itself N v hv) (fits-before N c hc)
    (fits-itself N u hu) ∙ same-node m level (v + 1 - 1) (suc c + 0 - 1) (u + 1 - 1) v c u
    (omega arith) (omega arith) (omega arith)
transitional-low depth m level Z c u v hc hu hv =
    let N = nodes_across depth level in
    both (fits N (suc c) 0) (fits N v 1) (fits N u 1) _ (fits-before N c hc) (fits-itself N v hv)
    (fits-itself N u hu) ∙ same-node m level (suc c + 0 - 1) (v + 1 - 1) (u + 1 - 1) c v u
    (omega arith) (omega arith) (omega arith)

-- at the ends of a row there is no neighbour
none : (a b c d : Bool) → (a ≡ false) ⊎ ((b ≡ false) ⊎ (c ≡ false)) → (((a && b) && c) && d) ≡ false
none false b c d h = refl
none true false c d h = refl
none true true false d h = refl
none true true true d h = absurd (true_cases h)
  where
    true_cases : (true ≡ false) ⊎ ((true ≡ false) ⊎ (true ≡ false)) → ⊥
    true_cases (inl e) = false≢true (sym e)
    true_cases (inr (inl e)) = false≢true (sym e)
    true_cases (inr (inr e)) = false≢true (sym e)

-- there is none after the last
fits-not : (across index : ℕ) → index + 1 ≡ across → fits across index 2 ≡ false
fits-not across index e = and_right _ _ (lt-leb (index + 2) across (omega arith))

-- the last node of a row has no transitional high face
pub transitional-last : (depth : ℕ) (m : LevelMap) (level : ℕ) (axis : Axis) (c u v : ℕ)
    → c + 1 ≡ nodes_across depth level → is_transitional depth m (node_at level axis c u v)
    (high_face axis) ≡ false
transitional-last depth m level X c u v e =
    let N = nodes_across depth level in
    none (fits N v 1) (fits N u 1) (fits N c 2) _ (inr (inr (fits-not N c e)))
transitional-last depth m level Y c u v e =
    let N = nodes_across depth level in
    none (fits N v 1) (fits N c 2) (fits N u 1) _ (inr (inl (fits-not N c e)))
transitional-last depth m level Z c u v e =
    let N = nodes_across depth level in
    none (fits N c 2) (fits N v 1) (fits N u 1) _ (inl (fits-not N c e))

-- the first one has no transitional low face
pub transitional-first : (depth : ℕ) (m : LevelMap) (level : ℕ) (axis : Axis) (u v : ℕ)
    → is_transitional depth m (node_at level axis 0 u v) (low_face axis) ≡ false
transitional-first depth m level X u v =
    let N = nodes_across depth level in
    none (fits N v 1) (fits N u 1) (fits N 0 0) _ (inr (inr refl))
transitional-first depth m level Y u v =
    let N = nodes_across depth level in
    none (fits N v 1) (fits N 0 0) (fits N u 1) _ (inr (inl refl))
transitional-first depth m level Z u v = refl

-- ---- the border

-- a first test that fails says nothing
or-same : (a b : Bool) (c : Bool) → a ≡ false → b ≡ c → (a || b) ≡ c
or-same a b c ea eb = rw (ea, eb) refl

-- the next node's low face lies on the border where that node is beyond the world, a node's own where it is the first
pub on_border-inside : (depth : ℕ) (axis : Axis) (n : Node) → 0 < index axis n
    → index axis n < nodes_across depth n.level → on_border depth axis n ≡ false
on_border-inside depth axis n some inside =
    or-same _ _ false (ne_eqb (index axis n) 0 (λ e. omega arith))
    (ne_eqb (index axis n) (nodes_across depth n.level) (λ e. omega arith))

-- a node's low face lies on the border where it is the first
pub on_border-first : (depth : ℕ) (axis : Axis) (n : Node) → index axis n ≡ 0
    → on_border depth axis n ≡ true
on_border-first depth axis n first = rw (eq-eqb (index axis n) 0 first) refl

-- a second test that passes is enough
or-last : (a b : Bool) → b ≡ true → (a || b) ≡ true
or-last true b e = refl
or-last false b e = e

-- and where it would be one after the last
pub on_border-last : (depth : ℕ) (axis : Axis) (n : Node)
    → index axis n ≡ nodes_across depth n.level → on_border depth axis n ≡ true
on_border-last depth axis n last =
    or-last _ _ (eq-eqb (index axis n) (nodes_across depth n.level) last)

-- ---- segments

-- the ranges of two neighbours touch
touch : (c s : ℕ) → (c * s ≤ (suc c + 1) * s) × (suc c * s ≤ (c + 1) * s)
touch c s = (omega arith, omega arith)

-- a range touches itself
stay : (c s : ℕ) → (c * s ≤ (c + 1) * s) × (c * s ≤ (c + 1) * s)
stay c s = (omega arith, omega arith)

-- a range of some length overlaps itself
along : (c s : ℕ) → 0 < s → (c * s < (c + 1) * s) × (c * s < (c + 1) * s)
along c s some = (omega arith, omega arith)

-- two neighbours share a face
pub ShareFace-at : (level : ℕ) (axis : Axis) (c u v : ℕ)
    → ShareFace (node_at level axis c u v) (node_at level axis (suc c) u v)
ShareFace-at level X c u v =
    let s = node_side level in
    record {
      z = stay v s;
      y = stay u s;
      x = touch c s;
      area = inl (along v s (side_some level), along u s (side_some level));
    }
ShareFace-at level Y c u v =
    let s = node_side level in
    record {
      z = stay v s;
      y = touch c s;
      x = stay u s;
      area = inr (inl (along v s (side_some level), along u s (side_some level)));
    }
ShareFace-at level Z c u v =
    let s = node_side level in
    record {
      z = touch c s;
      y = stay v s;
      x = stay u s;
      area = inr (inr (along v s (side_some level), along u s (side_some level)));
    }
