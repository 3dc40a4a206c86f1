-- The samples of a leaf around a key that lies in it are those that the key's normal is made from.
--
-- A step on an axis leads to the next point, and to a slot that is so much further, and back (`slot-further`,
-- `point-before`). Where both ways lead to points of the leaf, its samples give the slope (`slope-in`), since none of
-- these points is beyond the world's border. On the axes across a key that is so at both of its ends (`on-slots`); on
-- its own axis each end is where the other's slope is taken from, and only the points before the one and behind the
-- other may be beyond the leaf (`before-in`, `further-in`).
use Rattle.std.proofs.Common.{◌≡◌, ℕ, ◌+◌, ◌-◌, ◌*◌, ◌^◌, ◌<◌, ◌≤◌, false, List, All, length, ℤ, pos, ◌+ℤ◌, ◌-ℤ◌, ◌*ℤ◌, unsigned_abs, refl, sym, ap, ◌∙◌, subst, arith}
use Rattle.std.specs.Prelude.{◌/◌, ◌%◌, slice_index_or}
use Rattle.std.proofs.Math.Nat.{div-add-mod}
use Rattle.std.proofs.lemmas.Bool.{false≢true}
use Rattle.std.proofs.lemmas.List.{same_lists}
use Rattle.std.proofs.lemmas.List.Elements.{All-get_or}
use Rattle.bricks.specs.Slots.{point_slot, point_step}
use Rattle.bricks.proofs.BrickLemmas.{length-leaf}
use Rattle.bricks.proofs.SampleLemmas.{leaf_samples-at, leaf_samples-slot, slot_steps, slot_steps-few}
use Rattle.lattice.specs.declared.key.Key.{Key}
use Rattle.lattice.specs.declared.node.Node.{Node}
use Rattle.lattice.specs.declared.point.Axis.{Axis}
use Rattle.lattice.specs.declared.point.Axis.TheVariants.{X, Y, Z}
use Rattle.lattice.specs.declared.point.Point.{Point}
use Rattle.lattice.specs.Key.{far_end}
use Rattle.lattice.specs.Node.{IsNode, low_corner}
use Rattle.lattice.specs.Point.{IsInWorld, clamped, coordinate, is_same_axis, moved}
use Rattle.lattice.specs.Steps.{AreAtMost, point_at}
use Rattle.terrain.specs.Blocks.{Brick, brick, leaf_samples}
use Rattle.terrain.specs.Levels.{LevelMap}
use Rattle.terrain.specs.Samples.{Field, IsSample}
use Rattle.vertex_places.proofs.LeafKeyLemmas.{AreAtMost-before, far_end-key_at, point_at-inside}
use Rattle.surface_normals.specs.Inner.{FitsAcross, HasLeafSamples, IsInLeaf, IsInner, IsLeafPoint, normal_on_slots, slope_at_slot}
use Rattle.surface_normals.specs.Normals.{moved_back, normal_on, slope}
use Rattle.surface_normals.specs.declared.inner.Slots.{Slots}
use Rattle.surface_normals.proofs.SlopeLemmas.{clamped-still}

-- ---- a step on an axis

-- the slot of the next point
pub slot-further : (axis : Axis) (steps : Point)
    → point_slot steps + point_step axis ≡ point_slot (moved axis 1 steps)
slot-further X steps = omega arith
slot-further Y steps = omega arith
slot-further Z steps = omega arith

-- and of the one before
pub slot-before : (axis : Axis) (steps : Point) → 1 ≤ coordinate axis steps
    → point_slot steps - point_step axis ≡ point_slot (moved_back axis 1 steps)
slot-before X steps some = omega (arith, some)
slot-before Y steps some = omega (arith, some)
slot-before Z steps some = omega (arith, some)

-- a coordinate a cell before another
cell-before : (low cell steps : ℕ) → 1 ≤ steps
    → low + cell * (steps - 1) ≡ low + cell * steps - cell
cell-before low cell steps some =
    let up : steps ≡ steps - 1 + 1 = omega (arith, some) in
    let more : cell * (steps - 1 + 1) ≡ cell * (steps - 1) + cell = grind arith in
    omega (arith, ap (λ k. cell * k) up, more)

-- the point before one
point-before : (level : ℕ) (n : Node) (axis : Axis) (steps : Point) → 1 ≤ coordinate axis steps
    → point_at level n (moved_back axis 1 steps)
    ≡ moved_back axis (2 ^ level) (point_at level n steps)
point-before level n X steps some =
    ap (λ x. record (point_at level n steps) { x = x })
    (cell-before (low_corner n).x (2 ^ level) steps.x some)
point-before level n Y steps some =
    ap (λ y. record (point_at level n steps) { y = y })
    (cell-before (low_corner n).y (2 ^ level) steps.y some)
point-before level n Z steps some =
    ap (λ z. record (point_at level n steps) { z = z })
    (cell-before (low_corner n).z (2 ^ level) steps.z some)

-- the next point is the leaf's, if a point isn't on the high side
pub most-further : (axis : Axis) (steps : Point) → AreAtMost 16 steps → coordinate axis steps < 16
    → AreAtMost 16 (moved axis 1 steps)
most-further X steps most few = record {
  z = most.z;
  y = most.y;
  x = omega (arith, few);
}
most-further Y steps most few = record {
  z = most.z;
  y = omega (arith, few);
  x = most.x;
}
most-further Z steps most few = record {
  z = omega (arith, few);
  y = most.y;
  x = most.x;
}

-- and so is the one before
most-before : (axis : Axis) (steps : Point) → AreAtMost 16 steps
    → AreAtMost 16 (moved_back axis 1 steps)
most-before X steps most = record {
  z = most.z;
  y = most.y;
  x = omega (arith, most.x);
}
most-before Y steps most = record {
  z = most.z;
  y = omega (arith, most.y);
  x = most.x;
}
most-before Z steps most = record {
  z = omega (arith, most.z);
  y = most.y;
  x = most.x;
}

-- a step along a key changes no coordinate across it
coordinate-across : (axis along : Axis) (steps : Point) → is_same_axis axis along ≡ false
    → coordinate axis (moved along 1 steps) ≡ coordinate axis steps
coordinate-across X X steps other = absurd (false≢true (sym other))
coordinate-across X Y steps other = refl
coordinate-across X Z steps other = refl
coordinate-across Y X steps other = refl
coordinate-across Y Y steps other = absurd (false≢true (sym other))
coordinate-across Y Z steps other = refl
coordinate-across Z X steps other = refl
coordinate-across Z Y steps other = refl
coordinate-across Z Z steps other = absurd (false≢true (sym other))

-- the slots beside a key that lies in a leaf, on an axis across it, are the leaf's
across-fits : (axis along : Axis) (steps : Point) (slots : Slots) → is_same_axis axis along ≡ false
    → AreAtMost 16 (moved along 1 steps) → IsInner (coordinate axis steps)
    → FitsAcross (point_step axis) (record slots
    { near = point_slot steps; far = point_slot (moved along 1 steps) })
across-fits X X steps slots other most inner = absurd (false≢true (sym other))
across-fits X Y steps slots other most inner = record {
  before = omega (arith, inner.some);
  order = omega arith;
  further = omega (arith, most.z, most.y, inner.few);
}
across-fits X Z steps slots other most inner = record {
  before = omega (arith, inner.some);
  order = omega arith;
  further = omega (arith, most.z, most.y, inner.few);
}
across-fits Y X steps slots other most inner = record {
  before = omega (arith, inner.some);
  order = omega arith;
  further = omega (arith, most.z, most.x, inner.few);
}
across-fits Y Y steps slots other most inner = absurd (false≢true (sym other))
across-fits Y Z steps slots other most inner = record {
  before = omega (arith, inner.some);
  order = omega arith;
  further = omega (arith, most.z, most.x, inner.few);
}
across-fits Z X steps slots other most inner = record {
  before = omega (arith, inner.some);
  order = omega arith;
  further = omega (arith, most.y, most.x, inner.few);
}
across-fits Z Y steps slots other most inner = record {
  before = omega (arith, inner.some);
  order = omega arith;
  further = omega (arith, most.y, most.x, inner.few);
}
across-fits Z Z steps slots other most inner = absurd (false≢true (sym other))

-- the same by its slots
pub fits-across : (n : Node) (key : Key) (slots : Slots) → IsInLeaf n key slots → (axis : Axis)
    → is_same_axis axis key.axis ≡ false → IsInner (coordinate axis slots.steps)
    → FitsAcross (point_step axis) slots
fits-across n key slots inside axis other inner =
    let near = sym inside.near in
    let far = sym inside.far in
    subst (FitsAcross (point_step axis))
    (λ i. record slots { near = near i; far = far i })
    (across-fits axis key.axis slots.steps slots other inside.most inner)

-- the slots beside a point of a leaf that are the leaf's
pub record FitsBeside (step slot on : ℕ) : Type 0 where
  pub further : on < 16 → slot + step < 4913
  pub before : 1 ≤ on → step ≤ slot
  pub last : slot < 4913

-- by its steps
beside-fits : (axis : Axis) (steps : Point) → AreAtMost 16 steps
    → FitsBeside (point_step axis) (point_slot steps) (coordinate axis steps)
beside-fits X steps most = record {
  further = λ few. omega (arith, most.z, most.y, few);
  before = λ some. omega (arith, some);
  last = omega (arith, most.z, most.y, most.x);
}
beside-fits Y steps most = record {
  further = λ few. omega (arith, most.z, most.x, few);
  before = λ some. omega (arith, some);
  last = omega (arith, most.z, most.y, most.x);
}
beside-fits Z steps most = record {
  further = λ few. omega (arith, most.y, most.x, few);
  before = λ some. omega (arith, some);
  last = omega (arith, most.z, most.y, most.x);
}

-- by its slot
pub fits-beside : (n : Node) (axis : Axis) (p : Point) (slot on : ℕ)
    → IsLeafPoint n axis p slot on → FitsBeside (point_step axis) slot on
fits-beside n axis p slot on point =
    subst (λ k. FitsBeside (point_step axis) k on) (sym point.slot)
    (subst (FitsBeside (point_step axis) (point_slot point.steps)) (sym point.on)
    (beside-fits axis point.steps point.most))

-- the ends of a key are a step apart, and both are a leaf's
pub record FitsAlong (step near far along : ℕ) : Type 0 where
  pub ends : far ≡ near + step
  pub last : far < 4913
  pub before : 1 ≤ along → step ≤ near
  pub further : along + 1 < 16 → far + step < 4913

-- by its steps
along-fits : (axis : Axis) (steps : Point) → AreAtMost 16 (moved axis 1 steps)
    → FitsAlong (point_step axis) (point_slot steps) (point_slot (moved axis 1 steps))
    (coordinate axis steps)
along-fits X steps most = record {
  ends = omega arith;
  last = omega (arith, most.z, most.y, most.x);
  before = λ some. omega (arith, some);
  further = λ few. omega (arith, most.z, most.y, few);
}
along-fits Y steps most = record {
  ends = omega arith;
  last = omega (arith, most.z, most.y, most.x);
  before = λ some. omega (arith, some);
  further = λ few. omega (arith, most.z, most.x, few);
}
along-fits Z steps most = record {
  ends = omega arith;
  last = omega (arith, most.z, most.y, most.x);
  before = λ some. omega (arith, some);
  further = λ few. omega (arith, most.y, most.x, few);
}

-- by its slots
pub fits-along : (n : Node) (key : Key) (slots : Slots) → IsInLeaf n key slots
    → FitsAlong (point_step key.axis) slots.near slots.far slots.along
fits-along n key slots inside =
    let fits = along-fits key.axis slots.steps inside.most in
    let near = inside.near in
    let far = inside.far in
    let along = inside.along in
    record {
      ends = far ∙ fits.ends ∙ ap (λ k. k + point_step key.axis) (sym near);
      last = omega (arith, far, fits.last);
      before = λ some. omega (arith, near, fits.before (omega (arith, along, some)));
      further = λ few. omega (arith, far, fits.further (omega (arith, along, few)));
    }

-- a key begins before the last step of its leaf
along-few : (axis : Axis) (steps : Point) → AreAtMost 16 (moved axis 1 steps)
    → coordinate axis steps < 16
along-few X steps most = omega (arith, most.x)
along-few Y steps most = omega (arith, most.y)
along-few Z steps most = omega (arith, most.z)

-- the same by its slots
pub along-most : (n : Node) (key : Key) (slots : Slots) → IsInLeaf n key slots → slots.along < 16
along-most n key slots inside =
    omega (arith, inside.along, along-few key.axis slots.steps inside.most)

-- the samples at its ends are in range
module _ (n : Node) (key : Key) (slots : Slots) (inside : IsInLeaf n key slots) (samples : List ℤ)
    (count : length samples ≡ 4913) (range : All IsSample samples) where
  -- of the near one
  pub range-near : IsSample (slice_index_or samples slots.near (pos 0))
  range-near =
      let fits = fits-along n key slots inside in
      All-get_or IsSample samples slots.near (pos 0)
      (omega (arith, fits.ends, fits.last, count)) range

  -- of the far one
  pub range-far : IsSample (slice_index_or samples slots.far (pos 0))
  range-far =
      let fits = fits-along n key slots inside in
      All-get_or IsSample samples slots.far (pos 0) (omega (arith, fits.last, count)) range

-- ---- by the samples of a leaf

module _ (depth : ℕ) (s : Field) (n : Node) (samples : List ℤ) (node : IsNode depth n)
    (are : samples ≡ leaf_samples s n) where
  -- the sample in a point's slot
  at-slot : (steps : Point) → AreAtMost 16 steps → (slot : ℕ) → slot ≡ point_slot steps
      → slice_index_or samples slot (pos 0) ≡ s (point_at n.level n steps)
  at-slot steps most slot is =
      (λ i. slice_index_or (are i) (is i) (pos 0)) ∙ leaf_samples-at s n steps (pos 0) most

  -- the same where a slope looks for it
  at-step : (steps : Point) → AreAtMost 16 steps → (slot : ℕ) → slot ≡ point_slot steps
      → (p : Point) → point_at n.level n steps ≡ p
      → slice_index_or samples slot (pos 0) ≡ s (clamped depth p)
  at-step steps most slot is p there =
      let inside = point_at-inside n n.level 16 refl depth steps node most in
      let still = sym (clamped-still depth (point_at n.level n steps) inside) in
      at-slot steps most slot is ∙ ap s (still ∙ ap (clamped depth) there)

  -- the sample a step further than a point of the leaf
  further-at : (steps : Point) (axis : Axis) → AreAtMost 16 (moved axis 1 steps) → (slot : ℕ)
      → slot ≡ point_slot steps → slice_index_or samples (slot + point_step axis) (pos 0)
      ≡ s (clamped depth (moved axis (2 ^ n.level) (point_at n.level n steps)))
  further-at steps axis most slot is =
      at-step (moved axis 1 steps) most (slot + point_step axis)
      (ap (λ k. k + point_step axis) is ∙ slot-further axis steps)
      (moved axis (2 ^ n.level) (point_at n.level n steps))
      (sym (far_end-key_at n.level n steps axis))

  -- and a step before it
  before-at : (steps : Point) (axis : Axis) → AreAtMost 16 steps → 1 ≤ coordinate axis steps
      → (slot : ℕ) → slot ≡ point_slot steps
      → slice_index_or samples (slot - point_step axis) (pos 0)
      ≡ s (clamped depth (moved_back axis (2 ^ n.level) (point_at n.level n steps)))
  before-at steps axis most some slot is =
      at-step (moved_back axis 1 steps) (most-before axis steps most) (slot - point_step axis)
      (ap (λ k. k - point_step axis) is ∙ slot-before axis steps some)
      (moved_back axis (2 ^ n.level) (point_at n.level n steps))
      (point-before n.level n axis steps some)

  -- the slope at a point on an axis on which it is on neither side
  slope-in : (steps : Point) → AreAtMost 16 steps → (slot : ℕ) → slot ≡ point_slot steps
      → (axis : Axis) → IsInner (coordinate axis steps)
      → slope_at_slot samples slot (point_step axis)
      ≡ slope depth s (point_at n.level n steps) (2 ^ n.level) axis
  slope-in steps most slot is axis inner =
      let further = further-at steps axis (most-further axis steps most inner.few) slot is in
      let before = before-at steps axis most inner.some slot is in
      λ i. further i -ℤ before i

  module _ (axis : Axis) (p : Point) (slot on : ℕ) (point : IsLeafPoint n axis p slot on) where
    -- a point of the leaf is in the world
    point-inside : IsInWorld depth p
    point-inside =
        subst (IsInWorld depth) (sym point.at)
        (point_at-inside n n.level 16 refl depth point.steps node point.most)

    -- the sample a step further than it
    pub point-further : on < 16 → slice_index_or samples (slot + point_step axis) (pos 0)
        ≡ s (clamped depth (moved axis (2 ^ n.level) p))
    point-further few =
        further-at point.steps axis
        (most-further axis point.steps point.most (omega (arith, point.on, few))) slot point.slot
        ∙ ap (λ q. s (clamped depth (moved axis (2 ^ n.level) q))) (sym point.at)

    -- and a step before it
    pub point-before-it : 1 ≤ on → slice_index_or samples (slot - point_step axis) (pos 0)
        ≡ s (clamped depth (moved_back axis (2 ^ n.level) p))
    point-before-it some =
        before-at point.steps axis point.most (omega (arith, point.on, some)) slot point.slot
        ∙ ap (λ q. s (clamped depth (moved_back axis (2 ^ n.level) q))) (sym point.at)

  module _ (key : Key) (slots : Slots) (inside : IsInLeaf n key slots) where
    -- its near end is a point of it
    pub near-point : (axis : Axis)
        → IsLeafPoint n axis key.at slots.near (coordinate axis slots.steps)
    near-point axis = record {
      steps = slots.steps;
      most = AreAtMost-before 16 key.axis slots.steps inside.most;
      at = inside.at;
      slot = inside.near;
      on = refl;
    }

    -- its level is the leaf's
    level : n.level ≡ key.level
    level = sym inside.level

    -- where it begins
    at : point_at n.level n slots.steps ≡ key.at
    at = sym inside.at

    -- where its far end lies
    end : point_at n.level n (moved key.axis 1 slots.steps) ≡ far_end key
    end =
        sym (far_end-key_at n.level n slots.steps key.axis)
        ∙ (λ i. moved key.axis (2 ^ level i) (at i))

    -- it begins in the leaf
    most : AreAtMost 16 slots.steps
    most = AreAtMost-before 16 key.axis slots.steps inside.most

    -- its far end is a point of it, and as far on an axis across it as the near one
    pub far-point : (axis : Axis) → is_same_axis axis key.axis ≡ false
        → IsLeafPoint n axis (far_end key) slots.far (coordinate axis slots.steps)
    far-point axis other = record {
      steps = moved key.axis 1 slots.steps;
      most = inside.most;
      at = sym end;
      slot = inside.far;
      on = sym (coordinate-across axis key.axis slots.steps other);
    }

    -- the sample at its near end
    pub sample-near : slice_index_or samples slots.near (pos 0) ≡ s key.at
    sample-near = at-slot slots.steps most slots.near inside.near ∙ ap s at

    -- and at its far end
    pub sample-far : slice_index_or samples slots.far (pos 0) ≡ s (far_end key)
    sample-far =
        at-slot (moved key.axis 1 slots.steps) inside.most slots.far inside.far ∙ ap s end

    -- the normal on an axis across it, on which it is on no side
    pub on-slots : (axis : Axis) → is_same_axis axis key.axis ≡ false
        → IsInner (coordinate axis slots.steps)
        → normal_on_slots samples slots (point_step axis) ≡ normal_on depth s key axis
    on-slots axis other inner =
        let steps = slots.steps in
        let next = moved key.axis 1 steps in
        let still = sym (coordinate-across axis key.axis steps other) in
        let a = sample-near in
        let b = sample-far in
        let near = slope-in steps most slots.near inside.near axis inner
        ∙ (λ i. slope depth s (at i) (2 ^ level i) axis) in
        let far = slope-in next inside.most slots.far inside.far axis (subst IsInner still inner)
        ∙ (λ i. slope depth s (end i) (2 ^ level i) axis) in
        λ i. (pos (unsigned_abs (b i)) *ℤ near i) +ℤ (pos (unsigned_abs (a i)) *ℤ far i)

    -- the sample before it on its own axis
    pub before-in : 1 ≤ slots.along
        → slice_index_or samples (slots.near - point_step key.axis) (pos 0)
        ≡ s (clamped depth (moved_back key.axis (2 ^ key.level) key.at))
    before-in some =
        before-at slots.steps key.axis most (omega (arith, inside.along, some)) slots.near
        inside.near
        ∙ (λ i. s (clamped depth
        (moved_back key.axis (2 ^ level i) (at i))))

    -- and the one behind it
    pub further-in : slots.along + 1 < 16
        → slice_index_or samples (slots.far + point_step key.axis) (pos 0)
        ≡ s (clamped depth (moved key.axis (2 ^ key.level) (far_end key)))
    further-in few =
        let next = moved key.axis 1 slots.steps in
        further-at next key.axis
        (most-further key.axis next inside.most (coordinate-next key.axis slots.steps few'))
        slots.far inside.far
        ∙ (λ i. s (clamped depth (moved key.axis (2 ^ level i) (end i))))
      where
        coordinate-next : (axis : Axis) (steps : Point) → coordinate axis steps + 1 < 16
            → coordinate axis (moved axis 1 steps) < 16
        coordinate-next X steps h = h
        coordinate-next Y steps h = h
        coordinate-next Z steps h = h

        few' : coordinate key.axis slots.steps + 1 < 16
        few' = omega (arith, inside.along, few)

-- the brick of a leaf has the field's samples of it
pub brick-has : (depth : ℕ) (s : Field) (m : LevelMap) (n : Node) (b : Brick) → IsNode depth n
    → b ≡ brick depth s m n → HasLeafSamples depth s b
unfolding brick
brick-has depth s m n b node is =
    let has : HasLeafSamples depth s (brick depth s m n) =
    record { node = node; samples = refl } in
    subst (HasLeafSamples depth s) (sym is) has

-- and those of each field that agrees with it in the world
pub has-same : (depth : ℕ) (s t : Field) → ((p : Point) → IsInWorld depth p → s p ≡ t p)
    → (b : Brick) → HasLeafSamples depth t b → HasLeafSamples depth s b
has-same depth s t agree b has =
    let n = b.node in
    let count = length-leaf t n in
    record {
      node = has.node;
      samples = has.samples
          ∙ same_lists (leaf_samples t n) (leaf_samples s n) (count ∙ sym (length-leaf s n))
          (λ m d m_in.
          let few : m < 4913 = omega (arith, m_in, count) in
          let inside = point_at-inside n n.level 16 refl depth (slot_steps m) has.node
          (slot_steps-few m few) in
          leaf_samples-slot t n m d few
          ∙ sym (agree (point_at n.level n (slot_steps m)) inside)
          ∙ sym (leaf_samples-slot s n m d few));
    }

-- a point of its leaf is in the world
pub in-world : (depth : ℕ) (s : Field) (b : Brick) → HasLeafSamples depth s b
    → (axis : Axis) (p : Point) (index count : ℕ) → IsLeafPoint b.node axis p index count
    → IsInWorld depth p
in-world depth s b has = point-inside depth s b.node b.samples has.node has.samples

-- the normal on an axis across a key, by the samples of the leaf's brick
pub across-is : (depth : ℕ) (s : Field) (brick : Brick) → HasLeafSamples depth s brick → (key : Key)
    (slots : Slots) → IsInLeaf brick.node key slots → (axis : Axis)
    → is_same_axis axis key.axis ≡ false → IsInner (coordinate axis slots.steps)
    → (samples : List ℤ) → samples ≡ brick.samples
    → normal_on_slots samples slots (point_step axis) ≡ normal_on depth s key axis
across-is depth s brick has key slots inside axis other inner samples are =
    on-slots depth s brick.node samples has.node (are ∙ has.samples) key slots inside axis other
    inner

-- ---- where a key lies in a leaf

-- a coordinate of a key by the steps to it
pub steps-lead : (index at cell steps : ℕ) → at / cell ≡ index * 16 + steps → at % cell ≡ 0
    → at ≡ index * (16 * cell) + cell * steps
steps-lead index at cell steps up whole =
    let parts : cell * (at / cell) + at % cell ≡ at = div-add-mod at cell in
    let spread : cell * (index * 16 + steps) ≡ index * (16 * cell) + cell * steps = grind arith in
    omega (arith, parts, whole, ap (λ k. cell * k) up, spread)
