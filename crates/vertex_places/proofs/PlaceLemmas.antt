-- Where the vertex of a key lies, by the key's ends.
--
-- For `places::position` and `places::still_position`. With ends as they are in a field and a level map the code's
-- formula is the definition's place, axis by axis (`placed-is`). Where neither end moves, it lies on the key's own axis
-- a part `a / (a + b)` of the cell's side from its low end, and on the other axes where the key does (`place-still`);
-- by cases on the key's axis.
use Rattle.std.proofs.Common.{◌≡◌, ℕ, ◌+◌, ◌*◌, ◌/◌, ◌^◌, ◌≤◌, pos, ◌+ℤ◌, ◌-ℤ◌, ◌*ℤ◌, unsigned_abs, refl, sym, ap, ◌∙◌, arith, add-zero}
use Rattle.std.specs.Int.{int_div_euclid}
use Rattle.std.proofs.lemmas.Int.{ints}
use Rattle.std.proofs.Math.IntN.{pos-*ℤ-pos}
use Rattle.std.proofs.Math.Nat.{zero-div}
use Rattle.std.proofs.Math.Pow.{pow_mono}
use Rattle.lattice.specs.declared.key.Key.{Key}
use Rattle.lattice.specs.declared.point.Axis.{Axis}
use Rattle.lattice.specs.declared.point.Axis.TheVariants.{X, Y, Z}
use Rattle.lattice.specs.declared.point.Point.{Point}
use Rattle.lattice.specs.declared.point.Pos.{Pos}
use Rattle.lattice.specs.declared.point.TheConstants.{UNITS}
use Rattle.lattice.specs.declared.settings.TheConstants.{MAX_DEPTH}
use Rattle.lattice.specs.Key.{IsKey, far_end}
use Rattle.lattice.specs.Point.{IsInWorld, coordinate, moved}
use Rattle.terrain.specs.Blocks.{between, place, place_on, shift, shifted}
use Rattle.terrain.specs.Levels.{LevelMap}
use Rattle.terrain.specs.Samples.{Field}
use Rattle.vertex_places.specs.declared.places.End.{End}
use Rattle.vertex_places.specs.Moves.{move_on}
use Rattle.vertex_places.specs.Places.{IsEnd, IsKeyEnd, IsStill, further, placed, placed_on}

-- ---- the ends of a key are in the world

-- a point before one of the world is in the world
before_moved : (depth : ℕ) (axis : Axis) (n : ℕ) (p : Point)
    → IsInWorld depth (moved axis n p) → IsInWorld depth p
before_moved depth X n p h = record { z = h.z; y = h.y; x = omega (arith, h.x) }
before_moved depth Y n p h = record { z = h.z; y = omega (arith, h.y); x = h.x }
before_moved depth Z n p h = record { z = omega (arith, h.z); y = h.y; x = h.x }

-- a key of the world begins in the world
pub near_inside : (depth : ℕ) (key : Key) → IsKey depth key → IsInWorld depth key.at
near_inside depth key h = before_moved depth key.axis (2 ^ key.level) key.at h.end

-- ---- a key's place by its ends

-- an end's move on an axis is its point's shift
move_on-shift : (depth : ℕ) (s : Field) (m : LevelMap) (level : ℕ) (p : Point) (end : End)
    → IsEnd depth s m level p end → (axis : Axis)
    → move_on axis end.by ≡ shift depth m level p axis
move_on-shift depth s m level p end h X = h.by.x
move_on-shift depth s m level p end h Y = h.by.y
move_on-shift depth s m level p end h Z = h.by.z

-- the same on one axis
placed_on-is : (depth : ℕ) (s : Field) (m : LevelMap) (key : Key) (near far : End)
    → IsEnd depth s m key.level key.at near → IsEnd depth s m key.level (far_end key) far
    → (axis : Axis) → placed_on axis key near far ≡ place_on depth s m key axis
unfolding place_on
placed_on-is depth s m key near far h k axis =
    let p = move_on-shift depth s m key.level key.at near h axis in
    let q = move_on-shift depth s m key.level (far_end key) far k axis in
    λ t. between (pos (UNITS * coordinate axis key.at) +ℤ p t)
    (pos (UNITS * coordinate axis (far_end key)) +ℤ q t)
    (unsigned_abs (h.sample t)) (unsigned_abs (k.sample t))

-- where a key's ends are as they are in a field and a level map, its vertex lies at its place
pub placed-is : (depth : ℕ) (s : Field) (m : LevelMap) (key : Key) (near far : End)
    → IsEnd depth s m key.level key.at near → IsEnd depth s m key.level (far_end key) far
    → placed key near far ≡ place depth s m key
placed-is depth s m key near far h k =
    let x = placed_on-is depth s m key near far h k X in
    let y = placed_on-is depth s m key near far h k Y in
    let z = placed_on-is depth s m key near far h k Z in
    λ t. record { x = x t; y = y t; z = z t }

-- ---- a key whose ends don't move

-- the number on the way from a number to one that is no lower
between-up : (c d a b : ℕ) → between (pos c) (pos (c + d)) a b ≡ c + d * a / (a + b)
between-up c d a b =
    let apart : pos (c + d) -ℤ pos c ≡ pos d = omega (arith, ints) in
    let product = (λ t. apart t *ℤ pos a) ∙ pos-*ℤ-pos d a in
    ap (λ z. unsigned_abs (pos c +ℤ int_div_euclid z (pos (a + b)))) product

-- a point that doesn't move is where it is
still : (depth : ℕ) (m : LevelMap) (level : ℕ) (p : Point) → IsStill depth m level p → (axis : Axis)
    → shifted depth m level p axis ≡ pos (UNITS * coordinate axis p)
still depth m level p h axis =
    let none : UNITS * coordinate axis p + 0 ≡ UNITS * coordinate axis p = omega arith in
    ap (λ z. pos (UNITS * coordinate axis p) +ℤ z) (h.on axis) ∙ ap pos none

-- how far the far end is on an axis
pub place_on-still : (depth : ℕ) (s : Field) (m : LevelMap) (key : Key) (axis : Axis) (more a b : ℕ)
    → IsStill depth m key.level key.at → IsStill depth m key.level (far_end key)
    → a ≡ unsigned_abs (s key.at) → b ≡ unsigned_abs (s (far_end key))
    → coordinate axis (far_end key) ≡ coordinate axis key.at + more
    → place_on depth s m key axis ≡ UNITS * coordinate axis key.at + UNITS * more * a / (a + b)
unfolding place_on
place_on-still depth s m key axis more a b near far ha hb away =
    let p = still depth m key.level key.at near axis in
    let longer : UNITS * coordinate axis (far_end key)
    ≡ UNITS * coordinate axis key.at + UNITS * more = omega (arith, away) in
    let q = still depth m key.level (far_end key) far axis ∙ ap pos longer in
    (λ t. between (p t) (q t) (sym ha t) (sym hb t))
    ∙ between-up (UNITS * coordinate axis key.at) (UNITS * more) a b

-- no way along an axis adds nothing
nowhere : (c a b : ℕ) → c + UNITS * 0 * a / (a + b) ≡ c
nowhere c a b =
    let none : UNITS * 0 * a ≡ 0 = omega arith in
    let part : UNITS * 0 * a / (a + b) ≡ 0 = ap (λ n. n / (a + b)) none ∙ zero-div (a + b) in
    omega (arith, part)

-- where a key begins, in units
abbrev pub begin : Key → Pos
begin key = record { x = UNITS * key.at.x; y = UNITS * key.at.y; z = UNITS * key.at.z }

module _ (depth : ℕ) (s : Field) (m : LevelMap) (key : Key) (a b : ℕ)
    (near : IsStill depth m key.level key.at) (far : IsStill depth m key.level (far_end key))
    (ha : a ≡ unsigned_abs (s key.at)) (hb : b ≡ unsigned_abs (s (far_end key))) where
  -- on an axis other than the key's
  across : (axis : Axis) → coordinate axis (far_end key) ≡ coordinate axis key.at
      → UNITS * coordinate axis key.at ≡ place_on depth s m key axis
  across axis same =
      sym (place_on-still depth s m key axis 0 a b near far ha hb (same ∙ sym (add-zero _))
      ∙ nowhere (UNITS * coordinate axis key.at) a b)

  -- on the key's own axis
  along : (axis : Axis) → coordinate axis (far_end key) ≡ coordinate axis key.at + 2 ^ key.level
      → UNITS * coordinate axis key.at + UNITS * 2 ^ key.level * a / (a + b)
      ≡ place_on depth s m key axis
  along axis more = sym (place_on-still depth s m key axis (2 ^ key.level) a b near far ha hb more)

  -- the way between the ends of a key, on an axis
  abbrev ends_on : Axis → Axis → ℕ
  ends_on axis own = coordinate axis (moved own (2 ^ key.level) key.at)

  -- a key along x whose ends don't move
  place-still-X : key.axis ≡ X → record {
    x = UNITS * key.at.x + UNITS * 2 ^ key.level * a / (a + b);
    y = UNITS * key.at.y;
    z = UNITS * key.at.z;
  } ≡ place depth s m key
  place-still-X is =
      let x = along X (ap (ends_on X) is) in
      let y = across Y (ap (ends_on Y) is) in
      let z = across Z (ap (ends_on Z) is) in
      λ t. record { x = x t; y = y t; z = z t }

  -- a key along y
  place-still-Y : key.axis ≡ Y → record {
    x = UNITS * key.at.x;
    y = UNITS * key.at.y + UNITS * 2 ^ key.level * a / (a + b);
    z = UNITS * key.at.z;
  } ≡ place depth s m key
  place-still-Y is =
      let x = across X (ap (ends_on X) is) in
      let y = along Y (ap (ends_on Y) is) in
      let z = across Z (ap (ends_on Z) is) in
      λ t. record { x = x t; y = y t; z = z t }

  -- a key along z
  place-still-Z : key.axis ≡ Z → record {
    x = UNITS * key.at.x;
    y = UNITS * key.at.y;
    z = UNITS * key.at.z + UNITS * 2 ^ key.level * a / (a + b);
  } ≡ place depth s m key
  place-still-Z is =
      let x = across X (ap (ends_on X) is) in
      let y = across Y (ap (ends_on Y) is) in
      let z = along Z (ap (ends_on Z) is) in
      λ t. record { x = x t; y = y t; z = z t }

  -- the part of the cell's side
  abbrev part : ℕ
  part = UNITS * 2 ^ key.level * a / (a + b)

  -- a key whose ends don't move: the part of its side lies on its own axis
  pub place-still : further key.axis part (begin key) ≡ place depth s m key
  place-still = go key.axis refl
    where
      go : (own : Axis) → key.axis ≡ own → further key.axis part (begin key) ≡ place depth s m key
      go X is = ap (λ o. further o part (begin key)) is ∙ place-still-X is
      go Y is = ap (λ o. further o part (begin key)) is ∙ place-still-Y is
      go Z is = ap (λ o. further o part (begin key)) is ∙ place-still-Z is

-- a cell's side in units is at most that of a cell of the greatest level
pub side-most : (level : ℕ) → level ≤ MAX_DEPTH → UNITS * 2 ^ level ≤ UNITS * 2 ^ MAX_DEPTH
side-most level h = let most : 2 ^ level ≤ 2 ^ MAX_DEPTH = pow_mono h in omega (arith, most)

-- an end of a key of the world is one of a key of the greatest level
pub IsKeyEnd-greatest : (level : ℕ) (end : End) → level ≤ MAX_DEPTH → IsKeyEnd level end
    → IsKeyEnd MAX_DEPTH end
IsKeyEnd-greatest level end h small =
    let most : 2 ^ level ≤ 2 ^ MAX_DEPTH = pow_mono h in
    record {
      by = record {
        x = omega (arith, small.by.x, most);
        y = omega (arith, small.by.y, most);
        z = omega (arith, small.by.z, most);
      };
      sample = small.sample;
    }
