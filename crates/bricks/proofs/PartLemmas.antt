-- The parts of a leaf's samples that lie in one page, and how boxes of a leaf's points are filled one after another.
--
-- For `parts.rt`. `Fills` says of a box of points which samples are there and which stayed; it holds of nothing
-- (`Fills-none`), of one box after another (`Fills-then`), and of the whole leaf at the end (`filled-leaf`). A page has
-- the samples of a cube of points, 2^level apart in it, because a leaf's points begin at a page's border (`part-of`).
-- The rest are the sums: how many points a page has, where the next one begins, and that the points lie in the world
-- (`in-leaf`).
use Rattle.std.proofs.Common.{◌≡◌, ℕ, zero, suc, ◌+◌, ◌-◌, ◌*◌, ◌/◌, ◌^◌, ◌<◌, ◌≤◌, ◌%◌, ◌⊎◌, inl, inr, List, [], ◌++◌, ℤ, pos, length, get_or, take, drop, refl, sym, ap, ◌∙◌, subst, arith}
use borrow.Rule.Slice.PartMut.{post_of, put_mid}
use Rattle.std.proofs.Math.Nat.{mul-add, mul-div_cancel, mul-le-mul_left, mul_assoc, mul_comm}
use Rattle.std.proofs.lemmas.List.{append-nil, drop_all, get_or_default, length-append, length-drop, length-take-le, same_lists, take_all, take-append-le}
use Rattle.std.proofs.lemmas.List.Elements.{All-from_get_or}
use Rattle.std.proofs.lemmas.Nat.{pow-add, pow_pos}
use Rattle.std.specs.Prelude.{All}
use Rattle.lattice.specs.declared.node.Node.{Node}
use Rattle.lattice.specs.declared.point.Point.{Point}
use Rattle.lattice.specs.Node.{high_corner, low_corner, node_side}
use Rattle.lattice.specs.Point.{IsInWorld}
use Rattle.terrain.specs.declared.brush.TheConstants.{MAX_SAMPLE}
use Rattle.terrain.specs.Blocks.{leaf_samples}
use Rattle.terrain.specs.Samples.{Field, IsSample}
use Rattle.field_pages.proofs.SliceLemmas.{get_or-put_mid_off}
use Rattle.field_pages.specs.declared.page.TheConstants.{SIDE}
use Rattle.field_pages.specs.Places.{IsInSamePage, page_at, page_corner, index_in_page}
use Rattle.bricks.specs.declared.parts.TheConstants.{MAX_PAGE_LEVEL}
use Rattle.bricks.specs.Slots.{point_slot}
use Rattle.lattice.specs.Steps.{AreAtMost, point_at}
use Rattle.bricks.specs.Parts.{Fills, HasPart, HasPlane, IsPageBorder, IsInBox, KeepsOthers}
use Rattle.bricks.proofs.BrickLemmas.{length-leaf}
use Rattle.bricks.proofs.EvenLemmas.{begins-page}
use Rattle.bricks.proofs.FaceLemmas.{side-fits, step-fits}
use Rattle.bricks.proofs.SampleLemmas.{leaf_samples-at}

-- how many points of a leaf of a level a page has along an axis
side-power : (level : ℕ) → level ≤ MAX_PAGE_LEVEL → SIDE / 2 ^ level ≡ 2 ^ (MAX_PAGE_LEVEL - level)
side-power level few =
    let rest : ℕ = MAX_PAGE_LEVEL - level in
    let whole : rest + level ≡ MAX_PAGE_LEVEL = omega arith in
    let parts : SIDE ≡ 2 ^ rest * 2 ^ level =
    ap (λ n. 2 ^ n) (sym whole) ∙ pow-add 2 rest level in
    ap (λ n. n / 2 ^ level) parts ∙ mul-div_cancel (2 ^ rest) (pow_pos level)

-- a page's side is as many fine cells as a cell of the greatest such level has along an axis
pub side-is : (level : ℕ) → level ≤ MAX_PAGE_LEVEL → 2 ^ level * (SIDE / 2 ^ level) ≡ SIDE
side-is level few =
    let rest : ℕ = MAX_PAGE_LEVEL - level in
    let whole : rest + level ≡ MAX_PAGE_LEVEL = omega arith in
    ap (λ n. 2 ^ level * n) (side-power level few) ∙ mul_comm (2 ^ level) (2 ^ rest)
    ∙ sym (ap (λ n. 2 ^ n) (sym whole) ∙ pow-add 2 rest level)

-- there are two at least below that level
pub side-two : (level : ℕ) → level < MAX_PAGE_LEVEL → 2 ≤ SIDE / 2 ^ level
side-two level few =
    let rest : ℕ = MAX_PAGE_LEVEL - level - 1 in
    let up : 1 + rest ≡ MAX_PAGE_LEVEL - level = omega (arith, few) in
    let twice : 2 ^ (MAX_PAGE_LEVEL - level) ≡ 2 * 2 ^ rest =
    ap (λ n. 2 ^ n) (sym up) ∙ pow-add 2 1 rest in
    omega (arith, side-power level (omega (arith, few)), twice, pow_pos rest)

-- nothing is filled yet
pub Fills-none : (s : Field) (n : Node) (lo hi : Point) (now : List ℤ)
    → ((p : Point) → IsInBox lo hi p → ⊥) → Fills s n lo hi now now
Fills-none s n lo hi now none = record {
  long = refl;
  here = λ p p_in box. absurd (none p box);
  others = λ p p_in off. refl;
}

-- the same points in another box
pub Fills-same : (s : Field) (n : Node) (lo hi lo_2 hi_2 : Point) (old new : List ℤ)
    → ((p : Point) → AreAtMost 16 p → IsInBox lo_2 hi_2 p → IsInBox lo hi p)
    → ((p : Point) → AreAtMost 16 p → IsInBox lo hi p → IsInBox lo_2 hi_2 p)
    → Fills s n lo hi old new → Fills s n lo_2 hi_2 old new
Fills-same s n lo hi lo_2 hi_2 old new to from filled = record {
  long = filled.long;
  here = λ p p_in box. filled.here p p_in (to p p_in box);
  others = λ p p_in off. filled.others p p_in (λ box. off (from p p_in box));
}

-- one box, then the next one
pub Fills-then : (s : Field) (n : Node) (lo hi lo_2 hi_2 lo_3 hi_3 : Point) (old now new : List ℤ)
    → ((p : Point) → IsInBox lo_3 hi_3 p
    → IsInBox lo_2 hi_2 p ⊎ ((IsInBox lo_2 hi_2 p → ⊥) × IsInBox lo hi p))
    → ((p : Point) → IsInBox lo hi p → IsInBox lo_3 hi_3 p)
    → ((p : Point) → IsInBox lo_2 hi_2 p → IsInBox lo_3 hi_3 p)
    → Fills s n lo hi old now → Fills s n lo_2 hi_2 now new → Fills s n lo_3 hi_3 old new
Fills-then s n lo hi lo_2 hi_2 lo_3 hi_3 old now new cut first second before next = record {
  long = next.long ∙ before.long;
  here = λ p p_in box. elim (cut p box) [
    | inl now_in ↦ next.here p p_in now_in
    | inr early ↦ next.others p p_in early.0 ∙ before.here p p_in early.1
  ];
  others = λ p p_in off.
      next.others p p_in (λ box. off (second p box))
      ∙ before.others p p_in (λ box. off (first p box));
}

-- a step before the last of a page
pub step-before : (stride side k : ℕ) → stride * side ≡ 16 → k < side → stride * k + stride ≤ 16
step-before stride side k whole k_in =
    let up : k + 1 ≤ side = omega arith in
    omega (arith, whole, mul-add stride k 1, mul-le-mul_left stride up)

-- a plane of a part, as it is read
pub plane-of : (s : Field) (n : Node) (stride side : ℕ) (first : Point) (page : List ℤ) (z from : ℕ)
    → 2 ^ n.level ≡ stride → HasPart s n first side page → z < side → from ≡ 256 * stride * z
    → HasPlane s n stride (record first { z = first.z + z }) side page from
plane-of s n stride side first page z from level_is part z_in from_is =
    let here : Point = record first { z = first.z + z } in
    let places : 16 * 16 * (stride * z) ≡ from = omega (arith, from_is, mul_assoc 256 stride z) in
    subst (HasPlane s n stride here side page) places
    (subst (λ t. HasPlane s n t here side page (16 * 16 * (t * z))) level_is (part.planes z z_in))

-- the samples of a part, as its page has them
pub part-of : (s : Field) (n : Node) (side : ℕ) (first corner : Point) (page : List ℤ)
    → 2 ^ n.level * side ≡ 16 → IsPageBorder n.level first.z → IsPageBorder n.level first.y
    → IsPageBorder n.level first.x → corner ≡ point_at n.level n first → length page ≡ 4096
    → ((q : Point) → IsInSamePage corner q → page_at page q ≡ s q) → HasPart s n first side page
part-of s n side first corner page whole z_first y_first x_first corner_is long samples = record {
  planes = λ z z_in. record {
    each = λ y x y_in x_in.
        let stride : ℕ = 2 ^ n.level in
        let low = low_corner n in
        let q : Point = point_at n.level n
        (record { z = first.z + z; y = first.y + y; x = first.x + x }) in
        let z_step = step-before stride side z whole z_in in
        let y_step = step-before stride side y whole y_in in
        let x_step = step-before stride side x whole x_in in
        let some : 1 ≤ stride = omega (arith, pow_pos n.level) in
        let same : IsInSamePage (point_at n.level n first) q = record {
          z = omega (
            arith,
            mul-add stride first.z z,
            z_step,
            some,
            z_first.border,
            begins-page n.k n.level,
          );
          y = omega (
            arith,
            mul-add stride first.y y,
            y_step,
            some,
            y_first.border,
            begins-page n.j n.level,
          );
          x = omega (
            arith,
            mul-add stride first.x x,
            x_step,
            some,
            x_first.border,
            begins-page n.i n.level,
          );
        } in
        let z_at : q.z % 16 ≡ stride * z = omega (
          arith,
          mul-add stride first.z z,
          z_step,
          some,
          z_first.border,
          begins-page n.k n.level,
        ) in
        let y_at : q.y % 16 ≡ stride * y = omega (
          arith,
          mul-add stride first.y y,
          y_step,
          some,
          y_first.border,
          begins-page n.j n.level,
        ) in
        let x_at : q.x % 16 ≡ stride * x = omega (
          arith,
          mul-add stride first.x x,
          x_step,
          some,
          x_first.border,
          begins-page n.i n.level,
        ) in
        let at : 16 * 16 * (stride * z) + 16 * (stride * y) + stride * x ≡ index_in_page q =
        omega (arith, z_at, y_at, x_at) in
        ap (λ m. get_or page m (pos 0)) at
        ∙ get_or_default page (index_in_page q) (pos 0) MAX_SAMPLE (omega (arith, long))
        ∙ samples q (subst (λ p. IsInSamePage p q) (sym corner_is) same);
  };
}

-- a page has no more points than samples on an axis
pub side-few : (stride side : ℕ) → stride * side ≡ 16 → side ≤ 16
side-few zero side whole = absurd (omega (arith, whole))
side-few (suc stride) side whole = grind (arith, whole)

-- the next page begins where this one ends
pub next-border : (stride side k : ℕ) → stride * side ≡ 16 → stride * k % 16 ≡ 0
    → stride * (k + side) % 16 ≡ 0
next-border stride side k whole here = omega (arith, whole, here, mul-add stride k side)

-- where a leaf's points are at least a page's side apart, each step is a number of pages
steps-border : (level k : ℕ) → MAX_PAGE_LEVEL ≤ level → 2 ^ level * k % 16 ≡ 0
steps-border level k high =
    let rest : ℕ = level - MAX_PAGE_LEVEL in
    let whole : MAX_PAGE_LEVEL + rest ≡ level = omega arith in
    let parts : 2 ^ level ≡ 16 * 2 ^ rest =
    ap (λ n. 2 ^ n) (sym whole) ∙ pow-add 2 MAX_PAGE_LEVEL rest in
    let here : 2 ^ level * k ≡ 16 * (2 ^ rest * k) =
    ap (λ m. m * k) parts ∙ mul_assoc 16 (2 ^ rest) k in
    omega (arith, here)

-- so it is the low corner of its page
pub at-page_corner : (n : Node) (steps : Point) → MAX_PAGE_LEVEL ≤ n.level
    → page_corner (point_at n.level n steps) ≡ point_at n.level n steps
at-page_corner n steps high =
    let p = point_at n.level n steps in
    let z : p.z / 16 * 16 ≡ p.z =
    omega (arith, begins-page n.k n.level, steps-border n.level steps.z high) in
    let y : p.y / 16 * 16 ≡ p.y =
    omega (arith, begins-page n.j n.level, steps-border n.level steps.y high) in
    let x : p.x / 16 * 16 ≡ p.x =
    omega (arith, begins-page n.i n.level, steps-border n.level steps.x high) in
    λ t. record { z = z t; y = y t; x = x t }

-- a leaf all of whose points are filled
pub filled-leaf : (s : Field) (n : Node) (old new : List ℤ) (z : ℕ) → length old ≡ 4913 → 17 ≤ z
    → Fills s n (record { z = 0; y = 0; x = 0 }) (record { z = z; y = 17; x = 17 }) old new
    → new ≡ leaf_samples s n
filled-leaf s n old new z long all filled =
    let count : length new ≡ 4913 = filled.long ∙ long in
    same_lists new (leaf_samples s n) (count ∙ sym (length-leaf s n)) (λ m d m_in.
    let p : Point = record { z = m / 289; y = m / 17 % 17; x = m % 17 } in
    let m_few : m < 4913 = omega (arith, count) in
    let p_in : AreAtMost 16 p =
    record { z = omega arith; y = omega arith; x = omega arith } in
    let slot : point_slot p ≡ m = omega arith in
    get_or_default new m d (pos 0) m_in
    ∙ ap (λ k. get_or new k (pos 0)) (sym slot)
    ∙ filled.here p p_in (record {
      z_low = omega arith;
      z_high = omega (arith, p_in.z, all);
      y_low = omega arith;
      y_high = omega (arith, p_in.y);
      x_low = omega arith;
      x_high = omega (arith, p_in.x);
    })
    ∙ sym (leaf_samples-at s n p d p_in) ∙ ap (λ k. get_or (leaf_samples s n) k d) slot)

-- a leaf's points lie in the world
pub in-leaf : (depth : ℕ) (n : Node) (steps : Point) → IsInWorld depth (high_corner n)
    → AreAtMost 16 steps → IsInWorld depth (point_at n.level n steps)
in-leaf depth n steps here within = record {
  z = step-fits depth (n.k * node_side n.level) n.level steps.z
      (side-fits depth n.k n.level here.z) (omega (arith, within.z));
  y = step-fits depth (n.j * node_side n.level) n.level steps.y
      (side-fits depth n.j n.level here.y) (omega (arith, within.y));
  x = step-fits depth (n.i * node_side n.level) n.level steps.x
      (side-fits depth n.i n.level here.x) (omega (arith, within.x));
}

-- what lies behind a list's first items is filled anew
pub part-behind : {A : Type 0} (old zeros filled now rest : List A) (start len : ℕ)
    → now ≡ old ++ zeros → start ≡ length old → length filled ≡ length zeros → len ≡ length now
    → take len (put_mid start (length now - start) now filled ++ rest) ≡ old ++ filled
part-behind old zeros filled now rest start len now_is start_is long len_is =
    let whole : length now ≡ length old + length zeros = ap length now_is ∙ length-append old zeros
    in
    let more : length (old ++ filled) ≡ length old + length filled = length-append old filled in
    let front : take start now ≡ old =
    (λ i. take (start_is i) (now_is i)) ∙ take-append-le (length old) old zeros (omega arith)
    ∙ take_all (length old) old (omega arith) in
    let none : post_of start (length now - start) now ≡ [] =
    drop_all (length now - start) (drop start now) (omega (arith, length-drop start now)) in
    let is : put_mid start (length now - start) now filled ≡ old ++ filled =
    (λ i. front i ++ (filled ++ none i)) ∙ ap (λ xs. old ++ xs) (append-nil filled) in
    ap (λ xs. take len (xs ++ rest)) is
    ∙ take-append-le len (old ++ filled) rest (omega (arith, len_is, whole, more, long))
    ∙ take_all len (old ++ filled) (omega (arith, len_is, whole, more, long))

-- a list keeps the items outside a part that is written
pub keeps-others : (to count n : ℕ) (old new : List ℤ) → n ≡ count → length new ≡ n
    → to + count ≤ length old → KeepsOthers to count old (put_mid to n old new)
keeps-others to count n old new same long fits =
    let front : length (take to old) ≡ to = length-take-le to old (omega arith) in
    let past : length (post_of to n old) ≡ (length old - to) - n =
    length-drop n (drop to old) ∙ ap (λ m. m - n) (length-drop to old) in
    record {
      long = length-append (take to old) (new ++ post_of to n old)
          ∙ ap (λ m. length (take to old) + m) (length-append new (post_of to n old))
          ∙ omega (arith, front, past, long, same, fits);
      each = λ m off. get_or-put_mid_off to n m old new (pos 0) long (omega (arith, same, fits))
          (λ after before. off after (omega (arith, before, same)));
    }

-- where it is written on from there, it keeps what lies outside of both parts
pub keeps-more : (to count at more all : ℕ) (old now new : List ℤ) → at ≡ to + count
    → all ≡ count + more → KeepsOthers to count old now → KeepsOthers at more now new
    → KeepsOthers to all old new
keeps-more to count at more all old now new at_is all_is before next = record {
  long = next.long ∙ before.long;
  each = λ m off.
      next.each m (λ low high. off (omega (arith, low, at_is)) (omega (arith, high, at_is, all_is)))
      ∙ before.each m (λ low high. off low (omega (arith, high, all_is)));
}

-- a list that is written over a whole one
pub taken-whole : {A : Type 0} (xs rest : List A) (len : ℕ) → length xs ≡ len
    → take len (xs ++ rest) ≡ xs
taken-whole xs rest len long =
    take-append-le len xs rest (omega (arith, long)) ∙ take_all len xs (omega (arith, long))

-- the samples of a leaf are in range where all of the field's are
pub leaf-range : (depth : ℕ) (s : Field) (n : Node) → IsInWorld depth (high_corner n)
    → ((p : Point) → IsInWorld depth p → IsSample (s p)) → All IsSample (leaf_samples s n)
leaf-range depth s n here range =
    All-from_get_or IsSample (leaf_samples s n) (pos 0) (λ m m_in.
    let p : Point = record { z = m / 289; y = m / 17 % 17; x = m % 17 } in
    let m_few : m < 4913 = omega (arith, m_in, length-leaf s n) in
    let p_in : AreAtMost 16 p = record { z = omega arith; y = omega arith; x = omega arith } in
    let slot : point_slot p ≡ m = omega arith in
    let is : get_or (leaf_samples s n) m (pos 0) ≡ s (point_at n.level n p) =
    ap (λ k. get_or (leaf_samples s n) k (pos 0)) (sym slot) ∙ leaf_samples-at s n p (pos 0) p_in in
    subst IsSample (sym is) (range (point_at n.level n p) (in-leaf depth n p here p_in)))
