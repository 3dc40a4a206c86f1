-- What every version keeps: as many pages as its world needs, samples in range, and the greatest sample past the
-- world's end. These lemmas use it and restore it.
-- The points of a world and its boxes lie in the pages (in_pages, box_of_world, layer_of_pages), so samples of the
-- world are in range (HoldsSamples-sound). After an edit the points of the box have samples that the edit made, all
-- others have the old ones, and the padding lies off the box (IsVersion-after). A new version is the greatest sample
-- everywhere (IsVersion-empty).
use Rattle.std.proofs.Common.{rules, ◌≡◌, ◌↔◌, Bool, true, false, IsTrue, ℕ, ◌+◌, ◌*◌, ◌/◌, ◌<◌, ◌⊎◌, List, [], ℤ, length, get_or, refl, sym, subst, ◌∙◌, inl, inr, arith}
use Rattle.lattice.specs.declared.point.Point.{Point}
use Rattle.lattice.specs.declared.region.Region.{Region}
use Rattle.lattice.specs.Region.{IsRegion, IsWithin, is_within}
use Rattle.terrain.specs.declared.brush.TheConstants.{MAX_SAMPLE}
use Rattle.terrain.specs.Samples.{IsSample}
use Rattle.lattice.specs.Settings.{IsDepth}
use Rattle.lattice.specs.Point.{IsInWorld}
use Rattle.field_pages.specs.declared.page.TheConstants.{SIDE}
use Rattle.field_pages.specs.Places.{pages_across, IsBox, IsInPages, IsPoint}
use Rattle.field_pages.specs.Pages.{HoldsSamples, Pages, sample_at, IsVersion}
use Rattle.field_pages.specs.Changes.{Changes}

-- the greatest sample is one
pub IsSample-greatest : (s : ℤ) → s ≡ MAX_SAMPLE → IsSample s
IsSample-greatest s s_is =
    subst IsSample (sym s_is) (record { low = search rules; high = search rules })

-- the points of the world lie in the pages
pub in_pages : (depth : ℕ) (p : Point) → IsInWorld depth p → IsInPages (pages_across depth) p
in_pages depth p p_in = record { z_end = omega arith; y_end = omega arith; x_end = omega arith }

-- a point of the world is one by the number of pages in a row
pub to_point : (depth : ℕ) (p : Point) → IsInWorld depth p → IsPoint (pages_across depth) p
to_point depth p p_in = record { z_end = omega arith; y_end = omega arith; x_end = omega arith }

-- and the other way round
pub from_point : (depth : ℕ) (p : Point) → IsPoint (pages_across depth) p → IsInWorld depth p
from_point depth p p_in = record { z = omega arith; y = omega arith; x = omega arith }

-- a box of the world's points is one by the number of pages in a row
pub box_of_world : (depth : ℕ) (box : Region) → IsRegion depth box → IsBox (pages_across depth) box
box_of_world depth box lawful =
    record { z = lawful.z; y = lawful.y; x = lawful.x; high = to_point depth box.hi lawful.high }

-- a box of the world's points has layers of the pages
pub layer_of_pages : (depth k : ℕ) (box : Region) → IsRegion depth box
    → k < box.hi.z / SIDE + 1 → k < pages_across depth
layer_of_pages depth k box lawful k_in = omega (arith, lawful.high.z)

-- the samples of a sound version are in range
pub HoldsSamples-sound : (pages : Pages) → IsVersion pages → HoldsSamples pages
HoldsSamples-sound pages sound p p_in = sound.range p (in_pages pages.depth p p_in)

-- a point is in a box or isn't, by the box's test
within_or_off : (box : Region) (p : Point) → (IsTrue (is_within box p) ↔ IsWithin box p)
    → IsWithin box p ⊎ (IsWithin box p → ⊥)
within_or_off box p test = go (is_within box p) test
  where
    go : (b : Bool) → (IsTrue b ↔ IsWithin box p) → IsWithin box p ⊎ (IsWithin box p → ⊥)
    go true test = inl (test.0 refl)
    go false test = inr (λ within. let h : false ≡ true = test.1 within in absurd (cc))

-- an edit that makes samples keeps a version sound
pub IsVersion-after : (box : Region) (gives : Point → ℤ → ℤ → Type 0) (old : Pages)
    (layers : List (List (List ℤ)))
    → ((p : Point) → IsTrue (is_within box p) ↔ IsWithin box p)
    → ((p : Point) → IsWithin box p → IsInWorld old.depth p) → IsVersion old
    → ((p : Point) (s r : ℤ) → gives p s r → IsSample r)
    → length layers ≡ pages_across old.depth
    → ((k : ℕ) → k < pages_across old.depth →
    length (get_or layers k []) ≡ pages_across old.depth * pages_across old.depth)
    → Changes box gives (IsInPages (pages_across old.depth)) (sample_at old)
    (sample_at (record { depth = old.depth; layers = layers }))
    → IsVersion (record { depth = old.depth; layers = layers })
IsVersion-after box gives old layers test in_world sound makes count rows changes =
    let new : Pages = record { depth = old.depth; layers = layers } in
    record {
      depth = sound.depth;
      layers = count;
      rows = rows;
      range = λ p p_in. elim (within_or_off box p (test p)) [
        | inl within ↦
            makes p (sample_at old p) (sample_at new p) (changes.changed p p_in within)
        | inr off ↦ subst IsSample (sym (changes.kept p p_in off)) (sound.range p p_in)
      ];
      padding = λ p p_in past.
          changes.kept p p_in (λ within. past (in_world p within))
          ∙ sound.padding p p_in past;
    }

-- a version that has 127 at each place of its pages is sound
pub IsVersion-empty : (depth : ℕ) (layers : List (List (List ℤ))) → IsDepth depth
    → length layers ≡ pages_across depth
    → ((k : ℕ) → k < pages_across depth
    → length (get_or layers k []) ≡ pages_across depth * pages_across depth)
    → ((p : Point) → IsInPages (pages_across depth) p
    → sample_at (record { depth = depth; layers = layers }) p ≡ MAX_SAMPLE)
    → IsVersion (record { depth = depth; layers = layers })
IsVersion-empty depth layers lawful count rows empty = record {
  depth = lawful;
  layers = count;
  rows = rows;
  range = λ p p_in. IsSample-greatest _ (empty p p_in);
  padding = λ p p_in past. empty p p_in;
}
