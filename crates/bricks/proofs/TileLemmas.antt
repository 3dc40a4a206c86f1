-- The finer samples of a face, tile by tile: how the points of a tile lie in its page, and how boxes of a face's
-- samples are filled one after another.
--
-- For `faces.rt`. A face's point that is a few lines and a few points further lies in the same page as long as neither
-- coordinate passes the page's side, and its place there is so many steps more (`next-in_tile`); the lines before the
-- page's end are those of one band (`pages-end`). So a tile fits its page (`tile-fits`), and has a field's samples
-- (`tile-samples`). `FillsTile` says of a box of the face's points which samples are there; it holds of nothing
-- (`Fills-none`), of a line (`Fills-line`), of boxes one above the other (`Fills-above`) and side by side
-- (`Fills-beside`), and of the whole face at the end (`filled-face`).
use Rattle.std.proofs.Common.{◌≡◌, ℕ, ◌+◌, ◌-◌, ◌*◌, ◌/◌, ◌%◌, ◌^◌, ◌<◌, ◌≤◌, inl, inr, ℤ, pos, List, length, get_or, refl, sym, ap, ◌∙◌, arith}
use Rattle.std.specs.Prelude.{◌↔◌}
use Rattle.std.proofs.Math.Nat.{mul-add, mul-le-mul_left, mul_assoc}
use Rattle.std.proofs.lemmas.Bool.{cases_lt}
use Rattle.std.proofs.lemmas.List.{get_or_default, same_lists}
use Rattle.lattice.proofs.RowLemmas.{get_or-rows, get_or-singles}
use Rattle.lattice.specs.declared.node.Node.{Node}
use Rattle.lattice.specs.declared.point.Axis.{Axis}
use Rattle.lattice.specs.declared.point.Axis.TheVariants.{X, Y, Z}
use Rattle.lattice.specs.declared.point.Face.{Face}
use Rattle.lattice.specs.declared.point.Face.TheVariants.{XLow, XHigh, YLow, YHigh, ZLow, ZHigh}
use Rattle.lattice.specs.declared.point.Point.{Point}
use Rattle.lattice.specs.Face.{axis_along, higher, lower}
use Rattle.lattice.specs.Lists.{joined}
use Rattle.lattice.specs.Node.{low_corner}
use Rattle.lattice.specs.Point.{coordinate, moved}
use Rattle.terrain.specs.declared.brush.TheConstants.{MAX_SAMPLE}
use Rattle.terrain.specs.Blocks.{face_samples}
use Rattle.terrain.specs.Samples.{Field}
use Rattle.field_pages.specs.Places.{IsInSamePage, page_at, index_in_page}
use Rattle.bricks.specs.declared.faces.Tile.{Tile}
use Rattle.bricks.specs.Brick.{fine_line}
use Rattle.bricks.specs.Line.{line_point, line_samples, step_along}
use Rattle.bricks.specs.Parts.{KeepsOthers}
use Rattle.bricks.specs.Tiles.{AreInSamePages, FillsTile, FitsPage, IsInTile, fine_sample, face_tile, tile_sample}
use Rattle.bricks.proofs.BrickLemmas.{face_samples-rows, length-face, length-line}
use Rattle.bricks.proofs.LineLemmas.{step-le}

-- ---- points

-- a place in a page
pub index_in_page-below : (p : Point) → index_in_page p < 4096
index_in_page-below p = omega arith

-- going along a face's lower axis leaves the higher one
pub higher-stays : (face : Face) (n : ℕ) (p : Point)
    → coordinate (axis_along face higher) (moved (axis_along face lower) n p)
    ≡ coordinate (axis_along face higher) p
higher-stays XLow n p = refl
higher-stays XHigh n p = refl
higher-stays YLow n p = refl
higher-stays YHigh n p = refl
higher-stays ZLow n p = refl
higher-stays ZHigh n p = refl

-- so far along both axes of a face
abbrev pub along_both : Face → ℕ → ℕ → Point → Point
along_both face b a p = moved (axis_along face lower) a (moved (axis_along face higher) b p)

-- first so far, then so far
pub along_both-twice : (face : Face) (p : Point) (b b_more b_all a a_more a_all : ℕ)
    → b + b_more ≡ b_all → a + a_more ≡ a_all
    → along_both face b_more a_more (along_both face b a p) ≡ along_both face b_all a_all p
along_both-twice XLow p b b_more b_all a a_more a_all b_is a_is =
    let z : p.z + b + b_more ≡ p.z + b_all = omega arith in
    let y : p.y + a + a_more ≡ p.y + a_all = omega arith in
    λ i. record { z = z i; y = y i; x = p.x }
along_both-twice XHigh p b b_more b_all a a_more a_all b_is a_is =
    let z : p.z + b + b_more ≡ p.z + b_all = omega arith in
    let y : p.y + a + a_more ≡ p.y + a_all = omega arith in
    λ i. record { z = z i; y = y i; x = p.x }
along_both-twice YLow p b b_more b_all a a_more a_all b_is a_is =
    let z : p.z + b + b_more ≡ p.z + b_all = omega arith in
    let x : p.x + a + a_more ≡ p.x + a_all = omega arith in
    λ i. record { z = z i; y = p.y; x = x i }
along_both-twice YHigh p b b_more b_all a a_more a_all b_is a_is =
    let z : p.z + b + b_more ≡ p.z + b_all = omega arith in
    let x : p.x + a + a_more ≡ p.x + a_all = omega arith in
    λ i. record { z = z i; y = p.y; x = x i }
along_both-twice ZLow p b b_more b_all a a_more a_all b_is a_is =
    let y : p.y + b + b_more ≡ p.y + b_all = omega arith in
    let x : p.x + a + a_more ≡ p.x + a_all = omega arith in
    λ i. record { z = p.z; y = y i; x = x i }
along_both-twice ZHigh p b b_more b_all a a_more a_all b_is a_is =
    let y : p.y + b + b_more ≡ p.y + b_all = omega arith in
    let x : p.x + a + a_more ≡ p.x + a_all = omega arith in
    λ i. record { z = p.z; y = y i; x = x i }

-- a point of the same page, its place, and that points less than a row apart are in one row of the page
pub record IsFurther (face : Face) (p : Point) (b a : ℕ) : Type 0 where
  pub same : IsInSamePage p (along_both face b a p)
  pub place_is : index_in_page (along_both face b a p)
      ≡ index_in_page p + step_along (axis_along face higher) * b
      + step_along (axis_along face lower) * a
  pub row : step_along (axis_along face lower) < 16
      → (index_in_page p + step_along (axis_along face higher) * b) % 16
      + step_along (axis_along face lower) * a < 16

-- a point that is so much further in a page
pub next-in_tile : (face : Face) (p : Point) (b a : ℕ)
    → coordinate (axis_along face higher) p % 16 + b < 16
    → coordinate (axis_along face lower) p % 16 + a < 16 → IsFurther face p b a
next-in_tile XLow p b a b_in a_in = record {
  same = record { z = omega arith; y = omega arith; x = omega arith };
  place_is = omega arith;
  row = λ small. absurd (omega (arith, small));
}
next-in_tile XHigh p b a b_in a_in = record {
  same = record { z = omega arith; y = omega arith; x = omega arith };
  place_is = omega arith;
  row = λ small. absurd (omega (arith, small));
}
next-in_tile YLow p b a b_in a_in = record {
  same = record { z = omega arith; y = omega arith; x = omega arith };
  place_is = omega arith;
  row = λ small. omega arith;
}
next-in_tile YHigh p b a b_in a_in = record {
  same = record { z = omega arith; y = omega arith; x = omega arith };
  place_is = omega arith;
  row = λ small. omega arith;
}
next-in_tile ZLow p b a b_in a_in = record {
  same = record { z = omega arith; y = omega arith; x = omega arith };
  place_is = omega arith;
  row = λ small. omega arith;
}
next-in_tile ZHigh p b a b_in a_in = record {
  same = record { z = omega arith; y = omega arith; x = omega arith };
  place_is = omega arith;
  row = λ small. omega arith;
}

-- a part of a run in a page is in it too
pub few-in : (from stride most few : ℕ) → from + stride * (most - 1) < 16 → few ≤ most
    → from + stride * (few - 1) < 16
few-in from stride most few within less =
    let last : few - 1 ≤ most - 1 = omega (arith, less) in
    omega (arith, within, mul-le-mul_left stride last)

-- the next point of a line is further in its page
step-some : (axis : Axis) (n : ℕ) → 1 ≤ n → 1 ≤ step_along axis * n
step-some X n some = omega (arith, some)
step-some Y n some = omega (arith, some)
step-some Z n some = omega (arith, some)

-- where it is less than a row further, so is that of the next cell
step-few : (axis : Axis) (n : ℕ) → 1 ≤ n → step_along axis * n < 16 → step_along axis < 16
step-few X n some small = omega arith
step-few Y n some small = absurd (omega (arith, some, small))
step-few Z n some small = absurd (omega (arith, some, small))

-- a line lies so many steps along a face's higher axis
line-along : (n : Node) (face : Face) (v : ℕ)
    → coordinate (axis_along face higher) (fine_line n face v).from
    ≡ coordinate (axis_along face higher) (low_corner n) + 2 ^ (n.level - 1) * v
line-along n XLow v = refl
line-along n XHigh v = refl
line-along n YLow v = refl
line-along n YHigh v = refl
line-along n ZLow v = refl
line-along n ZHigh v = refl

-- so of the lines from one on those before the page's end lie in the same pages, and no others
pub pages-end : (n : Node) (face : Face) (from stride most v y : ℕ)
    → from ≡ coordinate (axis_along face higher) (fine_line n face v).from
    → stride ≡ 2 ^ (n.level - 1) → from % 16 + stride * (most - 1) < 16
    → 16 ≤ from % 16 + stride * most → v ≤ y → y < v + most ↔ AreInSamePages n face v y
pages-end n face from stride most v y from_is stride_is within all after =
    let half : ℕ = 2 ^ (n.level - 1) in
    let at : ℕ → ℕ = λ k. coordinate (axis_along face higher) (fine_line n face k).from in
    let base : ℕ = coordinate (axis_along face higher) (low_corner n) in
    let more : ℕ = y - v in
    let y_is : v + more ≡ y = omega (arith, after) in
    let step : stride * more ≡ half * more = ap (λ m. m * more) stride_is in
    let far : half * y ≡ half * v + half * more =
    ap (λ m. half * m) (sym y_is) ∙ mul-add half v more in
    let next : at y ≡ from + stride * more =
    omega (arith, from_is, step, far, line-along n face v, line-along n face y) in (
      (λ before.
          let few : more ≤ most - 1 = omega (arith, before, y_is) in
          let close : from % 16 + stride * more < 16 =
          omega (arith, within, mul-le-mul_left stride few) in
          let same : from / 16 ≡ (from + stride * more) / 16 = omega (arith, close) in
          ap (λ m. m / 16) (sym from_is) ∙ same ∙ ap (λ m. m / 16) (sym next)),
      (λ same. elim (cases_lt y (v + most)) [
        | inl before ↦ before
        | inr past ↦
            let many : most ≤ more = omega (arith, past, y_is) in
            let off : 16 ≤ from % 16 + stride * more =
            omega (arith, all, mul-le-mul_left stride many) in
            let pages : from / 16 ≡ (from + stride * more) / 16 =
            ap (λ m. m / 16) from_is ∙ same ∙ ap (λ m. m / 16) next in
            absurd (omega (arith, pages, off))
      ]),
    )

-- the lines of a face lie whole rows of a page apart
rows-apart : (face : Face) (n : ℕ) → step_along (axis_along face higher) * n % 16 ≡ 0
rows-apart XLow n = omega arith
rows-apart XHigh n = omega arith
rows-apart YLow n = omega arith
rows-apart YHigh n = omega arith
rows-apart ZLow n = omega arith
rows-apart ZHigh n = omega arith

-- a face's finer points, from one on, in its page
module _ (n : Node) (face : Face) (v u lines run : ℕ) (p : Point)
    (p_is : p ≡ line_point (fine_line n face v) u)
    (lines_in : coordinate (axis_along face higher) p % 16 + 2 ^ (n.level - 1) * (lines - 1) < 16)
    (run_in : coordinate (axis_along face lower) p % 16 + 2 ^ (n.level - 1) * (run - 1) < 16) where
  -- half a cell of the leaf
  abbrev half : ℕ
  half = 2 ^ (n.level - 1)

  -- the tile
  abbrev tile : Tile
  tile = face_tile p (axis_along face lower) (axis_along face higher) half run lines

  -- one of the points
  point-in : (line k : ℕ) → line < lines → k < run → IsFurther face p (half * line) (half * k)
  point-in line k line_in k_in =
      next-in_tile face p (half * line) (half * k)
      (step-le 16 (coordinate (axis_along face higher) p % 16) half lines line lines_in line_in)
      (step-le 16 (coordinate (axis_along face lower) p % 16) half run k run_in k_in)

  -- its place
  spot-is : (line k : ℕ) → line < lines → k < run
      → tile.from + tile.across * line + tile.along * k
      ≡ index_in_page (along_both face (half * line) (half * k) p)
  spot-is line k line_in k_in =
      let is = point-in line k line_in k_in in
      (λ i. index_in_page p + mul_assoc (step_along (axis_along face higher)) half line i
      + mul_assoc (step_along (axis_along face lower)) half k i) ∙ sym is.place_is

  -- it is the face's
  point-is : (line k : ℕ)
      → along_both face (half * line) (half * k) p
      ≡ line_point (fine_line n face (v + line)) (u + k)
  point-is line k =
      ap (along_both face (half * line) (half * k)) p_is
      ∙ along_both-twice face _ (half * v) (half * line) (half * (v + line)) (half * u) (half * k)
      (half * (u + k)) (sym (mul-add half v line)) (sym (mul-add half u k))

  -- the tile fits the page
  pub tile-fits : 1 ≤ half → 1 ≤ run → FitsPage tile
  tile-fits some run_some = record {
    some = step-some (axis_along face lower) half some;
    run = run_some;
    places = λ line k line_in k_in. omega (
      arith,
      spot-is line k line_in k_in,
      index_in_page-below (along_both face (half * line) (half * k) p),
    );
    rows = λ small line k line_in k_in.
        let few = step-few (axis_along face lower) half some small in
        let row = (point-in line k line_in k_in).row few in
        omega (
          arith,
          row,
          ap (λ m. (index_in_page p + m) % 16)
              (mul_assoc (step_along (axis_along face higher)) half line),
          mul_assoc (step_along (axis_along face lower)) half k,
        );
    apart = λ line. omega (
      arith,
      mul_assoc (step_along (axis_along face higher)) half line,
      rows-apart face (half * line),
    );
  }

  -- and has the face's samples
  pub tile-samples : (s : Field) (page : List ℤ) → length page ≡ 4096
      → ((q : Point) → IsInSamePage p q → page_at page q ≡ s q)
      → (y x : ℕ) → IsInTile v (v + lines) u (u + run) y x
      → tile_sample page tile v u y x ≡ fine_sample s n face y x
  tile-samples s page long samples y x box =
      let line : ℕ = y - v in
      let k : ℕ = x - u in
      let line_in : line < lines = omega (arith, box.v_low, box.v_high) in
      let k_in : k < run = omega (arith, box.u_low, box.u_high) in
      let y_is : v + line ≡ y = omega (arith, box.v_low) in
      let x_is : u + k ≡ x = omega (arith, box.u_low) in
      let q : Point = along_both face (half * line) (half * k) p in
      ap (λ m. get_or page m (pos 0)) (spot-is line k line_in k_in)
      ∙ get_or_default page (index_in_page q) (pos 0) MAX_SAMPLE
      (omega (arith, index_in_page-below q, long))
      ∙ samples q (point-in line k line_in k_in).same ∙ ap s (point-is line k)
      ∙ (λ i. fine_sample s n face (y_is i) (x_is i))

-- ---- boxes

-- nothing is filled
pub Fills-none : (f : ℕ → ℕ → ℤ) (v v_end u u_end : ℕ) (old : List ℤ)
    → ((y x : ℕ) → IsInTile v v_end u u_end y x → ⊥) → FillsTile f v v_end u u_end old old
Fills-none f v v_end u u_end old none = record {
  long = refl;
  here = λ y x box. absurd (none y x box);
  others = λ y x x_in off. refl;
}

-- the samples are known by another name
pub Fills-as : (f g : ℕ → ℕ → ℤ) (v v_end u u_end : ℕ) (old new : List ℤ)
    → ((y x : ℕ) → IsInTile v v_end u u_end y x → f y x ≡ g y x)
    → FillsTile f v v_end u u_end old new → FillsTile g v v_end u u_end old new
Fills-as f g v v_end u u_end old new same fills = record {
  long = fills.long;
  here = λ y x box. fills.here y x box ∙ same y x box;
  others = fills.others;
}

-- a run of a line is filled
pub Fills-line : (f : ℕ → ℕ → ℤ) (v u run to : ℕ) (old new : List ℤ) → to ≡ v * 33 + u
    → u + run ≤ 33 → ((k : ℕ) → k < run → get_or new (to + k) (pos 0) ≡ f v (u + k))
    → KeepsOthers to run old new → FillsTile f v (v + 1) u (u + run) old new
Fills-line f v u run to old new to_is fits here others = record {
  long = others.long;
  here = λ y x box.
      let k : ℕ = x - u in
      let y_is : v ≡ y = omega (arith, box.v_low, box.v_high) in
      let x_is : u + k ≡ x = omega (arith, box.u_low) in
      let at : y * 33 + x ≡ to + k = omega (arith, to_is, y_is, x_is) in
      ap (λ m. get_or new m (pos 0)) at ∙ here k (omega (arith, box.u_low, box.u_high))
      ∙ (λ i. f (y_is i) (x_is i));
  others = λ y x x_in off. others.each (y * 33 + x) (λ after before. off (record {
    v_low = omega (arith, to_is, fits, after, before, x_in);
    v_high = omega (arith, to_is, fits, after, before, x_in);
    u_low = omega (arith, to_is, fits, after, before, x_in);
    u_high = omega (arith, to_is, fits, after, before, x_in);
  }));
}

-- a box is filled, and then one of the next lines
pub Fills-above : (f : ℕ → ℕ → ℤ) (v v_mid v_end u u_end : ℕ) (old now new : List ℤ) → v ≤ v_mid
    → v_mid ≤ v_end → u_end ≤ 33 → FillsTile f v v_mid u u_end old now
    → FillsTile f v_mid v_end u u_end now new → FillsTile f v v_end u u_end old new
Fills-above f v v_mid v_end u u_end old now new low high few before next = record {
  long = next.long ∙ before.long;
  here = λ y x box. elim (cases_lt y v_mid) [
    | inl early ↦
        next.others y x (omega (arith, box.u_high, few))
        (λ there. omega (arith, early, there.v_low))
        ∙ before.here y x (record {
          v_low = box.v_low;
          v_high = early;
          u_low = box.u_low;
          u_high = box.u_high;
        })
    | inr late ↦ next.here y x (record {
      v_low = late;
      v_high = box.v_high;
      u_low = box.u_low;
      u_high = box.u_high;
    })
  ];
  others = λ y x x_in off.
      next.others y x x_in (λ there. off (record {
        v_low = omega (arith, low, there.v_low);
        v_high = there.v_high;
        u_low = there.u_low;
        u_high = there.u_high;
      }))
      ∙ before.others y x x_in (λ there. off (record {
        v_low = there.v_low;
        v_high = omega (arith, high, there.v_high);
        u_low = there.u_low;
        u_high = there.u_high;
      }));
}

-- a box is filled, and then one beside it
pub Fills-beside : (f : ℕ → ℕ → ℤ) (v v_end u u_mid u_end : ℕ) (old now new : List ℤ)
    → u ≤ u_mid → u_mid ≤ u_end → u_end ≤ 33 → FillsTile f v v_end u u_mid old now
    → FillsTile f v v_end u_mid u_end now new → FillsTile f v v_end u u_end old new
Fills-beside f v v_end u u_mid u_end old now new low high few before next = record {
  long = next.long ∙ before.long;
  here = λ y x box. elim (cases_lt x u_mid) [
    | inl early ↦
        next.others y x (omega (arith, box.u_high, few))
        (λ there. omega (arith, early, there.u_low))
        ∙ before.here y x (record {
          v_low = box.v_low;
          v_high = box.v_high;
          u_low = box.u_low;
          u_high = early;
        })
    | inr late ↦ next.here y x (record {
      v_low = box.v_low;
      v_high = box.v_high;
      u_low = late;
      u_high = box.u_high;
    })
  ];
  others = λ y x x_in off.
      next.others y x x_in (λ there. off (record {
        v_low = there.v_low;
        v_high = there.v_high;
        u_low = omega (arith, low, there.u_low);
        u_high = there.u_high;
      }))
      ∙ before.others y x x_in (λ there. off (record {
        v_low = there.v_low;
        v_high = there.v_high;
        u_low = there.u_low;
        u_high = omega (arith, high, there.u_high);
      }));
}

-- the whole face is filled
pub filled-face : (s : Field) (n : Node) (face : Face) (old new : List ℤ) (v_end : ℕ)
    → length old ≡ 1089 → 33 ≤ v_end → FillsTile (fine_sample s n face) 0 v_end 0 33 old new
    → new ≡ face_samples s n face
filled-face s n face old new v_end long all fills =
    let rows : ℕ → List ℤ = λ v. line_samples s (fine_line n face v) in
    let count : length new ≡ 1089 = fills.long ∙ long in
    same_lists new (face_samples s n face) (count ∙ sym (length-face s n face)) (λ k d k_in.
    let y : ℕ = k / 33 in
    let x : ℕ = k % 33 in
    let k_few : k < 1089 = omega (arith, k_in, count) in
    let y_in : y < 33 = omega (arith, k_few) in
    let x_in : x < 33 = omega arith in
    let at : k ≡ y * 33 + x = omega arith in
    get_or_default new k d (pos 0) k_in
    ∙ ap (λ m. get_or new m (pos 0)) at
    ∙ fills.here y x (record {
      v_low = omega arith;
      v_high = omega (arith, y_in, all);
      u_low = omega arith;
      u_high = x_in;
    })
    ∙ sym (get_or-singles 33 (λ u. fine_sample s n face y u) x d x_in)
    ∙ sym (get_or-rows 33 33 rows (λ j j_in. length-line s (fine_line n face j)) y x d y_in x_in)
    ∙ ap (λ m. get_or (joined 33 rows) m d) (sym at)
    ∙ ap (λ xs. get_or xs k d) (sym (face_samples-rows s n face)))
