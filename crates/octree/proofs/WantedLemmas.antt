-- The wanted nodes of a level are a box: on each axis those near enough to the camera.
--
-- For `near_indices` and `Growth::split_near`. The distance is the greatest over the axes, so a node is wanted where
-- it is near on each (`wanted_tells`, `wanted_from`). On one axis the near indices are a range, whose ends are
-- quotients (`near_range`). So the box of three ranges has just the wanted nodes (`wanted_in`, `in_wanted`), which is
-- what `wanted_box` promises (`box_some`, `box_none`). Where two cameras have one box at a level, they want the same
-- nodes of it (`same_box`), for `wants_same`. Viewpoints of which each wants the same nodes as before want the same
-- together (`wanted-places`), for `want_same`, and those that are in the world are at points of the world
-- (`points-inside`), for `follow`.
use Rattle.std.proofs.Common.{◌≡◌, ℕ, ◌+◌, ◌-◌, ◌*◌, ◌/◌, ◌<◌, ◌≤◌, min, Bool, true, false, ◌↔◌, [], ◌∷◌, get_or, All, refl, arith, ap, ◌∙◌, sym, subst, inl, inr, None, Option, Some}
use Rattle.std.specs.Prelude.{nat_lt, ◌&&◌, option_to_list}
use Rattle.std.specs.Option.{ForSome}
use Rattle.std.proofs.Math.Nat.{le-div_iff_mul-le, mul-le-mul_right}
use Rattle.std.specs.Int.{div_ceil}
use Rattle.std.proofs.lemmas.Grind.{div_ceil_times}
use Rattle.std.proofs.lemmas.Bool.{and_parts, and_from, ltb-true, lt-ltb, le-ltb, cases_lt, false≢true}
use Rattle.lattice.specs.declared.point.Point.{Point}
use Rattle.lattice.specs.declared.node.Node.{Node}
use Rattle.lattice.specs.declared.settings.Settings.{Settings}
use Rattle.lattice.specs.Node.{IsNode, nodes_across, node_side}
use Rattle.lattice.specs.Point.{IsInWorld}
use Rattle.lattice.proofs.JoinedLemmas.{All-joined}
use Rattle.terrain.specs.World.{gap, distance}
use Rattle.terrain.specs.declared.event.TheConstants.{MAX_VIEWS}
use Rattle.terrain.specs.Levels.{is_wanted, is_wanted_from, points_of}
use Rattle.terrain.proofs.AnyLemmas.{any_of-one, places-same}
use Rattle.octree.specs.declared.indices.Indices.{Indices}
use Rattle.octree.specs.declared.indices.NodeBox.{NodeBox}
use Rattle.octree.specs.WantedNodes.{IsAmong, IsInside, IsNear, IsWantedAt, IsWantedBox, WantSame}
use Rattle.octree.proofs.GainsLemmas.{IsInBox}
use Rattle.octree.proofs.GrownLemmas.{same_test}

-- the indices of ranges of a side that are near a number, as quotients
pub near_range : (c side reach n index : ℕ) → 0 < side → 0 < reach → index < n
    → (((2 * c - reach) / (2 * side) ≤ index)
    × (index < min (div_ceil (2 * c + reach) (2 * side)) n))
    ↔ (2 * gap (index * side) ((index + 1) * side) c < reach)
near_range c side reach n index some_side some_reach within =
    let b = 2 * side in
    let a = 2 * c + reach in
    let high = div_ceil a b in
    let some : 0 < b = omega arith in
    let low = le-div_iff_mul-le {k = b} {x = index + 1} {y = 2 * c - reach} some in
    let times = div_ceil_times a b some in
    let at : (index + 1) * b ≡ 2 * (index * side) + 2 * side = omega arith in
    let end : (index + 1) * side ≡ index * side + side = omega arith in (
      (λ among.
          let more : (index + 1) * b ≤ high * b = mul-le-mul_right b (omega arith) in
          elim (cases_lt (2 * c - reach) ((index + 1) * b)) [
            | inl below ↦ omega (arith, at, end, more, times)
            | inr above ↦ absurd (omega (arith, low.1 above))
          ]),
      (λ near.
          elim (cases_lt index ((2 * c - reach) / b)) [
            | inl above ↦ absurd (omega (arith, at, end, low.0 (omega arith)))
            | inr below ↦
                elim (cases_lt index high) [
                  | inl inside ↦ (below, omega arith)
                  | inr past ↦
                      let less : high * b ≤ index * b = mul-le-mul_right b past in
                      let here : index * b ≡ 2 * (index * side) = omega arith in
                      absurd (omega (arith, less, here, times, end))
                ]
          ]),
    )

-- a node is wanted split for a camera where its level is above 0 and it is near on each axis
pub wanted_tells : (settings : Settings) (p : Point) (n : Node)
    → is_wanted_from settings p n ≡ true
    → IsNear settings n.level p.z n.k × IsNear settings n.level p.y n.j
    × IsNear settings n.level p.x n.i
wanted_tells settings p n h =
    let parts = and_parts (nat_lt 0 n.level)
    (nat_lt (2 * distance p n) (settings.reach * node_side n.level)) h in
    let near = ltb-true (2 * distance p n) (settings.reach * node_side n.level) parts.1 in
    (omega (arith, near), omega (arith, near), omega (arith, near))

-- a node above level 0 that is near on each axis is wanted
pub wanted_from : (settings : Settings) (p : Point) (n : Node) → 1 ≤ n.level
    → IsNear settings n.level p.z n.k → IsNear settings n.level p.y n.j
    → IsNear settings n.level p.x n.i
    → is_wanted_from settings p n ≡ true
wanted_from settings p n some z y x =
    and_from _ _ (lt-ltb 0 n.level some) (lt-ltb _ _ (omega (arith, z, y, x)))

-- three ranges have the indices of a level that are near a camera
pub record IsNearBox (settings : Settings) (level : ℕ) (camera : Point) (ks js is : Indices)
    : Type 0 where
  pub k_end : ks.end ≤ nodes_across settings.depth level
  pub j_end : js.end ≤ nodes_across settings.depth level
  pub i_end : is.end ≤ nodes_across settings.depth level
  pub k : (index : ℕ) → index < nodes_across settings.depth level
      → IsAmong ks index ↔ IsNear settings level camera.z index
  pub j : (index : ℕ) → index < nodes_across settings.depth level
      → IsAmong js index ↔ IsNear settings level camera.y index
  pub i : (index : ℕ) → index < nodes_across settings.depth level
      → IsAmong is index ↔ IsNear settings level camera.x index

-- a wanted node of the level is in the box
pub wanted_in : (settings : Settings) (level : ℕ) (camera : Point) (ks js is : Indices)
    → IsNearBox settings level camera ks js is
    → (n : Node) → IsWantedAt settings level camera n → IsInBox level ks js is n
wanted_in settings level camera ks js is box n h =
    let near = wanted_tells settings camera n h.near in
    let P : ℕ → Type 0 = λ l.
    ((n.k < nodes_across settings.depth l) × (n.j < nodes_across settings.depth l)
    × (n.i < nodes_across settings.depth l))
    × (IsNear settings l camera.z n.k × IsNear settings l camera.y n.j
    × IsNear settings l camera.x n.i) in
    let q : P level = subst P h.at ((h.node.k, h.node.j, h.node.i), near) in
    record {
      at = h.at;
      in_k = (box.k n.k q.0.0).1 q.1.0;
      in_j = (box.j n.j q.0.1).1 q.1.1;
      in_i = (box.i n.i q.0.2).1 q.1.2;
    }

-- a node of the box is wanted
pub in_wanted : (settings : Settings) (level : ℕ) (camera : Point) (ks js is : Indices)
    → IsNearBox settings level camera ks js is
    → 1 ≤ level → level ≤ settings.depth → (n : Node) → IsInBox level ks js is n
    → IsWantedAt settings level camera n
in_wanted settings level camera ks js is box low high n h =
    let k_in : n.k < nodes_across settings.depth level = omega (arith, h.in_k, box.k_end) in
    let j_in : n.j < nodes_across settings.depth level = omega (arith, h.in_j, box.j_end) in
    let i_in : n.i < nodes_across settings.depth level = omega (arith, h.in_i, box.i_end) in
    let P : ℕ → Type 0 = λ l.
    ((n.k < nodes_across settings.depth l) × (n.j < nodes_across settings.depth l)
    × (n.i < nodes_across settings.depth l))
    × (IsNear settings l camera.z n.k × IsNear settings l camera.y n.j
    × IsNear settings l camera.x n.i) in
    let q : P n.level = subst P (sym h.at) (
      (k_in, j_in, i_in),
      ((box.k n.k k_in).0 h.in_k, (box.j n.j j_in).0 h.in_j, (box.i n.i i_in).0 h.in_i),
    ) in
    record {
      node = record { level = omega (arith, h.at); k = q.0.0; j = q.0.1; i = q.0.2 };
      at = h.at;
      near = wanted_from settings camera n (omega (arith, h.at)) q.1.0 q.1.1 q.1.2;
    }

-- ---- boxes as values

-- the box of three ranges that are near a camera is that of its wanted nodes
pub box_some : (settings : Settings) (level : ℕ) (camera : Option Point) (at : Point)
    (box : NodeBox) → camera ≡ Some at → 1 ≤ level → level ≤ settings.depth
    → IsNearBox settings level at box.ks box.js box.is → IsWantedBox settings level camera box
box_some settings level camera at box is low high near = record {
  k_end = near.k_end;
  j_end = near.j_end;
  i_end = near.i_end;
  each = λ n n_in here. (
    (λ inside.
        let wanted = in_wanted settings level at box.ks box.js box.is near low high n (record {
          at = here;
          in_k = inside.0;
          in_j = inside.1;
          in_i = inside.2;
        }) in
        ap (λ c. is_wanted settings (option_to_list c) n) is
        ∙ any_of-one (λ p. is_wanted_from settings p n) at ∙ wanted.near),
    (λ wanted.
        let found = wanted_in settings level at box.ks box.js box.is near n (record {
          node = n_in;
          at = here;
          near = sym (any_of-one (λ p. is_wanted_from settings p n) at)
              ∙ ap (λ c. is_wanted settings (option_to_list c) n) (sym is) ∙ wanted;
        }) in
        (found.in_k, found.in_j, found.in_i)),
  );
}

-- an empty box is that of no camera
pub box_none : (settings : Settings) (level : ℕ) (camera : Option Point) (box : NodeBox)
    → camera ≡ None → box.ks.end ≡ 0 → box.js.end ≡ 0 → box.is.end ≡ 0
    → IsWantedBox settings level camera box
box_none settings level camera box is k_none j_none i_none = record {
  k_end = omega arith;
  j_end = omega arith;
  i_end = omega arith;
  each = λ n n_in here. (
    (λ inside. absurd (omega (arith, inside.0))),
    (λ wanted. absurd (false≢true (ap (λ c. is_wanted settings (option_to_list c) n) (sym is)
        ∙ wanted))),
  );
}

-- two tests that agree with one fact are equal
tests_of_one : (P : Type 0) (a b : Bool) → P ↔ (a ≡ true) → P ↔ (b ≡ true) → a ≡ b
tests_of_one P a b of_a of_b = same_test a b (λ h. of_b.0 (of_a.1 h)) (λ h. of_a.0 (of_b.1 h))

-- two cameras of one box want the same nodes of its level
pub same_box : (settings : Settings) (level : ℕ) (a b : Option Point) (a_box b_box : NodeBox)
    → IsWantedBox settings level a a_box → IsWantedBox settings level b b_box → a_box ≡ b_box
    → (n : Node) → IsNode settings.depth n → n.level ≡ level
    → is_wanted settings (option_to_list a) n ≡ is_wanted settings (option_to_list b) n
same_box settings level a b a_box b_box of_a of_b same n n_in here =
    tests_of_one (IsInside a_box n) (is_wanted settings (option_to_list a) n)
    (is_wanted settings (option_to_list b) n) (of_a.each n n_in here)
    (subst (λ box. IsInside box n ↔ (is_wanted settings (option_to_list b) n ≡ true)) (sym same)
    (of_b.each n n_in here))

-- no node of level 0 is wanted
pub lowest_unwanted : (settings : Settings) (camera : Option Point) (n : Node) → n.level ≡ 0
    → is_wanted settings (option_to_list camera) n ≡ false
lowest_unwanted settings None n low = refl
lowest_unwanted settings (Some p) n low =
    any_of-one (λ p. is_wanted_from settings p n) p
    ∙ ap (λ b. b && nat_lt (2 * distance p n) (settings.reach * node_side n.level))
    (le-ltb 0 n.level (omega arith))

-- ---- all viewpoints

-- viewpoints of which each wants the same nodes as another want the same nodes
pub wanted-places : (settings : Settings) (one other : ℕ → Option Point)
    → ((view : ℕ) → view < MAX_VIEWS
    → WantSame settings (option_to_list (one view)) (option_to_list (other view)))
    → WantSame settings (points_of one) (points_of other)
wanted-places settings one other same n n_in =
    places-same (λ p. is_wanted_from settings p n) one other MAX_VIEWS
    (λ view number. same view number n n_in)

-- a list of at most one point has points of the world where that is one
one-inside : (depth : ℕ) (place : Option Point) → ForSome place (IsInWorld depth)
    → All (IsInWorld depth) (option_to_list place)
one-inside depth None inside k d within = absurd (omega arith)
one-inside depth (Some p) inside k d within =
    let first : 0 ≡ k = omega arith in
    subst (λ i. IsInWorld depth (get_or (p ∷ []) i d)) first (inside p refl)

-- viewpoints in the world are at points of the world
pub points-inside : (depth : ℕ) (place : ℕ → Option Point)
    → ((view : ℕ) → ForSome (place view) (IsInWorld depth))
    → All (IsInWorld depth) (points_of place)
points-inside depth place inside =
    All-joined (IsInWorld depth) MAX_VIEWS (λ view. option_to_list (place view))
    (λ view number. one-inside depth (place view) (inside view))
