-- The rim of a leaf decides how far each of its lattice points moves, for the clause `shift` of `Moves::at`
-- (docs/rules.md, "Bricks and moves").
--
-- Which octants at a point are finer and whole is told by the leaf's neighbours (`Octants`), and these by the rim
-- (`Rims`). So the definition's test of moving is one of neighbours (`moves_by_rim`), and by `MovesTowardsLemmas` and
-- `FourPlaces` it comes to the neighbour across the face (`beyond_facing`). That is `border_move`, axis by axis and
-- border by border (`shift-border`), and `leaf_shift` says it of a leaf. Then how far that is at most
-- (`leaf_move-small`), and for which points it is nothing: those of a leaf with rim 0 (`move_at-none`), and the still
-- ones (`leaf_move-still`).
use Rattle.std.specs.List.{list_any}
use Rattle.std.specs.Option.{option_map_or}
use Rattle.std.specs.Prelude.{Option, Some, None, ◌%◌, ◌^◌, ◌==◌, unsigned_abs, ◌&&◌, not, ℤ, pos, neg_ℤ, if◌then◌else◌}
use Rattle.std.proofs.Math.Nat.{zero-div}
use Rattle.std.proofs.lemmas.Bool.{and_left, and_parts}
use Rattle.terrain.specs.Cells.{is_set}
use Rattle.std.proofs.Common.{◌≡◌, ℕ, zero, suc, ◌-◌, ◌<◌, ◌≤◌, ◌⊎◌, inl, inr, Bool, true, false, refl, sym, ap, ◌∙◌, subst, arith}
use Rattle.std.proofs.lemmas.Int.{ints}
use Rattle.lattice.specs.declared.node.Node.{Node}
use Rattle.lattice.specs.declared.point.Axis.{Axis}
use Rattle.lattice.specs.declared.point.Axis.TheVariants.{X, Y, Z}
use Rattle.lattice.specs.declared.point.Point.{Point}
use Rattle.lattice.specs.Node.{nodes_across}
use Rattle.lattice.specs.Region.{IsWithin}
use Rattle.lattice.specs.Offset.{Direction, has_neighbour, neighbour}
use Rattle.terrain.specs.Blocks.{cell_corner, is_finer_octant, is_whole_octant, moves_towards, shift}
use Rattle.terrain.specs.Levels.{IsLeaf, LevelMap, is_finer}
use Rattle.terrain.specs.World.{Octant}
use Rattle.vertex_places.specs.declared.leaf_rim.LeafRim.{LeafRim}
use Rattle.vertex_places.specs.Directions.{beyond, border_of, border_at, facing, inwards, rim_bit, step_on}
use Rattle.vertex_places.specs.Moves.{IsLeafOf, IsShift, IsSmall, border_move, is_finer_by, is_whole_by, leaf_move, move_at, moves_inwards, quarter, still_points}
use Rattle.vertex_places.proofs.FourPlaces.{any_four}
use Rattle.vertex_places.proofs.Octants.{border_at-inside, border_at-most, fits-stay, octant_lies, octant_place, side_step, side_step-most, step_fits}
use Rattle.vertex_places.proofs.Rims.{has_neighbour-stay, is_finer_by-is, leaf_of}
use Rattle.vertex_places.proofs.MovesTowardsLemmas.{towards, towards-beyond, towards-home}

-- how far a point moves, by whether it moves up and down
abbrev pub moved_by : ℕ → Bool → Bool → ℤ
moved_by far up down =
    elim up [ true ↦ pos far | false ↦ elim down [ true ↦ neg_ℤ (pos far) | false ↦ pos 0 ] ]

-- a shift, by whether the point moves up and down
pub shift-moved : (depth : ℕ) (m : LevelMap) (level : ℕ) (p : Point) (axis : Axis)
    → shift depth m level p axis
    ≡ moved_by (quarter level) (moves_towards depth m level p axis true)
    (moves_towards depth m level p axis false)
unfolding shift
shift-moved depth m level p axis = refl

-- ---- the octants at a lattice point, by the rim

-- a test that is asked twice
finer-again : (there split : Bool) → (there && not split) ≡ (there && not (there && split))
finer-again true split = refl
finer-again false split = refl

module _ (depth : ℕ) (m : LevelMap) (n : Node) (leaf : IsLeaf depth m n) where
  -- the leaf itself is whole
  whole_leaf : is_whole_by (leaf_of depth m n) (record { z = 1; y = 1; x = 1 }) ≡ true
  whole_leaf = ap (λ b. b && true) (has_neighbour-stay depth n leaf.node)

  module _ (z y x : ℕ) (hz : z ≤ 16) (hy : y ≤ 16) (hx : x ≤ 16) where
    -- the lattice point
    abbrev p : Point
    p = cell_corner n z y x

    -- the border on which it lies
    abbrev d : Direction
    d = border_of z y x

    -- the rim's bit of the neighbour in which an octant lies
    finer_bit : (o : Octant) → is_finer_by (leaf_of depth m n) (octant_place d o)
        ≡ is_finer depth m (octant_place d o) n
    finer_bit o =
        is_finer_by-is depth m n leaf.whole (octant_place d o).z (octant_place d o).y
        (octant_place d o).x
        (side_step-most d.z o.z (border_at-most z)) (side_step-most d.y o.y (border_at-most y))
        (side_step-most d.x o.x (border_at-most x))

    -- an octant is finer where the rim says so of its neighbour
    octant_finer : (o : Octant) → is_finer_octant depth m n.level p o
        ≡ is_finer_by (leaf_of depth m n) (octant_place d o)
    octant_finer o =
        let at = octant_lies depth n z y x o leaf.node hz hy hx in
        let split : m _ ≡ m (neighbour (octant_place d o) n) = ap m at.node in
        let both : is_finer_octant depth m n.level p o ≡ is_finer depth m (octant_place d o) n =
        λ t. at.there t && split t in
        both ∙ sym (finer_bit o)

    -- and whole where the rim says so
    octant_whole : (o : Octant) → is_whole_octant depth m n.level p o
        ≡ is_whole_by (leaf_of depth m n) (octant_place d o)
    octant_whole o =
        let at = octant_lies depth n z y x o leaf.node hz hy hx in
        let split : m _ ≡ m (neighbour (octant_place d o) n) = ap m at.node in
        let both : is_whole_octant depth m n.level p o
        ≡ (has_neighbour depth (octant_place d o) n && not (m (neighbour (octant_place d o) n)))
        = λ t. at.there t && not (split t) in
        both ∙ finer-again (has_neighbour depth (octant_place d o) n)
        (m (neighbour (octant_place d o) n))
        ∙ ap (λ b. has_neighbour depth (octant_place d o) n && not b) (sym (finer_bit o))

    -- the definition's test of moving, by the rim
    moves_by_rim : (axis : Axis) (side : Bool) → moves_towards depth m n.level p axis side
        ≡ towards (λ o. is_finer_by (leaf_of depth m n) (octant_place d o))
        (λ o. is_whole_by (leaf_of depth m n) (octant_place d o)) axis side
    moves_by_rim axis side = λ t. towards (λ o. octant_finer o t) (λ o. octant_whole o t) axis side

    -- ---- the move on an axis

    -- a quarter of a cell
    abbrev far : ℕ
    far = quarter n.level

    -- whether the point moves on an axis, by the rim
    abbrev finer_beyond : Axis → Bool
    finer_beyond axis = moves_inwards (leaf_of depth m n) d axis

    -- a finer place is in the world, and so is the one that lies across the face on its side
    in_world : (e : Direction) → e.z ≤ 2 → e.y ≤ 2 → e.x ≤ 2
        → is_finer_by (leaf_of depth m n) e ≡ true → has_neighbour depth e n ≡ true
    in_world e hz hy hx is =
        (and_parts (has_neighbour depth e n) (m (neighbour e n))
        (sym (is_finer_by-is depth m n leaf.whole e.z e.y e.x hz hy hx) ∙ is)).0

    -- with a neighbour beyond a border the one across the face is in the world
    facing_there : (axis : Axis) (e : Direction) → has_neighbour depth e n ≡ true
        → has_neighbour depth (facing axis e) n ≡ true
    facing_there axis e is =
        let a = nodes_across depth n.level in
        let zy = and_parts (step_fits n.k e.z a && step_fits n.j e.y a) (step_fits n.i e.x a) is in
        let parts = and_parts (step_fits n.k e.z a) (step_fits n.j e.y a) zy.0 in
        let k = fits-stay n.k a leaf.node.k in
        let j = fits-stay n.j a leaf.node.j in
        let i = fits-stay n.i a leaf.node.i in
        on axis k j i parts.0 parts.1 zy.1
      where
        on : (axis : Axis) → step_fits n.k 1 (nodes_across depth n.level) ≡ true
            → step_fits n.j 1 (nodes_across depth n.level) ≡ true
            → step_fits n.i 1 (nodes_across depth n.level) ≡ true
            → step_fits n.k e.z (nodes_across depth n.level) ≡ true
            → step_fits n.j e.y (nodes_across depth n.level) ≡ true
            → step_fits n.i e.x (nodes_across depth n.level) ≡ true
            → has_neighbour depth (facing axis e) n ≡ true
        on X k j i z y x = λ t. k t && j t && x t
        on Y k j i z y x = λ t. k t && y t && i t
        on Z k j i z y x = λ t. z t && j t && i t

    -- the places beyond a border, by the one across the face
    beyond_facing : (axis : Axis)
        → (list_any (is_finer_by (leaf_of depth m n)) (beyond axis d)
        && not (list_any (is_whole_by (leaf_of depth m n)) (beyond axis d)))
        ≡ finer_beyond axis
    beyond_facing X =
        let at : ℕ → ℕ → Direction = λ v u. record { z = v; y = u; x = d.x } in
        any_four at d.z d.y (is_finer_by (leaf_of depth m n)) (λ e. has_neighbour depth e n)
        (border_at-most z) (border_at-most y)
        (λ v u hv hu is. facing_there X (at v u) (in_world (at v u) hv hu (border_at-most x) is))
    beyond_facing Y =
        let at : ℕ → ℕ → Direction = λ v u. record { z = v; y = d.y; x = u } in
        any_four at d.z d.x (is_finer_by (leaf_of depth m n)) (λ e. has_neighbour depth e n)
        (border_at-most z) (border_at-most x)
        (λ v u hv hu is. facing_there Y (at v u) (in_world (at v u) hv (border_at-most y) hu is))
    beyond_facing Z =
        let at : ℕ → ℕ → Direction = λ v u. record { z = d.z; y = v; x = u } in
        any_four at d.y d.x (is_finer_by (leaf_of depth m n)) (λ e. has_neighbour depth e n)
        (border_at-most y) (border_at-most x)
        (λ v u hv hu is. facing_there Z (at v u) (in_world (at v u) (border_at-most z) hv hu is))

    -- the move on a low border, as the code writes it
    on_low : (f : Bool) → moved_by far f false ≡ (if f then inwards 0 (pos far) else pos 0)
    on_low true = refl
    on_low false = refl

    -- on a high border
    on_high : (f : Bool) → moved_by far false f ≡ (if f then inwards 2 (pos far) else pos 0)
    on_high true = refl
    on_high false = refl

    -- and between them
    in_between : (f : Bool) → moved_by far false false ≡ (if f then inwards 1 (pos far) else pos 0)
    in_between true = refl
    in_between false = refl

    -- to the leaf's side a point moves by the neighbours beyond its border
    towards_beyond : (axis : Axis) (side : Bool)
        → side_step (step_on axis d) (not side) ≡ step_on axis d
        → moves_towards depth m n.level p axis side ≡ finer_beyond axis
    towards_beyond axis side h =
        moves_by_rim axis side
        ∙ towards-beyond (is_finer_by (leaf_of depth m n)) (is_whole_by (leaf_of depth m n))
        d axis side h
        ∙ beyond_facing axis

    -- off the leaf's side it doesn't move
    towards_home : (axis : Axis) (side : Bool) → side_step (step_on axis d) (not side) ≡ 1
        → moves_towards depth m n.level p axis side ≡ false
    towards_home axis side h =
        moves_by_rim axis side
        ∙ towards-home (is_finer_by (leaf_of depth m n)) (is_whole_by (leaf_of depth m n))
        d axis side (border_at-most z) (border_at-most y) (border_at-most x) whole_leaf h

    -- the shift on an axis, by the step of the border there
    shift_at : (axis : Axis) (step : ℕ) → step ≤ 2 → step_on axis d ≡ step
        → shift depth m n.level p axis ≡ (if finer_beyond axis then inwards step (pos far)
        else pos 0)
    shift_at axis zero most at =
        let up = towards_beyond axis true (ap (λ s. side_step s false) at ∙ sym at) in
        let down = towards_home axis false (ap (λ s. side_step s true) at) in
        shift-moved depth m n.level p axis ∙ (λ t. moved_by far (up t) (down t))
        ∙ on_low (finer_beyond axis)
    shift_at axis (suc zero) most at =
        let up = towards_home axis true (ap (λ s. side_step s false) at) in
        let down = towards_home axis false (ap (λ s. side_step s true) at) in
        shift-moved depth m n.level p axis ∙ (λ t. moved_by far (up t) (down t))
        ∙ in_between (finer_beyond axis)
    shift_at axis (suc (suc zero)) most at =
        let up = towards_home axis true (ap (λ s. side_step s false) at) in
        let down = towards_beyond axis false (ap (λ s. side_step s true) at ∙ sym at) in
        shift-moved depth m n.level p axis ∙ (λ t. moved_by far (up t) (down t))
        ∙ on_high (finer_beyond axis)
    shift_at axis (suc (suc (suc step))) most at = absurd (omega arith)

    -- a step is 0, 1 or 2
    step-most : (axis : Axis) → step_on axis d ≤ 2
    step-most X = border_at-most x
    step-most Y = border_at-most y
    step-most Z = border_at-most z

    -- the shift of a lattice point is the move of its border
    pub shift-border : (axis : Axis) → shift depth m n.level p axis
        ≡ border_move (leaf_of depth m n) d axis
    shift-border axis = shift_at axis (step_on axis d) (step-most axis) refl

-- the moves of a leaf are its points' shifts, in each map that has the leaf
pub leaf_shift : (leaf : LeafRim) (m : LevelMap) (z y x : ℕ) → IsLeafOf m leaf
    → z ≤ 16 → y ≤ 16 → x ≤ 16
    → IsShift leaf.depth m leaf.node.level (cell_corner leaf.node z y x) (leaf_move leaf z y x)
leaf_shift leaf m z y x is hz hy hx =
    let same : leaf_of leaf.depth m leaf.node ≡ leaf =
    λ t. record { depth = leaf.depth; node = leaf.node; rim = is.bits t } in
    let on : (axis : Axis) → border_move leaf (border_of z y x) axis
    ≡ shift leaf.depth m leaf.node.level (cell_corner leaf.node z y x) axis =
    λ axis. sym (shift-border leaf.depth m leaf.node is.node z y x hz hy hx axis
    ∙ ap (λ l. border_move l (border_of z y x) axis) same) in
    record { x = on X; y = on Y; z = on Z }

-- ---- how far a leaf's points move at most

-- so far inwards is no further
inwards-small : (step far : ℕ) → unsigned_abs (inwards step (pos far)) ≤ far
inwards-small zero far = omega arith
inwards-small (suc zero) far = omega arith
inwards-small (suc (suc step)) far = omega (arith, ints)

-- nor is that or nothing
either-small : (f : Bool) (step far : ℕ)
    → unsigned_abs (if f then inwards step (pos far) else pos 0) ≤ far
either-small true step far = inwards-small step far
either-small false step far = omega arith

-- a lattice point moves by a quarter of a cell at most
pub leaf_move-small : (leaf : LeafRim) (z y x : ℕ) → IsSmall leaf.node.level (leaf_move leaf z y x)
leaf_move-small leaf z y x =
    let on : (axis : Axis) → unsigned_abs (border_move leaf (border_of z y x) axis)
    ≤ quarter leaf.node.level =
    λ axis. either-small (moves_inwards leaf (border_of z y x) axis)
    (step_on axis (border_of z y x))
    (quarter leaf.node.level) in
    record { x = on X; y = on Y; z = on Z }

-- ---- a leaf with no finer place next to it

-- with rim 0 no neighbour is finer
is_finer_by-none : (leaf : LeafRim) (d : Direction) → leaf.rim ≡ 0 → is_finer_by leaf d ≡ false
is_finer_by-none leaf d none = go (rim_bit d)
  where
    unset : (k : ℕ) → is_set leaf.rim k ≡ false
    unset k = ap (λ rim. is_set rim k) none ∙ ap (λ n. n % 2 == 1) (zero-div (2 ^ k))

    go : (bit : Option ℕ) → option_map_or (is_set leaf.rim) bit false ≡ false
    go None = refl
    go (Some k) = unset k

-- a point on a border doesn't move on an axis where the place across its face isn't finer
border_move-still : (leaf : LeafRim) (d : Direction) (axis : Axis)
    → is_finer_by leaf (facing axis d) ≡ false → border_move leaf d axis ≡ pos 0
border_move-still leaf d axis none =
    let far = pos (quarter leaf.node.level) in
    let stays : moves_inwards leaf d axis ≡ false =
    and_left (is_finer_by leaf (facing axis d)) (not (list_any (is_whole_by leaf) (beyond axis d)))
    none in
    ap (λ b. if b then inwards (step_on axis d) far else pos 0) stays

-- so no border moves
border_move-none : (leaf : LeafRim) (d : Direction) (axis : Axis) → leaf.rim ≡ 0
    → border_move leaf d axis ≡ pos 0
border_move-none leaf d axis none =
    border_move-still leaf d axis (is_finer_by-none leaf (facing axis d) none)

-- with rim 0 no point moves
pub move_at-none : (leaf : LeafRim) (d : Direction) → leaf.rim ≡ 0
    → move_at leaf d ≡ record { x = pos 0; y = pos 0; z = pos 0 }
move_at-none leaf d none =
    let x = border_move-none leaf d X none in
    let y = border_move-none leaf d Y none in
    let z = border_move-none leaf d Z none in
    λ t. record { x = x t; y = y t; z = z t }

-- ---- the points that lie on no face across which the place is finer

-- a place isn't finer where no cell is off its face
off-none : (f : Bool) → (if f then 1 else 0) ≤ 0 → f ≡ false
off-none true h = absurd (omega arith)
off-none false h = refl

-- the same on the high side
off-none_high : (f : Bool) → 16 ≤ 16 - (if f then 1 else 0) → f ≡ false
off-none_high true h = absurd (omega arith)
off-none_high false h = refl

-- the place that a border faces isn't finer, by the places on both sides of a point on an axis
faces_none : (finer : ℕ → Bool) → finer 1 ≡ false → (c : ℕ)
    → (if finer 0 then 1 else 0) ≤ c → c ≤ 16 - (if finer 2 then 1 else 0)
    → finer (border_at c) ≡ false
faces_none finer middle c low high =
    let cases : (c ≡ 0) ⊎ ((c ≡ 16) ⊎ ((0 < c) × (c < 16))) = grind arith in
    elim cases [
      | inl first ↦
          ap (λ n. finer (border_at n)) first
          ∙ off-none (finer 0) (subst (λ n. (if finer 0 then 1 else 0) ≤ n) first low)
      | inr (inl last) ↦
          ap (λ n. finer (border_at n)) last
          ∙ off-none_high (finer 2) (subst (λ n. n ≤ 16 - (if finer 2 then 1 else 0)) last high)
      | inr (inr inside) ↦ ap finer (border_at-inside c inside.0 inside.1) ∙ middle
    ]

-- none of these points moves
pub leaf_move-still : (leaf : LeafRim) (at : Point) → IsWithin (still_points leaf) at
    → leaf_move leaf at.z at.y at.x ≡ record { x = pos 0; y = pos 0; z = pos 0 }
leaf_move-still leaf at h =
    let d = border_of at.z at.y at.x in
    let z = border_move-still leaf d Z
    (faces_none (λ step. is_finer_by leaf (record { z = step; y = 1; x = 1 })) refl at.z h.z
    h.z_end) in
    let y = border_move-still leaf d Y
    (faces_none (λ step. is_finer_by leaf (record { z = 1; y = step; x = 1 })) refl at.y h.y
    h.y_end) in
    let x = border_move-still leaf d X
    (faces_none (λ step. is_finer_by leaf (record { z = 1; y = 1; x = step })) refl at.x h.x
    h.x_end) in
    λ t. record { x = x t; y = y t; z = z t }
