-- The derived comparisons are the orders that the specs write out. For the laws `order_of_points`, `order_of_nodes` and
-- `order_of_keys`.
--
-- A derived comparison goes from part to part. `Ranks` says of one what it answers in each case, by a relation `Before`
-- and one `Same`; a number's comparison has it (`Ranks-on`), and so has one followed by another (`Ranks-then`), with
-- which those of points, nodes and keys are put together. Where the same parts make the same value this is the order
-- that is promised (`IsOrderBy-from`). The comparison of axes is read off that of keys at one place
-- (`keys_ordered-by`).
use Rattle.std.proofs.Common.{◌≡◌, ℕ, ◌<◌, ◌↔◌, ◌⊎◌, inl, inr, refl, sym, ap, subst, arith}
use Rattle.std.specs.Ordering.{nat_cmp, ordering_then}
use Rattle.std.specs.declared.cmp.Ordering.{Ordering}
use Rattle.std.specs.declared.cmp.Ordering.TheVariants.{Less, Equal, Greater}
use Rattle.std.proofs.lemmas.Cmp.{ranked, by_ranked}
use Rattle.lattice.specs.declared.point.Point.{Point}
use Rattle.lattice.specs.declared.point.Axis.{Axis}
use Rattle.lattice.specs.declared.point.Axis.TheVariants.{X, Y, Z}
use Rattle.lattice.specs.declared.node.Node.{Node}
use Rattle.lattice.specs.declared.key.Key.{Key}
use Rattle.lattice.specs.Orders.{PointIsBefore, NodeIsBefore, AxisIsBefore, KeyIsBefore, IsOrderBy}

-- what a comparison of some parts of two values says of them
record Ranks {A : Type 0} (cmp : A → A → Ordering) (Before Same : A → A → Type 0) : Type 0 where
  less : (a b : A) → (cmp a b ≡ Less) ↔ Before a b
  equal : (a b : A) → (cmp a b ≡ Equal) ↔ Same a b
  greater : (a b : A) → (cmp a b ≡ Greater) ↔ Before b a
  back : (a b : A) → Same a b → Same b a

-- of two numbers, when the first is less
number_less : (x y : ℕ) → (nat_cmp x y ≡ Less) ↔ (x < y)
number_less x y =
    by_ranked (x < y) (x ≡ y) (y < x) (nat_cmp x y) (ranked x y (nat_cmp x y) refl)
    (λ e h. ((λ _. h), (λ _. e)))
    (λ e h. ((λ other. cc), (λ other. absurd (omega arith))))
    (λ e h. ((λ other. cc), (λ other. absurd (omega arith))))

-- when they are the same
number_equal : (x y : ℕ) → (nat_cmp x y ≡ Equal) ↔ (x ≡ y)
number_equal x y =
    by_ranked (x < y) (x ≡ y) (y < x) (nat_cmp x y) (ranked x y (nat_cmp x y) refl)
    (λ e h. ((λ other. cc), (λ other. absurd (omega arith))))
    (λ e h. ((λ _. h), (λ _. e)))
    (λ e h. ((λ other. cc), (λ other. absurd (omega arith))))

-- when the first is greater
number_greater : (x y : ℕ) → (nat_cmp x y ≡ Greater) ↔ (y < x)
number_greater x y =
    by_ranked (x < y) (x ≡ y) (y < x) (nat_cmp x y) (ranked x y (nat_cmp x y) refl)
    (λ e h. ((λ other. cc), (λ other. absurd (omega arith))))
    (λ e h. ((λ other. cc), (λ other. absurd (omega arith))))
    (λ e h. ((λ _. h), (λ _. e)))

-- a comparison of a number in each
Ranks-on : {A : Type 0} (part : A → ℕ)
    → Ranks (λ (a b : A). nat_cmp (part a) (part b)) (λ a b. part a < part b) (λ a b. part a
    ≡ part b)
Ranks-on part = record {
  less = λ a b. number_less (part a) (part b);
  equal = λ a b. number_equal (part a) (part b);
  greater = λ a b. number_greater (part a) (part b);
  back = λ a b e. sym e;
}

-- of two comparisons, the second where the first is equal: when both together say less
then_less : (o p : Ordering) (P Q P' : Type 0) → ((o ≡ Less) ↔ P) → ((o ≡ Equal) ↔ Q)
    → ((p ≡ Less) ↔ P') → (ordering_then o p ≡ Less) ↔ (P ⊎ (Q × P'))
then_less Less p P Q P' before same rest = ((λ _. inl (before.0 refl)), (λ _. refl))
then_less Equal p P Q P' before same rest = (
  (λ e. inr (same.0 refl, rest.0 e)),
  (λ w. elim w [ inl h ↦ (let e : Equal ≡ Less = before.1 h in cc) | inr h ↦ rest.1 h.1 ]),
)
then_less Greater p P Q P' before same rest = (
  (λ e. cc),
  (λ w. elim w [
    | inl h ↦ before.1 h
    | inr h ↦ (let e : Greater ≡ Equal = same.1 h.0 in
        cc)
  ]),
)

-- when they say greater
then_greater : (o p : Ordering) (P Q P' : Type 0) → ((o ≡ Greater) ↔ P) → ((o ≡ Equal) ↔ Q)
    → ((p ≡ Greater) ↔ P') → (ordering_then o p ≡ Greater) ↔ (P ⊎ (Q × P'))
then_greater Less p P Q P' before same rest = (
  (λ e. cc),
  (λ w. elim w [
    | inl h ↦ before.1 h
    | inr h ↦ (let e : Less ≡ Equal = same.1 h.0 in
        cc)
  ]),
)
then_greater Equal p P Q P' before same rest = (
  (λ e. inr (same.0 refl, rest.0 e)),
  (λ w. elim w [ inl h ↦ (let e : Equal ≡ Greater = before.1 h in cc) | inr h ↦ rest.1 h.1 ]),
)
then_greater Greater p P Q P' before same rest = ((λ _. inl (before.0 refl)), (λ _. refl))

-- when they say equal
then_equal : (o p : Ordering) (Q Q' : Type 0) → ((o ≡ Equal) ↔ Q) → ((p ≡ Equal) ↔ Q')
    → (ordering_then o p ≡ Equal) ↔ (Q × Q')
then_equal Less p Q Q' same rest = ((λ e. cc), (λ h. same.1 h.0))
then_equal Equal p Q Q' same rest = ((λ e. (same.0 refl, rest.0 e)), (λ h. rest.1 h.1))
then_equal Greater p Q Q' same rest = ((λ e. cc), (λ h. same.1 h.0))

-- the same fact in other words
both_ways : {P Q R : Type 0} → (P ↔ Q) → (Q → R) → (R → Q) → P ↔ R
both_ways is there back = ((λ p. there (is.0 p)), (λ r. is.1 (back r)))

-- two comparisons, the second where the first says that both are the same
Ranks-then : {A : Type 0} (f g : A → A → Ordering) (Before Same Before' Same' : A → A → Type 0)
    → Ranks f Before Same → Ranks g Before' Same'
    → Ranks (λ a b. ordering_then (f a b) (g a b)) (λ a b. Before a b
    ⊎ (Same a b × Before' a b)) (λ a b. Same a b × Same' a b)
Ranks-then f g Before Same Before' Same' first rest = record {
  less = λ a b. then_less (f a b) (g a b) (Before a b) (Same a b) (Before' a b) (first.less a b)
      (first.equal a b) (rest.less a b);
  equal = λ a b.
      then_equal (f a b) (g a b) (Same a b) (Same' a b) (first.equal a b) (rest.equal a b);
  greater = λ a b.
      let same_back : (f a b ≡ Equal) ↔ Same b a =
      both_ways (first.equal a b) (first.back a b) (first.back b a) in
      then_greater (f a b) (g a b) (Before b a) (Same b a) (Before' b a) (first.greater a b)
      same_back (rest.greater a b);
  back = λ a b h. (first.back a b h.0, rest.back a b h.1);
}

-- it is an order of the whole values, where the same parts make the same value
IsOrderBy-from : {A : Type 0} (cmp : A → A → Ordering) (Before Same : A → A → Type 0)
    → Ranks cmp Before Same → ((a b : A) → Same a b → a ≡ b) → ((a b : A) → a ≡ b → Same a b)
    → IsOrderBy cmp Before
IsOrderBy-from cmp Before Same ranks whole parts = record {
  less = ranks.less;
  equal = λ a b. both_ways (ranks.equal a b) (whole a b) (parts a b);
  greater = ranks.greater;
}

-- ---- points

abbrev pub point_cmp : Point → Point → Ordering
point_cmp a b = ordering_then (nat_cmp a.z b.z) (ordering_then (nat_cmp a.y b.y) (nat_cmp a.x b.x))

-- two points have the same parts
abbrev SamePoint : Point → Point → Type 0
SamePoint a b = (a.z ≡ b.z) × ((a.y ≡ b.y) × (a.x ≡ b.x))

-- the comparison of points, by its parts
Ranks-points : Ranks point_cmp PointIsBefore SamePoint
Ranks-points =
    Ranks-then _ _ _ _ _ _ (Ranks-on (λ (p : Point). p.z))
    (Ranks-then _ _ _ _ _ _ (Ranks-on (λ (p : Point). p.y)) (Ranks-on (λ (p : Point). p.x)))

-- the same parts make the same point
same_point : (a b : Point) → SamePoint a b → a ≡ b
same_point a b h = λ i. record { z = h.0 i; y = h.1.0 i; x = h.1.1 i }

-- and back
point_parts : (a b : Point) → a ≡ b → SamePoint a b
point_parts a b e = (ap (λ p. p.z) e, (ap (λ p. p.y) e, ap (λ p. p.x) e))

-- the comparison of points by z, y and x is their order
pub points_ordered : IsOrderBy point_cmp PointIsBefore
points_ordered =
    IsOrderBy-from point_cmp PointIsBefore SamePoint Ranks-points same_point point_parts

-- ---- nodes

abbrev pub node_cmp : Node → Node → Ordering
node_cmp a b =
    ordering_then (nat_cmp a.level b.level) (ordering_then (nat_cmp a.k b.k)
    (ordering_then (nat_cmp a.j b.j) (nat_cmp a.i b.i)))

-- two nodes have the same parts
abbrev SameNode : Node → Node → Type 0
SameNode a b = (a.level ≡ b.level) × ((a.k ≡ b.k) × ((a.j ≡ b.j) × (a.i ≡ b.i)))

-- the comparison of nodes, by its parts
Ranks-nodes : Ranks node_cmp NodeIsBefore SameNode
Ranks-nodes =
    Ranks-then _ _ _ _ _ _ (Ranks-on (λ (n : Node). n.level))
    (Ranks-then _ _ _ _ _ _ (Ranks-on (λ (n : Node). n.k))
    (Ranks-then _ _ _ _ _ _ (Ranks-on (λ (n : Node). n.j)) (Ranks-on (λ (n : Node). n.i))))

-- the comparison of nodes by level, k, j and i is their order
pub nodes_ordered : IsOrderBy node_cmp NodeIsBefore
nodes_ordered =
    IsOrderBy-from node_cmp NodeIsBefore SameNode Ranks-nodes
    (λ a b h. λ i. record { level = h.0 i; k = h.1.0 i; j = h.1.1.0 i; i = h.1.1.1 i })
    (λ a b e. (ap (λ n. n.level) e, (ap (λ n. n.k) e, (ap (λ n. n.j) e, ap (λ n. n.i) e))))

-- ---- keys

-- the comparison of two axes gives these nine answers
pub record AxisAnswers (f : Axis → Axis → Ordering) : Type 0 where
  pub xx : f X X ≡ Equal
  pub xy : f X Y ≡ Less
  pub xz : f X Z ≡ Less
  pub yx : f Y X ≡ Greater
  pub yy : f Y Y ≡ Equal
  pub yz : f Y Z ≡ Less
  pub zx : f Z X ≡ Greater
  pub zy : f Z Y ≡ Greater
  pub zz : f Z Z ≡ Equal

-- by cases: when the comparison of axes says less
axis_less : (f : Axis → Axis → Ordering) → AxisAnswers f → (a b : Axis)
    → (f a b ≡ Less) ↔ AxisIsBefore a b
axis_less f answers X X = ((λ e. let h = answers.xx in cc), (λ h. absurd h))
axis_less f answers X Y = ((λ _. tt), (λ _. answers.xy))
axis_less f answers X Z = ((λ _. tt), (λ _. answers.xz))
axis_less f answers Y X = ((λ e. let h = answers.yx in cc), (λ h. absurd h))
axis_less f answers Y Y = ((λ e. let h = answers.yy in cc), (λ h. absurd h))
axis_less f answers Y Z = ((λ _. tt), (λ _. answers.yz))
axis_less f answers Z X = ((λ e. let h = answers.zx in cc), (λ h. absurd h))
axis_less f answers Z Y = ((λ e. let h = answers.zy in cc), (λ h. absurd h))
axis_less f answers Z Z = ((λ e. let h = answers.zz in cc), (λ h. absurd h))

-- when it says greater
axis_greater : (f : Axis → Axis → Ordering) → AxisAnswers f → (a b : Axis)
    → (f a b ≡ Greater) ↔ AxisIsBefore b a
axis_greater f answers X X = ((λ e. let h = answers.xx in cc), (λ h. absurd h))
axis_greater f answers X Y = ((λ e. let h = answers.xy in cc), (λ h. absurd h))
axis_greater f answers X Z = ((λ e. let h = answers.xz in cc), (λ h. absurd h))
axis_greater f answers Y X = ((λ _. tt), (λ _. answers.yx))
axis_greater f answers Y Y = ((λ e. let h = answers.yy in cc), (λ h. absurd h))
axis_greater f answers Y Z = ((λ e. let h = answers.yz in cc), (λ h. absurd h))
axis_greater f answers Z X = ((λ _. tt), (λ _. answers.zx))
axis_greater f answers Z Y = ((λ _. tt), (λ _. answers.zy))
axis_greater f answers Z Z = ((λ e. let h = answers.zz in cc), (λ h. absurd h))

-- when it says equal
axis_equal : (f : Axis → Axis → Ordering) → AxisAnswers f → (a b : Axis) → (f a b ≡ Equal) ↔ (a ≡ b)
axis_equal f answers X X = ((λ _. refl), (λ _. answers.xx))
axis_equal f answers X Y = ((λ e. let h = answers.xy in cc), (λ same. cc))
axis_equal f answers X Z = ((λ e. let h = answers.xz in cc), (λ same. cc))
axis_equal f answers Y X = ((λ e. let h = answers.yx in cc), (λ same. cc))
axis_equal f answers Y Y = ((λ _. refl), (λ _. answers.yy))
axis_equal f answers Y Z = ((λ e. let h = answers.yz in cc), (λ same. cc))
axis_equal f answers Z X = ((λ e. let h = answers.zx in cc), (λ same. cc))
axis_equal f answers Z Y = ((λ e. let h = answers.zy in cc), (λ same. cc))
axis_equal f answers Z Z = ((λ _. refl), (λ _. answers.zz))

-- a key of an axis at the origin: two such keys compare as their axes do
abbrev pub on_axis : Axis → Key
on_axis axis = record { level = 0; at = record { z = 0; y = 0; x = 0 }; axis = axis }

-- two keys have the same parts
abbrev SameKey : Key → Key → Type 0
SameKey a b = (a.level ≡ b.level) × ((a.at ≡ b.at) × (a.axis ≡ b.axis))

-- the comparison of where keys lie
Ranks-at : Ranks (λ (a b : Key). point_cmp a.at b.at) (λ a b. PointIsBefore a.at b.at) (λ a b. a.at
    ≡ b.at)
Ranks-at = record {
  less = λ a b. points_ordered.less a.at b.at;
  equal = λ a b. points_ordered.equal a.at b.at;
  greater = λ a b. points_ordered.greater a.at b.at;
  back = λ a b e. sym e;
}

-- the comparison of their axes
Ranks-axes : (f : Axis → Axis → Ordering) → AxisAnswers f
    → Ranks (λ (a b : Key). f a.axis b.axis) (λ a b. AxisIsBefore a.axis b.axis) (λ a b. a.axis
    ≡ b.axis)
Ranks-axes f answers = record {
  less = λ a b. axis_less f answers a.axis b.axis;
  equal = λ a b. axis_equal f answers a.axis b.axis;
  greater = λ a b. axis_greater f answers a.axis b.axis;
  back = λ a b e. sym e;
}

abbrev pub key_cmp : (Axis → Axis → Ordering) → Key → Key → Ordering
key_cmp f a b =
    ordering_then (nat_cmp a.level b.level) (ordering_then (point_cmp a.at b.at) (f a.axis b.axis))

-- the comparison of keys is their order
keys_ordered : (f : Axis → Axis → Ordering) → AxisAnswers f → IsOrderBy (key_cmp f) KeyIsBefore
keys_ordered f answers =
    IsOrderBy-from (key_cmp f) KeyIsBefore SameKey
    (Ranks-then _ _ _ _ _ _ (Ranks-on (λ (k : Key). k.level))
    (Ranks-then _ _ _ _ _ _ Ranks-at (Ranks-axes f answers)))
    (λ a b h. λ i. record { level = h.0 i; at = h.1.0 i; axis = h.1.1 i })
    (λ a b e. (ap (λ k. k.level) e, (ap (λ k. k.at) e, ap (λ k. k.axis) e)))

-- the axes' comparison is read off the keys'
pub keys_ordered-by : (cmp : Key → Key → Ordering)
    → ((a b : Key) → key_cmp (λ x y. cmp (on_axis x) (on_axis y)) a b ≡ cmp a b)
    → AxisAnswers (λ x y. cmp (on_axis x) (on_axis y)) → IsOrderBy cmp KeyIsBefore
keys_ordered-by cmp same answers =
    subst (λ c. IsOrderBy c KeyIsBefore) (λ i a b.
    same a b i) (keys_ordered (λ x y. cmp (on_axis x) (on_axis y)) answers)
