-- How the level map follows the viewpoints, what it is before any event, and the rims of nodes of level 0: the law
-- `levels_follow_the_viewpoints`.
-- One event more moves each viewpoint as the definition says of one event (viewpoint-more), so an edit or an
-- undo leaves all of them and the level map (levels-edit, levels-undo). A node is wanted from the points of all
-- viewpoints where it is from one (wanted-tells, wanted-from). Before any event there is no viewpoint (viewpoints-none)
-- and so no node is wanted, and by the recursion on levels none is split (is_split_at-none), so that the root is the
-- one leaf (IsLeaf-none). No map splits level 0, so the rim of a node there has no bit (rim-lowest).
use Rattle.std.proofs.Common.{◌≡◌, ◌↔◌, ℕ, zero, suc, ◌-◌, ◌^◌, ◌<◌, Bool, true, false, List, [], ◌∷◌, ◌++◌, map, inl, inr, refl, sym, ap, ◌∙◌, subst, arith}
use Rattle.std.specs.Prelude.{Option, None}
use Rattle.std.proofs.lemmas.Bool.{and_right, false≢true}
use Rattle.lattice.specs.declared.node.Node.{Node}
use Rattle.lattice.specs.declared.point.Point.{Point}
use Rattle.lattice.specs.declared.settings.Settings.{Settings}
use Rattle.lattice.specs.Node.{children, is_node, nodes_across, parent, root}
use Rattle.lattice.specs.Offset.{directions, near_nodes, neighbour}
use Rattle.terrain.specs.declared.brush.Brush.{Brush}
use Rattle.terrain.specs.declared.event.Event.{Event}
use Rattle.terrain.specs.declared.event.Event.TheVariants.{Edit, Undo}
use Rattle.terrain.specs.declared.event.TheConstants.{MAX_VIEWS}
use Rattle.lattice.specs.Lists.{joined}
use Rattle.terrain.specs.Levels.{IsLeaf, is_finer, is_split_at, is_wanted, is_wanted_from, levels, points_of, rim, split, viewpoint, viewpoint_after, viewpoint_by, viewpoints}
use Rattle.terrain.specs.Lists.{any_of, binary}
use Rattle.terrain.proofs.AnyLemmas.{any_place, place_any}
use Rattle.event_laws.specs.Laws.{IsWantedByOne, WantedFromViewpoints}

-- ---- viewpoints

-- one event more at the end of a history moves a viewpoint from where it was before
viewpoint-more : (view : ℕ) (events : List Event) (event : Event) (at : Option Point)
    → viewpoint_after view (events ++ event ∷ []) at
    ≡ viewpoint_by view event (viewpoint_after view events at)
viewpoint-more view [] event at = refl
viewpoint-more view (e ∷ events) event at =
    viewpoint-more view events event (viewpoint_by view e at)

-- so it does each viewpoint of a history
pub viewpoint-moves : (events : List Event) (event : Event) (view : ℕ)
    → viewpoint (events ++ event ∷ []) view ≡ viewpoint_by view event (viewpoint events view)
viewpoint-moves events event view = viewpoint-more view events event None

-- before any event there is none
pub viewpoints-none : viewpoints [] ≡ []
unfolding joined viewpoints
viewpoints-none = refl

-- an edit leaves the viewpoints
viewpoints-edit : (events : List Event) (brush : Brush)
    → viewpoints (events ++ Edit brush ∷ []) ≡ viewpoints events
unfolding viewpoints
viewpoints-edit events brush =
    λ i. points_of (λ view. viewpoint-moves events (Edit brush) view i)

-- and so the level map as it is
pub levels-edit : (settings : Settings) (events : List Event) (brush : Brush)
    → levels settings (events ++ Edit brush ∷ []) ≡ levels settings events
levels-edit settings events brush = ap (split settings) (viewpoints-edit events brush)

-- so does an undo
viewpoints-undo : (events : List Event) → viewpoints (events ++ Undo ∷ []) ≡ viewpoints events
unfolding viewpoints
viewpoints-undo events = λ i. points_of (λ view. viewpoint-moves events Undo view i)

-- and so the level map
pub levels-undo : (settings : Settings) (events : List Event)
    → levels settings (events ++ Undo ∷ []) ≡ levels settings events
levels-undo settings events = ap (split settings) (viewpoints-undo events)

-- a node that is wanted is so from a viewpoint
wanted-tells : (settings : Settings) (events : List Event) (n : Node)
    → is_wanted settings (viewpoints events) n ≡ true → IsWantedByOne settings events n
unfolding viewpoints
wanted-tells settings events n h =
    let found = any_place (λ p. is_wanted_from settings p n) (viewpoint events) MAX_VIEWS h in
    record {
      view = found.at;
      number = found.number;
      at = found.item;
      is = found.is;
      near = found.pass;
    }

-- a node that is wanted from a viewpoint is wanted
wanted-from : (settings : Settings) (events : List Event) (n : Node)
    → IsWantedByOne settings events n → is_wanted settings (viewpoints events) n ≡ true
unfolding viewpoints
wanted-from settings events n one =
    place_any (λ p. is_wanted_from settings p n) (viewpoint events) MAX_VIEWS one.view one.at
    one.number one.is one.near

-- a node is wanted where it is from a viewpoint
pub wanted-one : WantedFromViewpoints
wanted-one settings events n = (wanted-tells settings events n, wanted-from settings events n)

-- ---- before any event

-- no item passes a test that passes none
any_of-none : {A : Type 0} (test : A → Bool) → ((x : A) → test x ≡ false) → (xs : List A)
    → any_of test xs ≡ false
any_of-none test none [] = refl
any_of-none test none (x ∷ xs) = rw (none x, any_of) (any_of-none test none xs)

-- without a viewpoint no node is split
is_split_at-none : (settings : Settings) (level : ℕ) (n : Node)
    → is_split_at settings [] level n ≡ false
unfolding is_split_at
is_split_at-none settings zero n = refl
is_split_at-none settings (suc level) n =
    any_of-none _ (λ child. any_of-none _ (λ near. is_split_at-none settings level near)
    (near_nodes settings.depth child)) (children n)

-- before any event no node is split
pub levels-none : (settings : Settings) (n : Node) → levels settings [] n ≡ false
levels-none settings n =
    and_right (is_node settings.depth n) _
    (ap (λ points. is_split_at settings points n.level n) viewpoints-none
    ∙ is_split_at-none settings n.level n)

-- the root is a leaf then
root_leaf : (settings : Settings) → IsLeaf settings.depth (levels settings []) (root settings.depth)
root_leaf settings =
    let depth = settings.depth in
    let rest : depth - depth ≡ 0 = omega arith in
    let some : 0 < nodes_across depth depth = omega (arith, ap (λ d. 2 ^ d) rest) in
    record {
      node = record { level = omega arith; k = some; j = some; i = some };
      whole = levels-none settings (root depth);
      held = inl refl;
    }

-- and no other node is
leaf_is_root : (settings : Settings) (n : Node) → IsLeaf settings.depth (levels settings []) n
    → n ≡ root settings.depth
leaf_is_root settings n leaf =
    elim leaf.held [
      | inr split ↦ absurd (false≢true (sym (levels-none settings (parent n)) ∙ split))
      | inl top ↦
          let rest : settings.depth - n.level ≡ 0 = omega arith in
          let one : nodes_across settings.depth n.level ≡ 1 = ap (λ d. 2 ^ d) rest in
          let k : n.k ≡ 0 = omega (arith, one, leaf.node.k) in
          let j : n.j ≡ 0 = omega (arith, one, leaf.node.j) in
          let i : n.i ≡ 0 = omega (arith, one, leaf.node.i) in
          λ t. record { level = top t; k = k t; j = j t; i = i t }
    ]

-- before any event the root is the one leaf
pub IsLeaf-none : (settings : Settings) (n : Node)
    → IsLeaf settings.depth (levels settings []) n ↔ (n ≡ root settings.depth)
IsLeaf-none settings n = (
  leaf_is_root settings n,
  λ is. subst (IsLeaf settings.depth (levels settings [])) (sym is) (root_leaf settings),
)

-- ---- rims of nodes of level 0

-- a number with no digit set
pub binary-none : {A : Type 0} (test : A → Bool) (xs : List A) → ((x : A) → test x ≡ false)
    → binary (map test xs) ≡ 0
binary-none test [] none = refl
binary-none test (x ∷ xs) none =
    ap (λ b. binary (b ∷ map test xs)) (none x) ∙ omega (arith, binary-none test xs none)

-- a node of level 0 isn't split
split-lowest : (settings : Settings) (points : List Point) (n : Node) → n.level ≡ 0
    → is_split_at settings points n.level n ≡ false
unfolding is_split_at
split-lowest settings points n low = ap (λ level. is_split_at settings points level n) low

-- a node of level 0 has no finer neighbour
pub rim-lowest : (settings : Settings) (events : List Event) (n : Node) → n.level ≡ 0
    → rim settings.depth (levels settings events) n ≡ 0
rim-lowest settings events n low =
    binary-none (λ d. is_finer settings.depth (levels settings events) d n) directions
    (λ d. and_right _ _ (and_right _ _
    (split-lowest settings (viewpoints events) (neighbour d n) low)))
