-- A level more of a level map in the making: the invariant `IsGrown` of `choose`, for its first level, one more, and
-- the last.
--
-- For `split_level` and `choose`. A level gains the nodes above split nodes of the level below, row by row
-- (`needed-row`, `needed-plane`), and the wanted ones, which it gains camera by camera (`gains_none`, `gains_more`).
-- Each of these is split (`gained`), and each split node of the level is one of these (`needed`), by the two lemmas of
-- `AboveLemmas` on reasons. So the map then splits just the nodes up to this level that the viewpoints' map splits
-- (`grown_next`); past the highest level it is that map
-- (`grown_last`), and has what is promised of it (`has_choice`). Viewpoints that want the same nodes have the same map
-- (`same_wants_split_same`), as each map is the least that splits these nodes.
use Rattle.std.proofs.Common.{◌≡◌, ℕ, ◌+◌, ◌-◌, ◌^◌, ◌<◌, ◌≤◌, ◌↔◌, Bool, true, false, List, [], ◌∷◌, ◌++◌, ◌||◌, inl, inr, refl, sym, ap, ◌∙◌, subst, arith}
use Rattle.std.proofs.Math.Path.{fun_ext}
use Rattle.std.proofs.lemmas.Bool.{cases_eq, cases_lt, false≢true, or_cases, or_left, or_right}
use Rattle.lattice.specs.Node.{IsNode, nodes_across}
use Rattle.lattice.proofs.FamilyLemmas.{same_node}
use Rattle.lattice.specs.declared.point.Point.{Point}
use Rattle.lattice.specs.declared.node.Node.{Node}
use Rattle.lattice.specs.declared.settings.Settings.{Settings}
use Rattle.terrain.specs.Levels.{LevelMap, is_wanted, is_wanted_from, split, IsBalanced}
use Rattle.terrain.specs.Lists.{any_of}
use Rattle.terrain.proofs.AnyLemmas.{any_of-append, any_of-one}
use Rattle.octree.specs.SplitBits.{IsRow, SplitBits, row_bit, split_at}
use Rattle.octree.specs.Choice.{SplitsWanted, IsLeast, IsMapOf, SameWantsSplitSame}
use Rattle.octree.specs.Growing.{Gains, IsAboveSplit, IsGrown, IsInBits, IsNeeded}
use Rattle.octree.specs.WantedNodes.{IsWantedAt, IsWantedOf}
use Rattle.octree.proofs.GainsLemmas.{gains_both, gains_nothing, gains_same}
use Rattle.octree.proofs.AboveLemmas.{above-split, split-tells}
use Rattle.octree.proofs.BalanceLemmas.{split-in_world, split-low, split_wanted, split_balanced, split_least}
use Rattle.octree.proofs.RowBitLemmas.{past_word}
use Rattle.octree.proofs.SplitAtLemmas.{split_at-in}

module _ (settings : Settings) (points : List Point) (level : ℕ) (low : 1 ≤ level)
    (high : level ≤ settings.depth) (old new last : SplitBits)
    (grown : IsGrown settings points level old)
    (first : Gains (IsNeeded old level) old new)
    (second : Gains (IsWantedOf settings level points) new last) where
  -- what is split at the end is split as it is to be
  gained : (n : Node) → split_at last n ≡ true
      → (n.level < level + 1) × (split settings points n ≡ true)
  gained n h =
      elim ((second.each n).0 h) [
        | inr wanted ↦ (
          omega (arith, wanted.at),
          split_wanted settings points n wanted.node wanted.near,
        )
        | inl h ↦
            elim ((first.each n).0 h) [
              | inl old ↦ (let b = (grown.each n).0 old in (omega (arith, b.0), b.1))
              | inr needed ↦
                  let below = (grown.each needed.above.low).0 needed.above.is_split in
                  let n_in = subst (λ d. IsNode d n) grown.depth needed.node in (
                    omega (arith, needed.at),
                    above-split settings points needed.above.low n n_in below.1
                        needed.above.above,
                  )
            ]
      ]

  -- what is to be split is split at the end
  needed : (n : Node) → n.level < level + 1 → split settings points n ≡ true
      → split_at last n ≡ true
  needed n within is_split =
      elim (cases_lt n.level level) [
        | inl below ↦
            (second.each n).1
            (inl ((first.each n).1 (inl ((grown.each n).1 (below, is_split)))))
        | inr not_below ↦
            let at : n.level ≡ level = omega arith in
            let n_in = split-in_world settings points n is_split in
            elim (split-tells settings points (level - 1) n (omega arith) is_split) [
              | inl wanted ↦ (second.each n).1
                  (inr (record { node = n_in; at = at; near = wanted }))
              | inr from ↦ (second.each n).1 (inl ((first.each n).1 (inr (record {
                node = subst (λ d. IsNode d n) (sym grown.depth) n_in;
                at = at;
                above = record {
                  low = from.low;
                  is_split = (grown.each from.low).1
                      (omega (arith, from.above.level), from.low_split);
                  above = from.above;
                };
              }))))
            ]
      ]

  -- a level more is grown by the nodes above and the wanted ones
  pub grown_next : IsGrown settings points (level + 1) last
  grown_next = record {
    depth = second.depth ∙ first.depth ∙ grown.depth;
    each = λ n. ((λ h. gained n h), (λ h. needed n h.0 h.1));
  }

-- ---- the nodes above, row by row

-- a map that gained nodes of a level needs the same nodes of it as before
pub needed-kept : (level : ℕ) (P : Node → Type 0) (old new : SplitBits) → Gains P old new
    → ((n : Node) → P n → n.level ≡ level) → (n : Node)
    → IsNeeded new level n ↔ IsNeeded old level n
needed-kept level P old new gains of n = (
  (λ h. record {
    node = subst (λ d. IsNode d n) gains.depth h.node;
    at = h.at;
    above = record {
      low = h.above.low;
      is_split = elim ((gains.each h.above.low).0 h.above.is_split) [
        | inl before ↦ before
        | inr new ↦ absurd (omega (arith, of h.above.low new, h.above.above.level, h.at))
      ];
      above = h.above.above;
    };
  }),
  (λ h. record {
    node = subst (λ d. IsNode d n) (sym gains.depth) h.node;
    at = h.at;
    above = record {
      low = h.above.low;
      is_split = (gains.each h.above.low).1 (inl h.above.is_split);
      above = h.above.above;
    };
  }),
)

-- no node of level 1 is needed
pub none_needed : (levels : SplitBits) (level : ℕ) (n : Node) → level ≡ 1 → IsNeeded levels level n
    → ⊥
none_needed levels level n one h =
    omega (arith, (split_at-in levels h.above.low h.above.is_split).1, h.above.above.level, h.at)

module _ (levels : SplitBits) (level k j bits : ℕ) (row : IsRow levels.depth level k j)
    (bits_in : bits < 2 ^ nodes_across levels.depth level)
    (each : (i : ℕ) → i < nodes_across levels.depth level → (row_bit bits i ≡ true)
    ↔ IsAboveSplit levels (record { level = level; k = k; j = j; i = i })) where
  -- where it is set it is needed
  pub bits-needed : (n : Node) → IsInBits level k j bits n → IsNeeded levels level n
  bits-needed n h =
      let a = nodes_across levels.depth level in
      let i_in : n.i < a =
      elim (cases_lt n.i a) [
        | inl within ↦ within
        | inr past ↦ absurd (false≢true (sym (past_word bits a n.i bits_in past) ∙ h.set))
      ] in
      let at : Node = record { level = level; k = k; j = j; i = n.i } in
      let is : at ≡ n = same_node at n (sym h.at) (sym h.same_k) (sym h.same_j) refl in
      subst (IsNeeded levels level) is (record {
        node = record { level = row.high; k = row.k_in; j = row.j_in; i = i_in };
        at = refl;
        above = (each n.i i_in).0 h.set;
      })

  -- and where it is needed, its bit is set
  pub needed-bits : (n : Node) → IsNeeded levels level n → n.k ≡ k → n.j ≡ j
      → IsInBits level k j bits n
  needed-bits n h same_k same_j =
      let at : Node = record { level = level; k = k; j = j; i = n.i } in
      let is : n ≡ at = same_node n at h.at same_k same_j refl in
      let i_in : n.i < nodes_across levels.depth level =
      subst (λ l. n.i < nodes_across levels.depth l) h.at h.node.i in
      record {
        at = h.at;
        same_k = same_k;
        same_j = same_j;
        set = (each n.i i_in).1 (subst (IsAboveSplit levels) is h.above);
      }

-- a plane's needed nodes, a row more
pub needed-row : (level k j bits : ℕ) (old a b : SplitBits) → IsRow a.depth level k j
    → bits < 2 ^ nodes_across a.depth level
    → ((i : ℕ) → i < nodes_across a.depth level → (row_bit bits i ≡ true)
    ↔ IsAboveSplit a (record { level = level; k = k; j = j; i = i }))
    → Gains (λ n. IsNeeded old level n × (n.k ≡ k) × (n.j < j)) old a
    → Gains (IsInBits level k j bits) a b
    → Gains (λ n. IsNeeded old level n × (n.k ≡ k) × (n.j < j + 1)) old b
needed-row level k j bits old a b row bits_in each so_far next =
    let kept = needed-kept level (λ n. IsNeeded old level n × (n.k ≡ k) × (n.j < j)) old a so_far
    (λ n h. h.0.at) in
    gains_both (λ n. IsNeeded old level n × (n.k ≡ k) × (n.j < j)) (IsInBits level k j bits)
    (λ n. IsNeeded old level n × (n.k ≡ k) × (n.j < j + 1)) old a b so_far next
    (λ n h.
    elim (cases_eq n.j j) [
      | inl last ↦ inr (needed-bits a level k j bits row bits_in each n ((kept n).1 h.0) h.1 last)
      | inr other ↦ inl (h.0, h.1, omega (arith, h.2, other))
    ])
    (λ n h.
    elim h [
      | inl r ↦ (r.0, r.1, omega (arith, r.2))
      | inr r ↦ (
        (kept n).0 (bits-needed a level k j bits row bits_in each n r),
        r.same_k,
        omega (arith, r.same_j),
      )
    ])

-- a level's needed nodes, a plane more
pub needed-plane : (level k : ℕ) (old a b : SplitBits)
    → Gains (λ n. IsNeeded old level n × (n.k < k)) old a
    → Gains (λ n. IsNeeded a level n × (n.k ≡ k)) a b
    → Gains (λ n. IsNeeded old level n × (n.k < k + 1)) old b
needed-plane level k old a b so_far next =
    let kept = needed-kept level (λ n. IsNeeded old level n × (n.k < k)) old a so_far
    (λ n h. h.0.at) in
    gains_both (λ n. IsNeeded old level n × (n.k < k)) (λ n. IsNeeded a level n × (n.k ≡ k))
    (λ n. IsNeeded old level n × (n.k < k + 1)) old a b so_far next
    (λ n h.
    elim (cases_eq n.k k) [
      | inl last ↦ inr ((kept n).1 h.0, last)
      | inr other ↦ inl (h.0, omega (arith, h.1, other))
    ])
    (λ n h.
    elim h [
      | inl r ↦ (r.0, omega (arith, r.1))
      | inr r ↦ ((kept n).0 r.0, omega (arith, r.1))
    ])

-- all rows of a plane
pub needed-all_rows : (level k j : ℕ) (old a : SplitBits) → nodes_across old.depth level ≤ j
    → Gains (λ n. IsNeeded old level n × (n.k ≡ k) × (n.j < j)) old a
    → Gains (λ n. IsNeeded old level n × (n.k ≡ k)) old a
needed-all_rows level k j old a all gains =
    gains_same (λ n. IsNeeded old level n × (n.k ≡ k) × (n.j < j))
    (λ n. IsNeeded old level n × (n.k ≡ k)) old a gains
    (λ n h.
    let within : n.j < nodes_across old.depth level =
    subst (λ l. n.j < nodes_across old.depth l) h.0.at h.0.node.j in
    (h.0, h.1, omega (arith, within, all)))
    (λ n h. (h.0, h.1))

-- all planes of a level
pub needed-all_planes : (level k : ℕ) (old a : SplitBits) → nodes_across old.depth level ≤ k
    → Gains (λ n. IsNeeded old level n × (n.k < k)) old a → Gains (IsNeeded old level) old a
needed-all_planes level k old a all gains =
    gains_same (λ n. IsNeeded old level n × (n.k < k)) (IsNeeded old level) old a gains
    (λ n h.
    let within : n.k < nodes_across old.depth level =
    subst (λ l. n.k < nodes_across old.depth l) h.at h.node.k in
    (h, omega (arith, within, all)))
    (λ n h. h.0)

-- ---- the wanted nodes, camera by camera

-- without a camera nothing is wanted
pub gains_none : (settings : Settings) (level : ℕ) (a : SplitBits)
    → Gains (IsWantedOf settings level []) a a
gains_none settings level a =
    gains_nothing (IsWantedOf settings level []) a (λ n h. false≢true h.near)

-- a camera more wants its own nodes beside those of the others
wanted_more : (settings : Settings) (cameras : List Point) (camera : Point) (n : Node)
    → is_wanted settings (cameras ++ camera ∷ []) n
    ≡ (is_wanted settings cameras n || is_wanted_from settings camera n)
wanted_more settings cameras camera n =
    let near : Point → Bool = λ p. is_wanted_from settings p n in
    any_of-append near cameras (camera ∷ [])
    ∙ ap (λ b. any_of near cameras || b) (any_of-one near camera)

-- so a map gains these
pub gains_more : (settings : Settings) (level : ℕ) (cameras : List Point) (camera : Point)
    (more : List Point) (a b c : SplitBits) → more ≡ cameras ++ camera ∷ []
    → Gains (IsWantedOf settings level cameras) a b
    → Gains (IsWantedAt settings level camera) b c
    → Gains (IsWantedOf settings level more) a c
gains_more settings level cameras camera more a b c is first second =
    gains_both (IsWantedOf settings level cameras) (IsWantedAt settings level camera)
    (IsWantedOf settings level more) a b c first second
    (λ n h.
    let near : (is_wanted settings cameras n || is_wanted_from settings camera n) ≡ true =
    sym (wanted_more settings cameras camera n)
    ∙ ap (λ ps. is_wanted settings ps n) (sym is) ∙ h.near in
    elim (or_cases (is_wanted settings cameras n) (is_wanted_from settings camera n) near) [
      | inl others ↦ inl (record { node = h.node; at = h.at; near = others })
      | inr its ↦ inr (record { node = h.node; at = h.at; near = its })
    ])
    (λ n h.
    let whole : (is_wanted settings cameras n || is_wanted_from settings camera n) ≡ true
    → is_wanted settings more n ≡ true =
    λ near. ap (λ ps. is_wanted settings ps n) is ∙ wanted_more settings cameras camera n ∙ near in
    elim h [
      | inl others ↦ record {
        node = others.node;
        at = others.at;
        near = whole (or_left (is_wanted settings cameras n) (is_wanted_from settings camera n)
            others.near);
      }
      | inr its ↦ record {
        node = its.node;
        at = its.at;
        near = whole (or_right (is_wanted settings cameras n) (is_wanted_from settings camera n)
            its.near);
      }
    ])

-- ---- the first level and the last

-- a map without split nodes is grown below level 1
pub grown_first : (settings : Settings) (points : List Point) (levels : SplitBits)
    → levels.depth ≡ settings.depth → ((n : Node) → split_at levels n ≡ false)
    → IsGrown settings points 1 levels
grown_first settings points levels depth none = record {
  depth = depth;
  each = λ n. (
    (λ h. absurd (false≢true (sym (none n) ∙ h))),
    (λ h. absurd (false≢true (sym (split-low settings points n (omega (arith, h.0))) ∙ h.1))),
  );
}

-- two tests that imply one another are equal
pub same_test : (a b : Bool) → (a ≡ true → b ≡ true) → (b ≡ true → a ≡ true) → a ≡ b
same_test true b there back = sym (there refl)
same_test false true there back = back refl
same_test false false there back = refl

-- a map that is grown past the highest level is the map of the viewpoints
pub grown_last : (settings : Settings) (points : List Point) (level : ℕ) (levels : SplitBits)
    → settings.depth < level → IsGrown settings points level levels
    → (n : Node) → split_at levels n ≡ split settings points n
grown_last settings points level levels past grown n =
    same_test (split_at levels n) (split settings points n)
    (λ h. ((grown.each n).0 h).1)
    (λ h. let n_in = split-in_world settings points n h in
    (grown.each n).1 (omega (arith, n_in.level), h))

-- a map has what that of viewpoints has
pub record HasChoice (settings : Settings) (points : List Point) (m : LevelMap) : Type 0 where
  pub balanced : IsBalanced settings.depth m
  pub wanted : SplitsWanted settings points m
  pub least : IsLeast settings points m

-- a map that is the viewpoints' has what is promised of that one
pub has_choice : (settings : Settings) (points : List Point) (m : LevelMap)
    → ((n : Node) → m n ≡ split settings points n) → HasChoice settings points m
has_choice settings points m same =
    let is : ◌≡◌ {A = LevelMap} m (split settings points) = fun_ext same in
    subst (HasChoice settings points) (sym is) (record {
      balanced = split_balanced settings points;
      wanted = split_wanted settings points;
      least = split_least settings points;
    })

-- ---- some viewpoints and others

-- the map of viewpoints splits what is wanted for others that want the same
pub same_wants_split_same : SameWantsSplitSame
same_wants_split_same settings a b same n =
    same_test (split settings a n) (split settings b n)
    (split_least settings a (split settings b) (split_balanced settings b)
    (λ q q_in wanted. split_wanted settings b q q_in (sym (same q q_in) ∙ wanted)) n)
    (split_least settings b (split settings a) (split_balanced settings a)
    (λ q q_in wanted. split_wanted settings a q q_in (same q q_in ∙ wanted)) n)

-- a map that splits what that of viewpoints does is theirs
pub map_from : (settings : Settings) (points : List Point) (levels : SplitBits)
    → levels.depth ≡ settings.depth
    → ((n : Node) → split_at levels n ≡ split settings points n) → IsMapOf settings points levels
map_from settings points levels depth each = record {
  depth = depth;
  each = each;
  balanced = (has_choice settings points (split_at levels) each).balanced;
}
