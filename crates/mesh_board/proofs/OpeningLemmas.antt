-- What the parts of a new board keep (`AreParts-opening`), and that all its leaves are fresh (`opening-settled`). The
-- world of the empty journal has one leaf, the root (`root-test`, `others-test`). So what is to be shown of a node is
-- shown by whether it is the root, which is fresh with its brick, or another one, which is no leaf.
use Rattle.std.proofs.Common.{◌≡◌, ◌≢◌, true, false, [], refl, sym, ap, ◌∙◌, subst, inl, inr, arith}
use Rattle.std.proofs.lemmas.Bool.{cases_Bool, false≢true}
use Rattle.std.proofs.lemmas.List.Elements.{All-nil}
use Rattle.lattice.proofs.FamilyLemmas.{cases_Node}
use Rattle.lattice.specs.declared.node.Node.{Node}
use Rattle.lattice.specs.declared.settings.Settings.{Settings}
use Rattle.lattice.specs.Node.{root}
use Rattle.terrain.specs.History.{IsLawfulEvent}
use Rattle.terrain.specs.Levels.{IsOctree, is_leaf, levels}
use Rattle.event_laws.specs.Laws.{NoneIsSplit, RootIsTheLeaf}
use Rattle.level_laws.proofs.LeafLemmas.{leaf_test}
use Rattle.event_laws.specs.Changes.{brick_after, is_touched}
use Rattle.node_tables.specs.NodeBits.{NodeBits, has}
use Rattle.block_mesh.specs.Done.{DoneState, IsDone}
use Rattle.terra_events.specs.World.{WorldState}
use Rattle.mesh_board.specs.LeafStates.{IsSettled, LeafStates, fresh, is_leaf_state, no_leaf, state_at}
use Rattle.mesh_board.specs.Parts.{AreParts}
use Rattle.mesh_board.specs.declared.board.Board.TheInside.{Inside}
use Rattle.mesh_board.proofs.StateLemmas.{same_fresh}

-- ---- the leaves before any event

-- the root is a leaf
root-test : (settings : Settings) → RootIsTheLeaf
    → is_leaf settings.depth (levels settings []) (root settings.depth) ≡ true
root-test settings alone =
    (leaf_test settings.depth (levels settings []) (root settings.depth)).1
    ((alone settings (root settings.depth)).1 refl)

-- and no other node is
others-test : (settings : Settings) (n : Node) → RootIsTheLeaf
    → n ≢ root settings.depth → is_leaf settings.depth (levels settings []) n ≡ false
others-test settings n alone other =
    elim (cases_Bool (is_leaf settings.depth (levels settings []) n)) [
      | inl leaf ↦
          absurd (other ((alone settings n).0
          ((leaf_test settings.depth (levels settings []) n).0 leaf)))
      | inr off ↦ off
    ]

-- no node is split, so the map is an octree
opening-octree : (settings : Settings) → NoneIsSplit → IsOctree settings.depth (levels settings [])
opening-octree settings none = record {
  in_world = λ n split. absurd (false≢true (sym (none settings n) ∙ split));
  level = λ n split. absurd (false≢true (sym (none settings n) ∙ split));
  held = λ n split. absurd (false≢true (sym (none settings n) ∙ split));
}

-- ---- the opening board

-- what is no leaf isn't fresh
not_fresh : (done : DoneState) → no_leaf ≡ fresh done → ⊥
not_fresh done h = cc

module _ (world : WorldState) (leaves : LeafStates) (marked_leaves touched : NodeBits)
    (done : DoneState) (none : NoneIsSplit) (alone : RootIsTheLeaf)
    (fresh_is : state_at leaves (root world.settings.depth) ≡ fresh done)
    (others : (n : Node) → n ≢ root world.settings.depth → state_at leaves n ≡ no_leaf)
  where
    abbrev opening : WorldState → Inside
    opening w = record {
      world = w;
      leaves = leaves;
      marked = 0;
      marked_leaves = marked_leaves;
      touched = touched;
    }

    -- the parts, of a world whose journal is written as the empty list
    opening-parts : ((n : Node) → is_touched world.settings [] [] n ≡ false)
        → done.brick ≡ brick_after world.settings [] (root world.settings.depth) → IsDone done
        → leaves.depth ≡ world.settings.depth → marked_leaves.depth ≡ world.settings.depth
        → has marked_leaves (root world.settings.depth) ≡ true
        → ((n : Node) → n ≢ root world.settings.depth → has marked_leaves n ≡ false)
        → touched.depth ≡ world.settings.depth → ((n : Node) → has touched n ≡ false)
        → AreParts (opening (record world { events = [] }))
    opening-parts adds is_present is_done depth marked_depth here there touched_depth untouched =
        let top = root world.settings.depth in
        record {
          board = record {
            leaf = λ n.
                elim (cases_Node n top) [
                  | inl same ↦
                      let P : Node → Type 0 = λ m. is_leaf_state (state_at leaves m)
                      ≡ is_leaf world.settings.depth (levels world.settings []) m in
                      subst P (sym same) (ap is_leaf_state fresh_is
                      ∙ sym (root-test world.settings alone))
                  | inr other ↦
                      ap is_leaf_state (others n other)
                      ∙ sym (others-test world.settings n alone other)
                ];
            brick = λ n block is.
                elim (cases_Node n top) [
                  | inl same ↦
                      let one = same_fresh done block (sym fresh_is
                      ∙ ap (state_at leaves) (sym same) ∙ is) in
                      ap (λ (d : DoneState). d.brick) (sym one) ∙ is_present
                      ∙ ap (brick_after world.settings []) (sym same)
                  | inr other ↦ absurd (not_fresh block (sym (others n other) ∙ is))
                ];
            mesh = λ n block is.
                elim (cases_Node n top) [
                  | inl same ↦
                      subst IsDone (same_fresh done block (sym fresh_is
                      ∙ ap (state_at leaves) (sym same) ∙ is)) is_done
                  | inr other ↦ absurd (not_fresh block (sym (others n other) ∙ is))
                ];
            marked = omega arith;
          };
          leaves_depth = depth;
          marked_depth = marked_depth;
          touched_depth = touched_depth;
          octree = opening-octree world.settings none;
          lawful = All-nil (IsLawfulEvent world.settings.depth);
          marked_leaves = λ n.
              elim (cases_Node n top) [
                | inl same ↦
                    let P : Node → Type 0 = λ m. has marked_leaves m
                    ≡ is_leaf world.settings.depth (levels world.settings []) m in
                    subst P (sym same) (here ∙ sym (root-test world.settings alone))
                | inr other ↦
                    there n other ∙ sym (others-test world.settings n alone other)
              ];
          touched = λ n. untouched n ∙ sym (adds n);
        }

    -- the parts of the board of the empty journal
    pub AreParts-opening : world.events ≡ []
        → ((n : Node) → is_touched world.settings [] [] n ≡ false)
        → done.brick ≡ brick_after world.settings [] (root world.settings.depth) → IsDone done
        → leaves.depth ≡ world.settings.depth → marked_leaves.depth ≡ world.settings.depth
        → has marked_leaves (root world.settings.depth) ≡ true
        → ((n : Node) → n ≢ root world.settings.depth → has marked_leaves n ≡ false)
        → touched.depth ≡ world.settings.depth → ((n : Node) → has touched n ≡ false)
        → AreParts (opening world)
    AreParts-opening empty adds is_present is_done depth marked_depth here there touched_depth
        untouched =
        let whole : ◌≡◌ {A = WorldState} (record world { events = [] }) world =
        λ t. record world { events = sym empty t } in
        subst (λ w. AreParts (opening w)) whole (opening-parts adds is_present is_done depth
        marked_depth here there touched_depth untouched)

    -- all its leaves are fresh
    pub opening-settled : (n : Node) → IsSettled (state_at leaves n)
    opening-settled n =
        elim (cases_Node n (root world.settings.depth)) [
          | inl same ↦
              subst IsSettled (sym fresh_is ∙ ap (state_at leaves) (sym same)) tt
          | inr other ↦ subst IsSettled (sym (others n other)) tt
        ]
