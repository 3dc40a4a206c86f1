-- The members of the set of the wanted are wanted, and so are leaves.
use Rattle.std.proofs.Common.{◌≡◌, true, All, ◌∙◌, ap, sym, subst}
use Rattle.std.specs.Prelude.{IfOk, IsTrue, filter}
use Rattle.std.specs.Vec.{vec_items}
use Rattle.std.proofs.lemmas.Iterator.{items_from_collect}
use Rattle.std.proofs.lemmas.Iterator.Consumers.{YieldsList-from_first}
use Rattle.std.proofs.lemmas.List.Elements.{All-same, All-weaker, filter_passes}
use Rattle.std.proofs.lemmas.Result.{IfOk-weaker}
use Rattle.lattice.specs.declared.node.Node.{Node}
use Rattle.lattice.specs.Node.{nodes}
use Rattle.node_tables.specs.Members.{members, members_left}
use Rattle.node_tables.specs.NodeBits.{has}
use Rattle.mesh_board.specs.Board.{is_leaf_of, state_of}
use Rattle.mesh_board.specs.LeafStates.{is_leaf_state, wanted}
use Rattle.mesh_board.specs.Parts.{board_of}
use Rattle.mesh_board.proofs.TableLemmas.{is_wanted-from}
use Rattle.mesh_board.proofs.board.Board.wanted_leaves.Goals as goal

is_wanted : (c : goal.After-collect) (n : Node) → has c.wanted.result.now n ≡ true
    → state_of (board_of c.self.inside) n ≡ wanted
is_wanted c n is =
    is_wanted-from (state_of (board_of c.self.inside) n) (sym (c.wanted.ensures n) ∙ is)

is_leaf : (c : goal.After-collect) (n : Node) → has c.wanted.result.now n ≡ true
    → IsTrue (is_leaf_of (board_of c.self.inside) n)
is_leaf c n is =
    sym (c.self.invariant.board.leaf n) ∙ ap is_leaf_state (is_wanted c n is)

-- what holds of each member holds of what is collected
collected : (c : goal.After-collect) (P : Node → Type 0)
    → ((n : Node) → has c.wanted.result.now n ≡ true → P n)
    → IfOk c.collect.result (λ ns. All P ns.items)
collected c P step =
    let set = c.wanted.result.now in
    let listed : All P (members set) =
    All-weaker (λ n. has set n ≡ true) P step (filter (has set) (nodes set.depth))
    (filter_passes (has set) (nodes set.depth)) in
    IfOk-weaker c.collect.result (λ w. vec_items w ≡ members set) (λ ns. All P ns.items)
    (λ ns is. All-same P ns.items (members set) is listed)
    (items_from_collect c.collect.result c.collect.ensures.ran
    (YieldsList-from_first (λ x. x) members_left (members set) c.iter.ensures))

pub returns-clause-wanted : goal.returns-clause-wanted
returns-clause-wanted c =
    subst (λ b. IfOk c.collect.result (λ ns. All (λ n. state_of b n ≡ wanted) ns.items))
    c.self.view_is (collected c (λ n. state_of (board_of c.self.inside) n ≡ wanted) (is_wanted c))

pub returns-clause-leaves : goal.returns-clause-leaves
returns-clause-leaves c =
    subst (λ b. IfOk c.collect.result (λ ns. All (λ n. IsTrue (is_leaf_of b n)) ns.items))
    c.self.view_is
    (collected c (λ n. IsTrue (is_leaf_of (board_of c.self.inside) n)) (is_leaf c))
