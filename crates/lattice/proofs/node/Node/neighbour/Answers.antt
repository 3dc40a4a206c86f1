-- Each index fits its row, so the place is in the world.
use Rattle.std.proofs.Common.{◌≡◌, sym, ◌∙◌, rules, get_or, pos, FitsSigned, w8, refl, ℕ, ◌<◌, subst, None, Some}
use Rattle.std.specs.Prelude.{MatchOption}
use Rattle.std.proofs.lemmas.Int.{to_z-of_z}
use Rattle.std.proofs.lemmas.Option.{none-some}
use Rattle.lattice.specs.declared.node.Node.{Node}
use Rattle.lattice.specs.Offset.{IsAtOffset}
use Rattle.lattice.specs.Node.{IsNode, nodes_across}
use Rattle.lattice.proofs.FamilyLemmas.{fitted_tells, fitted_at}
use Rattle.lattice.proofs.NodeLemmas.{neighbour_some, fitted_from}
use Rattle.lattice.proofs.node.Node.neighbour.Goals as goal

pub returns : goal.returns
returns c =
    let n = c.args.self.now in
    let d = c.args.d in
    let across = nodes_across c.args.depth n.level in
    let z_fits : FitsSigned w8 (get_or d 2 (pos 0)) = search rules in
    let y_fits : FitsSigned w8 (get_or d 1 (pos 0)) = search rules in
    let x_fits : FitsSigned w8 (get_or d 0 (pos 0)) = search rules in
    let z_step = c.requires.steps 2 (pos 0) (search rules) in
    let y_step = c.requires.steps 1 (pos 0) (search rules) in
    let x_step = c.requires.steps 0 (pos 0) (search rules) in
    let k = fitted_from n.k across _ _ _ _ _ (to_z-of_z w8 _ z_fits)
    c.nodes_across-across.ensures c.stepped.ensures c.in_ok-stepped.was in
    let j = fitted_from n.j across _ _ _ _ _ (to_z-of_z w8 _ y_fits)
    c.nodes_across-across.ensures c.stepped-2.ensures c.in_ok-stepped-2.was in
    let i = fitted_from n.i across _ _ _ _ _ (to_z-of_z w8 _ x_fits)
    c.nodes_across-across.ensures c.stepped-3.ensures c.in_ok-stepped-3.was in
    let k_at = fitted_tells n.k _ across _ z_step k in
    let j_at = fitted_tells n.j _ across _ y_step j in
    let i_at = fitted_tells n.i _ across _ x_step i in
    record {
      value = neighbour_some n.level _ _ _ _ _ _ _ _ _ k j i;
      place = (
        record { level = c.requires.node.level; k = k_at.1; j = j_at.1; i = i_at.1 },
        record { level = refl; i = i_at.0; j = j_at.0; k = k_at.0 },
      );
    }

pub returns-in_err-stepped-3-clause-place : goal.returns-in_err-stepped-3-clause-place
returns-in_err-stepped-3-clause-place c =
    let n = c.args.self.now in
    let d = c.args.d in
    let across = nodes_across c.args.depth n.level in
    let x_fits : FitsSigned w8 (get_or d 0 (pos 0)) = search rules in
    let x_step = c.requires.steps 0 (pos 0) (search rules) in
    let i = fitted_from n.i across _ _ _ _ _ (to_z-of_z w8 _ x_fits)
    c.nodes_across-across.ensures c.stepped-3.ensures c.in_err-stepped-3.was in
    let Far : Type 0 = (other : Node) → IsNode c.args.depth other → IsAtOffset d n other → ⊥ in
    subst (λ r. MatchOption r Far (λ other. IsNode c.args.depth other
    × IsAtOffset d n other)) (sym c.from_residual-in_err-stepped-3.ensures)
    (λ other other_in at.
    let P : ℕ → Type 0 = λ level. other.i < nodes_across c.args.depth level in
    let there =
    fitted_at n.i other.i across (get_or d 0 (pos 0)) x_step at.i (subst P at.level other_in.i)
    in
    let none : None ≡ Some other.i = sym i ∙ there in
    none-some other.i none)
