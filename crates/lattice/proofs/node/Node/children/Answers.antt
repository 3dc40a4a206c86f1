-- The list is that of the children.
use Rattle.std.proofs.Common.{◌≡◌, [], ◌∷◌, Contains, ◌↔◌, ◌+◌, subst, sym, rules, arith}
use Rattle.std.proofs.lemmas.Grind.{common_steps}
use Rattle.lattice.specs.Node.{Holds, children}
use Rattle.lattice.proofs.FamilyLemmas.{children_held}
use Rattle.lattice.proofs.node.Node.children.Goals as goal

pub returns-clause-place : goal.returns-clause-place
returns-clause-place c = λ child.
    let n = c.args.self.now in
    let list : c.child.result ∷ c.child-2.result ∷ c.child-3.result ∷ c.child-4.result
    ∷ c.child-5.result ∷ c.child-6.result ∷ c.child-7.result ∷ c.child-8.result ∷ []
    ≡ children n = first_of (search rules, grind (arith, common_steps)) in
    subst (λ ns. Contains ns child ↔ ((child.level + 1 ≡ n.level)
    × Holds n child)) (sym list) (children_held n child c.requires.level)
