-- The quotients are those of the lemma.
use Rattle.std.proofs.Common.{◌≡◌, ℕ, ◌+◌, ◌-◌, ◌*◌, ◌/◌, ◌<◌, ◌≤◌, ◌↔◌, min, ap, ◌∙◌, sym, subst, arith}
use Rattle.std.specs.Int.{div_ceil}
use Rattle.std.proofs.Math.Nat.{le-mul_of_pos_right}
use Rattle.std.proofs.lemmas.Nat.{pow_pos}
use Rattle.lattice.specs.Node.{node_side, nodes_across}
use Rattle.octree.specs.WantedNodes.{IsNear}
use Rattle.octree.proofs.WantedLemmas.{near_range}
use Rattle.octree.proofs.wanted.near_indices.Goals as goal

pub returns-then-settings-eq0-clause-near : goal.returns-then-settings-eq0-clause-near
returns-then-settings-eq0-clause-near c index within =
    let side = node_side c.args.level in
    let none : c.args.settings.now.reach * side ≡ 0 =
    ap (λ r. r * side) c.if-settings-eq0.true ∙ omega arith in
    ((λ among. absurd (omega arith)), (λ near. absurd (omega (arith, none, near))))

pub returns-clause-within : goal.returns-clause-within
returns-clause-within c = omega (arith, c.min.ensures, c.nodes_across.ensures)

pub returns-clause-near : goal.returns-clause-near
returns-clause-near c index within =
    let settings = c.args.settings.now in
    let s = node_side c.args.level in
    let at = c.args.camera in
    let reach = settings.reach * s in
    let across = nodes_across settings.depth c.args.level in
    let side : c.node_side-side.result ≡ s = c.node_side-side.ensures.value in
    let low : c.saturating_sub.result / (2 * c.node_side-side.result) ≡ (2 * at - reach) / (2 * s) =
    (λ t. c.saturating_sub.ensures t / (2 * c.node_side-side.result))
    ∙ (λ t. (2 * at - c.from.ensures t * side t) / (2 * side t)) in
    let end : c.min.result ≡ min (div_ceil (2 * at + reach) (2 * s)) across =
    c.min.ensures
    ∙ (λ t. min (c.div_ceil-end.ensures t) (c.nodes_across.ensures t))
    ∙ (λ t. min (div_ceil (2 * at + c.from.ensures t * side t) (2 * side t)) across) in
    let some_side : 0 < s = omega (arith, pow_pos c.args.level) in
    let some : 0 < settings.reach = omega arith in
    let some_reach : 0 < reach =
    omega (arith, le-mul_of_pos_right {m = settings.reach} s some, some_side) in
    let Near = IsNear settings c.args.level at index in
    let P : ℕ → ℕ → Type 0 = λ a b. ((a ≤ index) × (index < b)) ↔ Near in
    let range = near_range at s reach across index some_side some_reach within in
    subst (λ a. P a c.min.result) (sym low) (subst (P ((2 * at - reach) / (2 * s))) (sym end) range)
