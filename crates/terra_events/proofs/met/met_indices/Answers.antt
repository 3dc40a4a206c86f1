-- The quotients are those of the lemmas.
use Rattle.std.proofs.Common.{◌≡◌, ℕ, ◌+◌, ◌-◌, ◌/◌, ◌<◌, ◌≤◌, ◌↔◌, min, ◌∙◌, sym, subst, arith}
use Rattle.std.proofs.lemmas.Nat.{pow_pos}
use Rattle.lattice.proofs.SizeLemmas.{across_side}
use Rattle.lattice.specs.Node.{node_side, nodes_across}
use Rattle.terra_events.specs.Met.{IsMet}
use Rattle.terra_events.proofs.MetLemmas.{met_order, met_range}
use Rattle.terra_events.proofs.met.met_indices.Goals as goal

found : (c : goal.After-min) → (let side = node_side c.args.level in
    (c.saturating_sub.result / c.node_side-side.result ≡ (c.args.low - 1) / side)
    × (c.min.result ≡ min (c.args.high / side + 1) (nodes_across c.args.depth c.args.level)))
found c = (
  (λ i. c.saturating_sub.ensures i / c.node_side-side.ensures.value i),
  c.min.ensures
      ∙ (λ i. min (c.args.high / c.node_side-side.ensures.value i + 1) (c.nodes_across.ensures i)),
)

some_side : (level : ℕ) → 0 < node_side level
some_side level = omega (arith, pow_pos level)

pub returns : goal.returns
returns c =
    let depth = c.args.depth in
    let level = c.args.level in
    let low = c.args.low in
    let high = c.args.high in
    let side = node_side level in
    let across = nodes_across depth level in
    let row = across_side depth level c.requires.level in
    let order = met_order low high side across (some_side level) c.requires.order
    (omega (arith, row, c.requires.world)) in
    record {
      order = omega (arith, order, (found c).0, (found c).1);
      within = omega (arith, (found c).1);
      met = λ index within.
          let range = met_range low high side across index (some_side level) within in
          let P : ℕ → ℕ → Type 0 = λ a b.
          ((a ≤ index) × (index < b)) ↔ IsMet level low high index in
          subst (λ a. P a c.min.result) (sym (found c).0)
          (subst (P ((low - 1) / side)) (sym (found c).1) range);
    }
