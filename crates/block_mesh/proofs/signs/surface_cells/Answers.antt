-- Where a bit isn't set, no corner is solid, or all are.
use Rattle.std.proofs.Common.{inl, inr, sym, ◌∙◌, bit_and, bit_or, get_or}
use Rattle.block_mesh.proofs.SurfaceCellLemmas.{end-set, number-all, number-is, number-none, same-below}
use Rattle.block_mesh.proofs.signs.surface_cells.Goals as goal

pub returns-clause-end : goal.returns-clause-end
returns-clause-end c = end-set _

pub returns-clause-plain : goal.returns-clause-plain
returns-clause-plain c = λ x x_in none s n z y bound.
    let rows = c.args.rows in
    let any = bit_or (bit_or (bit_or (get_or rows 0 0) (get_or rows 1 0)) (get_or rows 2 0))
    (get_or rows 3 0) in
    let all = bit_and (bit_and (bit_and (get_or rows 0 0) (get_or rows 1 0)) (get_or rows 2 0))
    (get_or rows 3 0) in
    elim (same-below x any all x_in none) [
      | inl empty ↦
          inl (sym (number-is s n z y x rows x_in bound) ∙ number-none x rows empty)
      | inr full ↦ inr (sym (number-is s n z y x rows x_in bound) ∙ number-all x rows full)
    ]
