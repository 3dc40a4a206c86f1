-- The word of a row has the bits of its nodes alone, so setting bits of it splits the nodes of these and no others.
use Rattle.std.proofs.Common.{◌≡◌, ◌<◌, ◌^◌, ap, sym, ◌∙◌, subst, arith, get_or, length, List, ℕ}
use Rattle.std.specs.Prelude.{bit_or}
use Rattle.std.proofs.Math.ListN.{set}
use Rattle.std.proofs.lemmas.List.{get_or_read}
use Rattle.lattice.specs.Node.{nodes_across}
use Rattle.octree.specs.Growing.{Gains, IsInBits}
use Rattle.octree.specs.SplitBits.{IsRow, IsWhole, SplitBits, row_of}
use Rattle.octree.proofs.RowLemmas.{row-below}
use Rattle.octree.proofs.SplitAtLemmas.{gains-bits, whole-more}
use Rattle.octree.proofs.levels.Levels.split_row.Goals as goal

pub index_mut-requires : goal.index_mut-requires
index_mut-requires c =
    let depth : c.self.inside.depth ≡ c.args.self.now.depth =
    ap (λ (l : SplitBits). l.depth) c.self.view_is in
    let row = subst (λ d. IsRow d c.args.level c.args.k c.args.j) (sym depth) c.requires.row in
    omega (
      arith,
      row-below c.self.inside.depth c.args.level c.args.k c.args.j row,
      c.row_index-at.ensures,
      c.self.invariant.long,
    )

pub invariant_of-self : goal.invariant_of-self
invariant_of-self c =
    let levels : SplitBits =
    record { depth = c.self.inside.depth; rows = c.self.inside.rows.items } in
    let depth : levels.depth ≡ c.args.self.now.depth =
    ap (λ (l : SplitBits). l.depth) c.self.view_is in
    let row = subst (λ d. IsRow d c.args.level c.args.k c.args.j) (sym depth) c.requires.row in
    let bits_in = subst (λ d. c.args.bits < 2 ^ nodes_across d c.args.level) (sym depth)
    c.requires.bits in
    let within : row_of levels.depth c.args.level c.args.k c.args.j < length levels.rows =
    omega (
      arith,
      row-below levels.depth c.args.level c.args.k c.args.j row,
      c.self.invariant.long,
    ) in
    let word = get_or_read levels.rows c.row_index-at.result c.index_mut.result.now
    (omega (arith, within, c.row_index-at.ensures)) c.index_mut.ensures.value 0
    ∙ ap (λ r. get_or levels.rows r 0) c.row_index-at.ensures in
    subst (λ (rows : List ℕ). IsWhole (record { depth = levels.depth; rows = rows }))
    (sym (λ t. set levels.rows (c.row_index-at.ensures t) (bit_or (word t) c.args.bits)))
    (whole-more levels c.self.invariant c.args.level c.args.k c.args.j c.args.bits row bits_in)

pub returns : goal.returns
returns c =
    let levels : SplitBits =
    record { depth = c.self.inside.depth; rows = c.self.inside.rows.items } in
    let depth : levels.depth ≡ c.args.self.now.depth =
    ap (λ (l : SplitBits). l.depth) c.self.view_is in
    let row = subst (λ d. IsRow d c.args.level c.args.k c.args.j) (sym depth) c.requires.row in
    let bits_in = subst (λ d. c.args.bits < 2 ^ nodes_across d c.args.level) (sym depth)
    c.requires.bits in
    let within : row_of levels.depth c.args.level c.args.k c.args.j < length levels.rows =
    omega (
      arith,
      row-below levels.depth c.args.level c.args.k c.args.j row,
      c.self.invariant.long,
    ) in
    let word = get_or_read levels.rows c.row_index-at.result c.index_mut.result.now
    (omega (arith, within, c.row_index-at.ensures)) c.index_mut.ensures.value 0
    ∙ ap (λ r. get_or levels.rows r 0) c.row_index-at.ensures in
    let P = IsInBits c.args.level c.args.k c.args.j c.args.bits in
    let place = c.row_index-at.result in
    let now = bit_or c.index_mut.result.now c.args.bits in
    subst (λ (old : SplitBits). Gains P old
    (record { depth = levels.depth; rows = set levels.rows place now })) c.self.view_is
    (subst (λ (rows : List ℕ). Gains P levels (record { depth = levels.depth; rows = rows }))
    (sym (λ t. set levels.rows (c.row_index-at.ensures t) (bit_or (word t) c.args.bits)))
    (gains-bits levels c.self.invariant c.args.level c.args.k c.args.j c.args.bits row bits_in))
