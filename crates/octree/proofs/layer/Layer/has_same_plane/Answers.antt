-- The words of both planes are equal, and so are their bits.
use Rattle.std.proofs.Common.{◌≡◌, ℕ, ◌+◌, ◌-◌, ◌*◌, List, take, drop, sym, subst, ◌∙◌, arith}
use Rattle.octree.specs.Layers.{IsLayer, LayerOf}
use Rattle.octree.specs.SplitBits.{split_at}
use Rattle.octree.proofs.LayerLemmas.{same-plane, same-split-plane}
use Rattle.octree.proofs.RowLemmas.{same_rows}
use Rattle.octree.proofs.layer.Layer.has_same_plane.Goals as goal

pub returns : goal.returns
returns c on j i =
    let across = c.self.inside.across in
    let k = c.args.k in
    let mine = c.self.inside.rows.now in
    let others = c.other.inside.rows.now in
    let first = k * across in
    let cut : ℕ → List ℕ → List ℕ = λ count rows. take count (drop first rows) in
    let whole : first + across - first ≡ across = omega arith in
    let equal = same_rows (cut (first + across - first) mine) (cut (first + across - first) others)
    (sym c.eq.ensures ∙ on) in
    let plane : cut across mine ≡ cut across others =
    subst (λ count. cut count mine ≡ cut count others) whole equal in
    let a : LayerOf = record { levels = c.self.inside.levels.now; level = c.self.inside.level } in
    let b : LayerOf = record { levels = c.other.inside.levels.now; level = c.other.inside.level } in
    let second = subst (λ n. IsLayer b.levels b.level n others) (sym c.if-self-other.false)
    c.other.invariant in
    let same = same-split-plane a b across k mine others c.self.invariant second
    (same-plane across mine others k c.if-k-self.false plane) j i in
    subst (λ (l : LayerOf). split_at l.levels (record { level = l.level; k = k; j = j; i = i })
    ≡ split_at c.args.other.now.levels
    (record { level = c.args.other.now.level; k = k; j = j; i = i })) c.self.view_is
    (subst (λ (l : LayerOf). split_at a.levels (record { level = a.level; k = k; j = j; i = i })
    ≡ split_at l.levels (record { level = l.level; k = k; j = j; i = i })) c.other.view_is same)
