-- Each time the node of the lowest bit is appended, and the bit is cleared.
use Rattle.std.proofs.Common.{◌≡◌, ℕ, ◌<◌, List, [], ◌∷◌, ◌++◌, filter, inl, inr, sym, ap, ◌∙◌, append_assoc, arith}
use Rattle.std.proofs.lemmas.Bool.{cases_eq, cases_lt, false≢true}
use Rattle.std.proofs.lemmas.List.{append-nil}
use Rattle.lattice.specs.declared.node.Node.{Node}
use Rattle.octree.specs.LeafLists.{first_of_row}
use Rattle.octree.specs.SplitBits.{row_bit}
use Rattle.octree.proofs.LeafLemmas.{filtered-first, filtered-row}
use Rattle.octree.proofs.RowBitLemmas.{cleared-here, cleared-less, cleared-other, lowest, lowest-first, lowest-set, none_set, without}
use Rattle.octree.proofs.rows.push_nodes.Goals as goal

pub loop-rest-smaller : goal.loop-rest-smaller
loop-rest-smaller c =
    cleared-less c.loop-rest.rest (omega (arith, c.loop-rest-test.true))
    c.loop-rest.auto.rest-fits.fits

pub loop-rest-preserved : goal.loop-rest-preserved
loop-rest-preserved c =
    let rest = c.loop-rest.rest in
    let some : 0 < rest = omega (arith, c.loop-rest-test.true) in
    let fits = c.loop-rest.auto.rest-fits.fits in
    let at = lowest rest some fits in
    let left = without rest some fits in
    let node : ℕ → Node = λ i. record {
      level = c.args.level;
      k = c.args.k;
      j = c.args.j;
      i = i;
    } in
    let so_far = c.loop-rest.list.items in
    let of : ℕ → ℕ → List Node = λ word across.
    filter (λ (n : Node). row_bit word n.i) (first_of_row c.args.level c.args.k c.args.j across) in
    record {
      among = λ i on.
          elim (cases_eq i at) [
            | inl here ↦
                absurd (false≢true (sym (cleared-here rest some fits)
                ∙ ap (row_bit left) (sym here) ∙ on))
            | inr apart ↦
                c.loop-rest.invariant.among i (sym (cleared-other rest some fits i apart) ∙ on)
          ];
      all = λ across none.
          let within : at < across =
          elim (cases_lt at across) [
            | inl low ↦ low
            | inr past ↦
                absurd (false≢true (sym (none at past)
                ∙ c.loop-rest.invariant.among at (lowest-set rest some fits)))
          ] in
          let first : of rest across ≡ node at ∷ of left across =
          filtered-first (λ (n : Node). row_bit rest n.i) (λ (n : Node). row_bit left n.i) node at
          across within (lowest-first rest some fits) (lowest-set rest some fits)
          (cleared-here rest some fits) (cleared-other rest some fits) in
          ap (λ l. l ++ of left across) c.in_ok-push.ensures.items
          ∙ append_assoc so_far (node at ∷ []) (of left across)
          ∙ ap (λ l. so_far ++ l) (sym first) ∙ c.loop-rest.invariant.all across none;
    }

pub returns : goal.returns
returns c across none =
    let so_far = c.loop-rest.list.items in
    let nothing = filtered-row (λ (n : Node). row_bit c.loop-rest.rest n.i)
    (λ i. record { level = c.args.level; k = c.args.k; j = c.args.j; i = i }) across
    (λ i i_in. ap (λ w. row_bit w i) c.loop-rest-test.false ∙ none_set i) in
    sym (append-nil so_far) ∙ ap (λ l. so_far ++ l) (sym nothing)
    ∙ c.loop-rest.invariant.all across none
