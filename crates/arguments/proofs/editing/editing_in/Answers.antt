-- The five arguments one by one.
use Rattle.std.proofs.Common.{◌≡◌, ℕ, ◌≤◌, List, [], ◌∷◌, IfSome, codes, get_or, sym, ap, ◌∙◌, subst, arith}
use Rattle.std.specs.Borrow.{Bor}
use Rattle.std.specs.Fmt.{decimal}
use lib.Pointwise.{bytes_decides}
use Rattle.arguments.proofs.NumberLemmas.{five, same_from, within}
use Rattle.arguments.proofs.editing.editing_in.Goals as goal

abbrev no_argument : Bor (List ℕ)
no_argument = record { ref_ptr = (0, 0); now = [] }

pub editing_of-requires-clause-depth : goal.editing_of-requires-clause-depth
editing_of-requires-clause-depth c =
    subst (λ most. IfSome c.number-3.result (λ n. n ≤ most)) c.from-2.ensures
    (within (λ n. (get_or c.args.arguments.now 4 no_argument).now ≡ decimal n) c.from-2.result
    c.number-3.result c.number-3.ensures)

pub returns : goal.returns
returns c =
    let arguments = c.args.arguments.now in
    let all = five arguments no_argument c.in-len5.len_at_least c.in-len5.len_below in
    λ editing. (
      λ is.
          (let same = sym all ∙ is.form in
          (c.editing_of.ensures editing).0 (record {
            first_is = (c.number.ensures editing.first).0
                (ap (λ l. get_or l 1 []) same, omega (arith, is.lawful.first));
            editors_is = (c.number_in.ensures.number editing.editors).0 (
              ap (λ l. get_or l 2 []) same,
              omega (arith, is.lawful.some_editors),
              omega (arith, is.lawful.few_editors, c.from.ensures),
            );
            edits_is = (c.number-2.ensures editing.edits).0
                (ap (λ l. get_or l 3 []) same, is.lawful.edits);
            depth_is = (c.number-3.ensures editing.depth).0
                (ap (λ l. get_or l 4 []) same, omega (arith, is.lawful.depth, c.from-2.ensures));
          })),
      λ e.
          (let args = (c.editing_of.ensures editing).1 e in
          let asked = (c.number.ensures editing.first).1 args.first_is in
          let editors = (c.number_in.ensures.number editing.editors).1 args.editors_is in
          let edits = (c.number-2.ensures editing.edits).1 args.edits_is in
          let depth = (c.number-3.ensures editing.depth).1 args.depth_is in
          let name : (get_or arguments 0 no_argument).now ≡ codes "edit" =
          (bytes_decides (get_or arguments 0 no_argument).now (codes "edit")).0
          (same_from _ (sym c.if-ne.ensures)) in
          record {
            form = all ∙ (λ t. name t ∷ asked.0 t ∷ editors.0 t ∷ edits.0 t ∷ depth.0 t ∷ []);
            lawful = record {
              first = omega (arith, asked.1);
              some_editors = omega (arith, editors.1);
              few_editors = omega (arith, editors.2, c.from.ensures);
              edits = edits.1;
              depth = omega (arith, depth.1, c.from-2.ensures);
            };
          }),
    )
