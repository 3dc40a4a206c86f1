-- The four arguments one by one.
use Rattle.std.proofs.Common.{◌≡◌, ℕ, ◌≤◌, List, [], ◌∷◌, IfSome, codes, get_or, sym, ap, ◌∙◌, subst, arith}
use Rattle.std.specs.Borrow.{Bor}
use Rattle.std.specs.Fmt.{decimal}
use lib.Pointwise.{bytes_decides}
use Rattle.arguments.proofs.NumberLemmas.{four, same_from, within}
use Rattle.arguments.proofs.drill.drill_in.Goals as goal

abbrev no_argument : Bor (List ℕ)
no_argument = record { ref_ptr = (0, 0); now = [] }

pub drill_of-requires : goal.drill_of-requires
drill_of-requires c =
    subst (λ most. IfSome c.number-3.result (λ n. n ≤ most)) c.from.ensures
    (within (λ n. (get_or c.args.arguments.now 3 no_argument).now ≡ decimal n) c.from.result
    c.number-3.result c.number-3.ensures)

pub returns : goal.returns
returns c =
    let arguments = c.args.arguments.now in
    let all = four arguments no_argument c.in-len4.len_at_least c.in-len4.len_below in
    λ drill. (
      λ is.
          (let same = sym all ∙ is.form in
          (c.drill_of.ensures drill).0 (record {
            seed_is = (c.number.ensures drill.seed).0
                (ap (λ l. get_or l 1 []) same, omega (arith, is.seed));
            edits_is = (c.number-2.ensures drill.edits).0
                (ap (λ l. get_or l 2 []) same, is.edits);
            depth_is = (c.number-3.ensures drill.depth).0
                (ap (λ l. get_or l 3 []) same, omega (arith, is.depth, c.from.ensures));
          })),
      λ e.
          (let args = (c.drill_of.ensures drill).1 e in
          let seed = (c.number.ensures drill.seed).1 args.seed_is in
          let edits = (c.number-2.ensures drill.edits).1 args.edits_is in
          let depth = (c.number-3.ensures drill.depth).1 args.depth_is in
          let first : (get_or arguments 0 no_argument).now ≡ codes "drill" =
          (bytes_decides (get_or arguments 0 no_argument).now (codes "drill")).0
          (same_from _ (sym c.if-ne.ensures)) in
          record {
            form = all ∙ (λ t. first t ∷ seed.0 t ∷ edits.0 t ∷ depth.0 t ∷ []);
            seed = omega (arith, seed.1);
            edits = edits.1;
            depth = omega (arith, depth.1, c.from.ensures);
          }),
    )
