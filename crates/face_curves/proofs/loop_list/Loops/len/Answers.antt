-- The loops have all keys.
use Rattle.std.proofs.Common.{List, ℕ, ◌≤◌, length, flat_map, subst, arith}
use Rattle.face_curves.proofs.AreEnds.{Rises-from, length-flat_pieces}
use Rattle.face_curves.proofs.loop_list.Loops.len.Goals as goal

pub returns-clause-few_keys : goal.returns-clause-few_keys
returns-clause-few_keys c =
    let keys = c.self.inside.keys.items in
    let ends = c.self.inside.ends.items in
    let rises = Rises-from 0 (length keys) ends c.self.invariant.rising c.self.invariant.whole in
    let P : List (List ℕ) → Type 0 = λ lists. length (flat_map (λ list. list) lists) ≤ 16 in
    subst P c.self.view_is (omega (
      arith,
      length-flat_pieces keys 0 ends rises,
      c.self.invariant.few,
    ))
