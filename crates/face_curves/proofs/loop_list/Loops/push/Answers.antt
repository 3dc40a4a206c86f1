-- The new end is the new length of the keys, and its piece is what was added.
use Rattle.std.proofs.Common.{List, ℕ, ◌+◌, ◌≤◌, ◌++◌, ◌∷◌, [], length, flat_map, ap, sym, ◌∙◌, subst, arith}
use Rattle.std.proofs.lemmas.List.{length-append}
use Rattle.face_curves.proofs.AreEnds.{Rises-from, Rises-increases, Rises-last, length-flat_pieces, pushed_keys, pushed_ends, pushed_rises, pushed_pieces}
use Rattle.face_curves.proofs.loop_list.Loops.push.Goals as goal

pub invariant_of-self : goal.invariant_of-self
invariant_of-self c =
    let old = c.self.inside.keys.items in
    let more = c.args.keys.now in
    let ends = c.self.inside.ends.items in
    let rises = Rises-from 0 (length old) ends c.self.invariant.rising c.self.invariant.whole in
    let HasRoom : List (List ℕ) → Type 0 =
    λ lists. length (flat_map (λ list. list) lists) + length more ≤ 16 in
    let room = subst HasRoom (sym c.self.view_is) c.requires.room in
    let extended = c.try_extend_from_slice-fits in
    let keys = pushed_keys old more extended.new.self.items ends _ rises room
    extended.ensures.variant.1 extended.ensures.ok in
    let pushed = pushed_ends old more _ ends c.push.new.self.items c.len.result keys
    c.len.ensures.value c.push.ensures.items in
    let risen = pushed_rises old more _ ends _ c.requires.some rises keys pushed in
    record {
      rising = Rises-increases 0 _ _ risen;
      whole = Rises-last 0 _ _ risen;
      few = omega (
        arith,
        room,
        ap length keys,
        length-append old more,
        length-flat_pieces old 0 ends rises,
      );
    }

pub returns : goal.returns
returns c =
    let old = c.self.inside.keys.items in
    let more = c.args.keys.now in
    let ends = c.self.inside.ends.items in
    let rises = Rises-from 0 (length old) ends c.self.invariant.rising c.self.invariant.whole in
    let HasRoom : List (List ℕ) → Type 0 =
    λ lists. length (flat_map (λ list. list) lists) + length more ≤ 16 in
    let room = subst HasRoom (sym c.self.view_is) c.requires.room in
    let extended = c.try_extend_from_slice-fits in
    let keys = pushed_keys old more extended.new.self.items ends _ rises room
    extended.ensures.variant.1 extended.ensures.ok in
    let pushed = pushed_ends old more _ ends c.push.new.self.items c.len.result keys
    c.len.ensures.value c.push.ensures.items in
    pushed_pieces old more _ ends _ rises keys pushed
    ∙ ap (λ lists. lists ++ more ∷ []) c.self.view_is
