-- There are as many ends as loops.
use Rattle.std.proofs.Common.{length, ap, arith}
use Rattle.face_curves.proofs.AreEnds.{length-pieces}
use Rattle.face_curves.proofs.loop_list.Loops.keys_of.Goals as goal

pub bounds-start-requires-clause-index : goal.bounds-start-requires-clause-index
bounds-start-requires-clause-index c =
    let keys = c.self.inside.keys.items in
    let ends = c.self.inside.ends.items in
    omega (
      arith,
      c.requires,
      ap length c.deref-2.ensures.0,
      ap length c.self.view_is,
      length-pieces keys 0 ends,
    )
