-- One line more.
use Rattle.std.proofs.Common.{arith}
use Rattle.mesh_out.specs.Text.{face_line}
use Rattle.mesh_out.proofs.PieceLemmas.{lines-more}
use Rattle.mesh_out.proofs.obj.push_faces.Goals as goal

pub loop-places-preserved : goal.loop-places-preserved
loop-places-preserved c =
    record {
      text = lines-more (face_line c.args.base) c.args.triangles.now c.loop-places.places-index _
          _ _ _ _ _ _ _ _ c.loop-places-test.true c.loop-places.invariant.text
          c.in_ok-from.ensures.text c.put_face-end.ensures.line;
      room = omega (
        arith,
        c.put_face-end.ensures.near,
        c.in_ok-from.ensures.room,
        c.put_face-end.ensures.line.long,
      );
    }
