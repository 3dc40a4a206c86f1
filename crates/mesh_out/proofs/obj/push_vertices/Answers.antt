-- One line more.
use Rattle.std.proofs.Common.{arith}
use Rattle.mesh_out.specs.Text.{vertex_line}
use Rattle.mesh_out.proofs.PieceLemmas.{lines-more}
use Rattle.mesh_out.proofs.obj.push_vertices.Goals as goal

pub loop-position-preserved : goal.loop-position-preserved
loop-position-preserved c =
    record {
      text = lines-more vertex_line c.args.positions.now c.loop-position.position-index _ _ _ _ _
          _ _ _ _ c.loop-position-test.true c.loop-position.invariant.text
          c.in_ok-from.ensures.text c.put_vertex-end.ensures.line;
      room = omega (
        arith,
        c.put_vertex-end.ensures.near,
        c.in_ok-from.ensures.room,
        c.put_vertex-end.ensures.line.long,
      );
    }
