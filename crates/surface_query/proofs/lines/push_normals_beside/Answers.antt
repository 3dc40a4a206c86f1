-- One line more.
use Rattle.std.proofs.Common.{ap, arith}
use Rattle.digits.proofs.LineLemmas.{puts-same}
use Rattle.terrain.specs.History.{sample}
use Rattle.surface_normals.specs.Normals.{normal_of}
use Rattle.surface_query.specs.NormalText.{normal_line}
use Rattle.surface_query.proofs.PieceLemmas.{lines-more}
use Rattle.surface_query.proofs.lines.push_normals_beside.Goals as goal

pub loop-key-preserved : goal.loop-key-preserved
loop-key-preserved c =
    let frame = c.args.frame.now in
    let line = ap normal_line c.normal_beside.ensures in
    record {
      text = lines-more (λ key. normal_line (normal_of frame.settings.depth
          (sample frame.settings frame.events) key)) c.args.keys.now c.loop-key.key-index _ _ _ _ _
          _ _ _ _ c.loop-key-test.true c.loop-key.invariant.text c.in_ok-from.ensures.text
          (puts-same _ _ _ _ _ _ c.put_normal-end.ensures.line line);
      room = omega (
        arith,
        c.put_normal-end.ensures.near,
        c.in_ok-from.ensures.room,
        c.put_normal-end.ensures.line.long,
      );
    }
