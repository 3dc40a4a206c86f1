-- The stats are those of the meshes in the frame's slots.
use Rattle.std.proofs.Common.{◌≡◌, ap, subst, sym, ◌∙◌}
use Rattle.std.specs.Prelude.{IfErr, OnOk}
use Rattle.snapshots.specs.Meshes.{meshes_of}
use Rattle.snapshots.specs.Stats.{stats_of}
use Rattle.terra_io.specs.Stream.{Appends}
use Rattle.mesh_out.specs.Text.{stats_text}
use Rattle.mesh_out.specs.Writing.{StopsWriting}
use Rattle.mesh_out.proofs.stats.write_stats.Goals as goal
use Rattle.mesh_out.proofs.stats.write_stats.Given.{Over}

-- what was counted is what the slots have
counted : (g : Over) (c : goal.After-write_stats_line g)
    → c.stats.result ≡ stats_of (meshes_of c.args.frame.now)
counted g c =
    c.stats.ensures
    ∙ ap stats_of (sym (c.sound_frames_have_no_crack.ensures.meshes c.args.frame.now c.requires))

pub returns-clause-text : goal.returns-clause-text
returns-clause-text g c =
    subst (λ stats. OnOk c.write_stats_line.result (Appends (g.K.Sink.state c.args.sink.now)
    (g.K.Sink.state c.write_stats_line.new.sink) (stats_text stats)))
    (counted g c) c.write_stats_line.ensures.text

pub returns-clause-stopped : goal.returns-clause-stopped
returns-clause-stopped g c =
    subst (λ stats. IfErr c.write_stats_line.result (λ fault. StopsWriting fault
    (g.K.Sink.state c.args.sink.now) (g.K.Sink.state c.write_stats_line.new.sink)
    (stats_text stats))) (counted g c) c.write_stats_line.ensures.stopped
