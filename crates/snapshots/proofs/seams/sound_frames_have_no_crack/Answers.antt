-- The meshes in the slots are those of the journal.
use Rattle.snapshots.proofs.FrameMeshLemmas.{HasNoCrack-sound, meshes_of-sound}
use Rattle.snapshots.proofs.seams.sound_frames_have_no_crack.Goals as goal

pub returns-clause-meshes : goal.returns-clause-meshes
returns-clause-meshes c = λ frame sound.
    meshes_of-sound c.keys_are_told_apart.ensures frame sound

pub returns-clause-seamless : goal.returns-clause-seamless
returns-clause-seamless c = λ frame sound.
    HasNoCrack-sound c.keys_are_told_apart.ensures frame sound c.histories_are_seamless.ensures
