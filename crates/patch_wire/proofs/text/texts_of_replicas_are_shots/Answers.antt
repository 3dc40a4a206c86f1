-- Node by node in their order.
use Rattle.patch_wire.proofs.WrittenLemmas.{texts-are-shots}
use Rattle.patch_wire.proofs.text.texts_of_replicas_are_shots.Goals as goal

pub returns : goal.returns
returns c = texts-are-shots c.sound_frames_have_no_crack.ensures.meshes
