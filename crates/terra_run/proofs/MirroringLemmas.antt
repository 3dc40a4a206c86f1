-- The statuses of mirrors.
use Rattle.std.proofs.Common.{◌≡◌, Result, Ok, Err}
use Rattle.mirrors.specs.declared.refusal.MirrorRefusal.{MirrorRefusal}
use Rattle.mirrors.specs.declared.refusal.MirrorRefusal.TheVariants as refusals
use Rattle.script_play.specs.declared.status.Status.TheVariants.{BadWords}
use Rattle.requests.specs.Mirroring.{mirror_status}

-- the arguments of a mirror are never bad words
pub mirrored-no_words : (result : Result (Unit {0}) MirrorRefusal)
    → mirror_status result ≡ BadWords → ⊥
mirrored-no_words (Ok done) is = cc
mirrored-no_words (Err refusals.NoMemory) is = cc
mirrored-no_words (Err refusals.ReadFault) is = cc
mirrored-no_words (Err refusals.WriteFault) is = cc
mirrored-no_words (Err refusals.InputLimit) is = cc
mirrored-no_words (Err (refusals.BadWire at fault)) is = cc
mirrored-no_words (Err refusals.CutWire) is = cc
