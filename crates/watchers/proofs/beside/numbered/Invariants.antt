-- As many watchers as viewers so far.
use Rattle.std.proofs.Common.{◌≡◌, length, vec_len}
use Rattle.watchers.proofs.beside.numbered.Given as goal

abbrev pub invariant-loop-viewer : goal.invariant-loop-viewer
invariant-loop-viewer l = vec_len l.watchers ≡ length l.yielded
