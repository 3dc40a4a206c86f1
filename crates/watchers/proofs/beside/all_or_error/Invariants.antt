-- What those told each that came so far.
use Rattle.std.proofs.Common.{◌≡◌, All, length, vec_len}
use Rattle.watchers.specs.Looks.{IsReport}
use Rattle.watchers.proofs.beside.all_or_error.Given as goal

abbrev pub invariant-loop-one : goal.invariant-loop-one
invariant-loop-one l = (vec_len l.all ≡ length l.yielded) × All (IsReport l.looks) l.all.items
