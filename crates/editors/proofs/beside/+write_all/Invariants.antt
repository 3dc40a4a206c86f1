-- One editor fewer is left each time.
use Rattle.std.proofs.Common.{vec_len}
use Rattle.editors.proofs.beside.+write_all.Given as goal

abbrev pub decreases-write_all : goal.decreases-write_all
decreases-write_all g l = vec_len l.editors.now
