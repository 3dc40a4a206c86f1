-- The texts so far, and the next.
use Rattle.std.proofs.Common.{◌≡◌, length}
use Rattle.mesh_out.specs.Numerals.{AreNumerals, IsNumeral}
use Rattle.mesh_out.proofs.numerals.numerals_of.Given as goal

abbrev pub invariant-loop-place : goal.invariant-loop-place
invariant-loop-place l = record {
  long : length l.numerals.items ≡ l.place;
  texts : AreNumerals l.base l.numerals.items;
  next : IsNumeral l.base l.place l.numeral;
}
