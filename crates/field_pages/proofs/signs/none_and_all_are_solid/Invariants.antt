-- The least sample so far isn't solid where none is, and the greatest is where all are.
use Rattle.std.proofs.Common.{◌≡◌, not, take}
use Rattle.std.specs.List.{list_all}
use Rattle.terrain.specs.Samples.{is_solid}
use Rattle.field_pages.proofs.signs.none_and_all_are_solid.Given as goal

abbrev pub invariant-loop-sample : goal.invariant-loop-sample
invariant-loop-sample l = record {
  none : not (is_solid l.low)
      ≡ list_all (λ sample. not (is_solid sample)) (take l.sample-index l.samples);
  all : is_solid l.high ≡ list_all is_solid (take l.sample-index l.samples);
}
