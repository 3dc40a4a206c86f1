-- What looks at frames count together. This project's rule.
use Rattle.std.specs.Prelude.{◌+◌}
use Rattle.audits.specs.declared.counts.Counts.{Counts}

-- no look was made
abbrev pub no_looks : Counts
no_looks = record { looks = 0; cracks = 0; backward = 0 }

-- both counts together
abbrev pub counts_together : Counts → Counts → Counts
counts_together one other = record {
  looks = one.looks + other.looks;
  cracks = one.cracks + other.cracks;
  backward = one.backward + other.backward;
}
