-- The samples so far are told to be one or not.
use Rattle.std.proofs.Common.{◌≡◌, ◌↔◌, ◌+◌, ◌<◌, ℕ, IsTrue, get_or}
use Rattle.terrain.specs.declared.brush.TheConstants.{MAX_SAMPLE}
use Rattle.field_pages.proofs.even.is_even_part.Given as goal

-- it is told of the samples before a place
abbrev pub invariant-loop-k : goal.invariant-loop-k
invariant-loop-k l = IsTrue l.is_even ↔ ((k : ℕ) → k < l.k →
    get_or l.samples (l.start + k) MAX_SAMPLE ≡ l.sample)
