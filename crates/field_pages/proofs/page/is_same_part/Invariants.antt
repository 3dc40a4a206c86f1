-- The samples so far are told to be the same or not.
use Rattle.std.proofs.Common.{◌≡◌, ◌↔◌, ◌+◌, ◌<◌, ℕ, IsTrue, get_or}
use Rattle.terrain.specs.declared.brush.TheConstants.{MAX_SAMPLE}
use Rattle.field_pages.proofs.page.is_same_part.Given as goal

-- it is told of the samples before a place
abbrev pub invariant-loop-k : goal.invariant-loop-k
invariant-loop-k l = IsTrue l.is_same ↔ ((k : ℕ) → k < l.k →
    get_or l.a (l.start + k) MAX_SAMPLE ≡ get_or l.b (l.start + k) MAX_SAMPLE)
