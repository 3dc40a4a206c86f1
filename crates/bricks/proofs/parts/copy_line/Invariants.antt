-- The samples of the pages before are copied.
use Rattle.std.proofs.Common.{◌≡◌, ℕ, ◌+◌, ◌*◌, ◌<◌, [], pos, get_or}
use Rattle.bricks.specs.Parts.{KeepsOthers, page_samples}
use Rattle.bricks.proofs.parts.copy_line.Given as goal

abbrev pub invariant-loop-number : goal.invariant-loop-number
invariant-loop-number l = record {
  line : (t x : ℕ) → t < l.number → x < l.side
      → get_or l.samples (l.to + l.side * t + x) (pos 0)
      ≡ get_or (get_or (page_samples l.pages) t []) (l.from + l.stride * x) (pos 0);
  others : KeepsOthers l.to (l.side * l.number) l.initial.samples l.samples;
}
