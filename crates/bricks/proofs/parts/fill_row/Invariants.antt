-- The pages before are looked up.
use Rattle.std.proofs.Common.{◌≡◌, ℕ, ◌*◌, ◌%◌, ◌<◌, [], true, length, get_or}
use Rattle.std.specs.Prelude.{All, IsTrue}
use Rattle.terrain.specs.declared.brush.TheConstants.{MAX_SAMPLE}
use Rattle.terrain.specs.Samples.{IsSample}
use Rattle.field_pages.specs.Pages.{sample_at}
use Rattle.bricks.specs.Parts.{HasPart, page_samples, page_steps}
use Rattle.bricks.proofs.parts.fill_row.Given as goal

abbrev pub invariant-loop-number : goal.invariant-loop-number
invariant-loop-number l = record {
  long : length l.pages ≡ 9;
  counts : (t : ℕ) → t < l.number → length (get_or (page_samples l.pages) t []) ≡ 4096;
  range : (t : ℕ) → t < l.number
      → All IsSample (get_or (page_samples l.pages) t []);
  parts : (t : ℕ) → t < l.number
      → HasPart (sample_at l.version) l.leaf (record { z = l.z; y = l.y; x = l.side * t }) l.side
      (get_or (page_samples l.pages) t []);
  steps : IsTrue l.by_steps → (t : ℕ) → t < l.number
      → IsTrue (get_or (page_steps l.pages) t true);
  one_row : IsTrue l.have_one_row → (t k : ℕ) → t < l.number → k < 4096
      → get_or (get_or (page_samples l.pages) t []) k MAX_SAMPLE
      ≡ get_or (get_or (page_samples l.pages) t []) (k % 16) MAX_SAMPLE;
}
