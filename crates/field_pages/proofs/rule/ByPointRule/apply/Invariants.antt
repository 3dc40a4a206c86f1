-- The samples before a place are the function's.
use Rattle.std.proofs.Common.{◌<◌, ℕ, get_or}
use Rattle.lattice.specs.declared.point.Axis.TheVariants.{X}
use Rattle.lattice.specs.Point.{moved}
use Rattle.terrain.specs.declared.brush.TheConstants.{MAX_SAMPLE}
use Rattle.field_pages.specs.Changes.{Makes}
use Rattle.field_pages.proofs.rule.ByPointRule.apply.Given as goal

-- the samples so far are the function's
abbrev pub invariant-loop-x : goal.invariant-loop-x
invariant-loop-x g l = (t : ℕ) → t < l.x → Makes (λ p old new. g.F.Fn.post l.self.f.now (p, tt) new)
    (moved X t l.from) (get_or l.initial.row t MAX_SAMPLE) (get_or l.row t MAX_SAMPLE)
