-- What a handle owns: where it is open, what it holds, in a box of its own.
use Rattle.std.specs.Prelude.{Bool, true, false, Option, Some, None}
use base.Fml.{Fml, fex, feq, fsep}
use denote.RattleType.{RattleType}
use denote.RawPtr.{Ptr}
use Rattle.std.specs.declared.alloc.Global.{Global}
use Rattle.std.specs.contracts.impls.GlobalAllocator.TheImpl.{ghosts}
use Rattle.std.specs.Box.Ownership.{box_owns}

-- an open handle owns a box of what it is said to hold, and a closed one is said to hold nothing
abbrev pub holds : (R : RattleType) → Bool → Ptr → Option R.Denot → Fml
holds R true at held = fex (Global × R.Denot) (λ s.
    fsep (feq (Option R.Denot) held (Some s.1)) (box_owns (ghosts.dealloc_token s.0) R at s.1))
holds R false at held = feq (Option R.Denot) held None
