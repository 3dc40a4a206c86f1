-- Pieces one after another: what was fed with two pieces was fed with both (`fed-then`), and a replica that stopped at
-- the second stopped at both (`stopped-then`).
use Rattle.std.proofs.Common.{◌≡◌, ℕ, ◌+◌, List, ◌++◌, sym, ap, ◌∙◌, arith, append_assoc, length-append, add_assoc}
use Rattle.replicas.specs.declared.fault.WireFault.{WireFault}
use Rattle.replicas.specs.Following.{Outcome, stops, with_patches}
use Rattle.replicas.specs.Replicas.{HasFed, HasStopped, ReplicaState, comes_of, shown}

-- patches behind patches
both : (n m : ℕ) (o : Outcome) → with_patches n (with_patches m o) ≡ with_patches (n + m) o
both n m o = λ i. record o { patches = sym (add_assoc n m o.patches) i }

module _ (a b : ReplicaState) (first : List ℕ) (n : ℕ) (fed : HasFed a first n b) where
  -- two pieces
  pub fed-then : (c : ReplicaState) (second : List ℕ) (m : ℕ) → HasFed b second m c
      → HasFed a (first ++ second) (n + m) c
  fed-then c second m next = record {
    taken = omega (arith, fed.taken, next.taken, length-append first second);
    outcome = λ more.
        ap (comes_of a) (append_assoc first second more)
        ∙ fed.outcome (second ++ more)
        ∙ ap (with_patches n) (next.outcome more)
        ∙ both n m (comes_of c more);
  }

  -- a stop at the second
  pub stopped-then : (c : ReplicaState) (second : List ℕ) (fault : WireFault)
      → HasStopped b second fault c → HasStopped a (first ++ second) fault c
  stopped-then c second fault stop = record {
    patches = n + stop.patches;
    front = first ++ stop.front;
    rest = stop.rest;
    parts = ap (λ bytes. first ++ bytes) stop.parts
        ∙ sym (append_assoc first stop.front stop.rest);
    before = stop.before;
    fed = fed-then stop.before stop.front stop.patches stop.fed;
    same = stop.same;
    within = omega (arith, stop.within, fed.taken, length-append first second);
    refused = λ other more.
        ap (comes_of a) (append_assoc first second more)
        ∙ fed.outcome (second ++ more)
        ∙ ap (with_patches n) (stop.refused other more)
        ∙ both n stop.patches (stops c.taken (shown c.held) fault);
  }
