-- What a sink that is being written to has taken so far.
use Rattle.std.proofs.Common.{◌≡◌, ℕ, ◌-◌, List, ◌++◌, length, take, drop, Option, None, Some, refl, sym, ap, ◌∙◌, append_assoc}
use Rattle.std.specs.Io.KnownBytes.{append_known}
use Rattle.std.proofs.lemmas.List.{take-append-drop, take_rest}
use Rattle.terra_io.specs.Stream.{Stream, Appends, IsFaultless}

-- the sink took these bytes but for the rest, and no call failed
pub record HasPut (old new : Stream) (bytes rest : List ℕ) : Type 0 where
  pub front : List ℕ
  pub parts : bytes ≡ front ++ rest
  pub appended : Appends old new front
  pub faultless : IsFaultless old new

-- known bytes behind known bytes
append_known-append : (held : Option (List ℕ)) (first second : List ℕ)
    → append_known (append_known held first) second ≡ append_known held (first ++ second)
append_known-append None first second = refl
append_known-append (Some held) first second = ap Some (append_assoc held first second)

-- two appends after one another append both
pub Appends-trans : (old mid new : Stream) (first second : List ℕ)
    → Appends old mid first → Appends mid new second → Appends old new (first ++ second)
Appends-trans old mid new first second e f = record {
  bytes = f.bytes ∙ ap (λ held. append_known held second) e.bytes
      ∙ append_known-append old.bytes first second;
}

-- a write of the first bytes of the rest goes on
pub has_put_more : (old mid new : Stream) (bytes rest : List ℕ) (n : ℕ)
    → HasPut old mid bytes rest → Appends mid new (take n rest) → IsFaultless mid new
    → HasPut old new bytes (take (length rest - n) (drop n rest))
has_put_more old mid new bytes rest n so_far more faultless = record {
  front = so_far.front ++ take n rest;
  parts = rw (take_rest rest n) (so_far.parts
      ∙ ap (λ r. so_far.front ++ r) (sym (take-append-drop n rest))
      ∙ sym (append_assoc so_far.front (take n rest) (drop n rest)));
  appended = Appends-trans old mid new so_far.front (take n rest) so_far.appended more;
  faultless = faultless ∙ so_far.faultless;
}
