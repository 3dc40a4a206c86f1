-- A text that is written piece by piece: what is written so far (Writes), and how that may stop (StopsWriting).
-- Nothing is written at the start (Writes-none). What is written of the rest, with more behind it, goes behind what was
-- written before (Writes-on); what stops there stops all of it (StopsWriting-on, StopsWriting-rest), and what stops a
-- text stops each longer one (StopsWriting-longer).
use Rattle.std.proofs.Common.{◌≡◌, ℕ, List, [], ◌++◌, refl, sym, ap, subst, ◌∙◌, append_assoc}
use Rattle.std.proofs.lemmas.List.{append-nil}
use Rattle.std.specs.Prelude.{Option, Some, None}
use Rattle.std.specs.Io.KnownBytes.{append_known}
use Rattle.terra_io.proofs.StreamLemmas.{Appends-trans}
use Rattle.mesh_out.specs.Writing.{StopsWriting, Writes}
use Rattle.mesh_out.specs.declared.fault.OutFault.{OutFault}
use Rattle.mesh_out.specs.declared.fault.OutFault.TheVariants.{NoMemory, WriteFault}
use Rattle.fault_counts.specs.Counts.{HasRisen}
use Rattle.terra_io.specs.Stream.{Stream, Appends, AppendsPrefix}

-- known bytes with none behind them
append_known-nil : (known : Option (List ℕ)) → known ≡ append_known known []
append_known-nil None = refl
append_known-nil (Some bytes) = ap Some (sym (append-nil bytes))

-- nothing was written, and no call failed
pub StopsWriting-none : (s : Stream) (text : List ℕ) → StopsWriting NoMemory s s text
StopsWriting-none s text = (
  record {
    front = [];
    rest = text;
    parts = refl;
    appended = record { bytes = append_known-nil s.bytes };
  },
  refl,
)

-- nothing was added
pub Appends-none : (s : Stream) → Appends s s []
Appends-none s = record { bytes = append_known-nil s.bytes }

-- a text of which nothing was written yet
pub Writes-none : (s : Stream) (text : List ℕ) → Writes s s text text
Writes-none s text = record {
  front = [];
  parts = refl;
  appended = Appends-none s;
  faultless = refl;
}

-- what stood before it, with more behind the rest
module _ (old mid new : Stream) (text rest more : List ℕ) (before : Writes old mid text rest) where
  -- the parts of a text by those of its rest
  parted : (front last : List ℕ) → rest ++ more ≡ front ++ last
      → text ++ more ≡ (before.front ++ front) ++ last
  parted front last parts =
      ap (λ t. t ++ more) before.parts ∙ append_assoc before.front rest more
      ∙ ap (λ t. before.front ++ t) parts ∙ sym (append_assoc before.front front last)

  -- more of it was written
  pub Writes-on : (left : List ℕ) → Writes mid new (rest ++ more) left
      → Writes old new (text ++ more) left
  Writes-on left after = record {
    front = before.front ++ after.front;
    parts = parted after.front left after.parts;
    appended = Appends-trans old mid new before.front after.front before.appended after.appended;
    faultless = after.faultless ∙ before.faultless;
  }

  -- a first part of the rest is one of all of it
  prefix-on : AppendsPrefix mid new (rest ++ more) → AppendsPrefix old new (text ++ more)
  prefix-on after = record {
    front = before.front ++ after.front;
    rest = after.rest;
    parts = parted after.front after.rest after.parts;
    appended = Appends-trans old mid new before.front after.front before.appended after.appended;
  }

  -- the writing of the rest stopped
  pub StopsWriting-on : (fault : OutFault) → StopsWriting fault mid new (rest ++ more)
      → StopsWriting fault old new (text ++ more)
  StopsWriting-on NoMemory after = (prefix-on after.0, after.1 ∙ before.faultless)
  StopsWriting-on WriteFault after =
      (prefix-on after.0, subst (λ n. HasRisen n new.faults) before.faultless after.1)

-- what stood before it
pub StopsWriting-rest : (old mid new : Stream) (text rest : List ℕ) → Writes old mid text rest
    → (fault : OutFault) → StopsWriting fault mid new rest → StopsWriting fault old new text
StopsWriting-rest old mid new text rest before fault after =
    subst (λ t. StopsWriting fault old new t) (append-nil text)
    (StopsWriting-on old mid new text rest [] before fault
    (subst (λ t. StopsWriting fault mid new t) (sym (append-nil rest)) after))

-- a longer text
pub StopsWriting-longer : (fault : OutFault) (old new : Stream) (text more : List ℕ)
    → StopsWriting fault old new text → StopsWriting fault old new (text ++ more)
StopsWriting-longer fault old new text more stopped = longer fault stopped
  where
    prefix : AppendsPrefix old new text → AppendsPrefix old new (text ++ more)
    prefix part = record {
      front = part.front;
      rest = part.rest ++ more;
      parts = ap (λ t. t ++ more) part.parts ∙ append_assoc part.front part.rest more;
      appended = part.appended;
    }

    longer : (fault : OutFault) → StopsWriting fault old new text
        → StopsWriting fault old new (text ++ more)
    longer NoMemory h = (prefix h.0, h.1)
    longer WriteFault h = (prefix h.0, h.1)
