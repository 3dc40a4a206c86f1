-- How a mirror ends, by how its wire was read and its text written.
-- Each end is put together three times: for the table, and for the two clauses that go the other way round, where the
-- source tells its bytes. First a wire that isn't read to its end (`refused-table`, `refused-below`, `refused-above`),
-- then one that is: it ends within the head or a patch (`cut-table`, `cut-below`), or its text is written
-- (`written-table`, `written-below`), or a first part of it (`stopped-table`, `stopped-below`).
use Rattle.std.proofs.Common.{◌≡◌, ℕ, ◌+◌, ◌-◌, ◌≤◌, Bool, true, false, List, [], ◌++◌, length, take, Some, None, Result, Ok, Err, refl, sym, ap, subst, ◌∙◌, arith, inl, inr, length-append}
use Rattle.std.specs.Prelude.{if◌then◌else◌}
use Rattle.std.proofs.lemmas.Bool.{false≢true}
use Rattle.std.proofs.lemmas.List.{append-nil}
use Rattle.std.proofs.Math.Seq.{take-append-add, take-append_seam}
use Rattle.terra_io.specs.Stream.{Stream, Yields, Appends, AppendsPrefix, IsFaultless}
use Rattle.mesh_out.specs.declared.fault.OutFault.{OutFault}
use Rattle.mesh_out.specs.declared.fault.OutFault.TheVariants as out
use Rattle.mesh_out.specs.Writing.{StopsWriting}
use Rattle.mesh_out.proofs.WritingLemmas.{Appends-none}
use Rattle.replicas.specs.declared.fault.WireFault.{WireFault}
use Rattle.replicas.specs.Fed.{Shows}
use Rattle.replicas.specs.Following.{Outcome, wire}
use Rattle.replicas.specs.Replicas.{ReplicaState, is_at_rest}
use Rattle.patch_wire.specs.Written.{text_shown}
use Rattle.mirrors.specs.declared.reading.TheConstants.{WIRE_LIMIT}
use Rattle.mirrors.specs.declared.refusal.MirrorRefusal.{MirrorRefusal}
use Rattle.mirrors.specs.declared.refusal.MirrorRefusal.TheVariants.{NoMemory, ReadFault, WriteFault, InputLimit, BadWire, CutWire}
use Rattle.mirrors.specs.Mirrored.{IsMirrorEnd, IsMirrored, IsMirroredAtLimit, IsUnrefused, Mirrored, end_at_limit, end_of, mirror_text, text_left}
use Rattle.mirrors.specs.Reading.{ReadsBytes, ReadsWire}
use Rattle.mirrors.specs.Refusals.{writing_refusal}
use Rattle.mirrors.proofs.InputLemmas.{given-part, given-whole}
use Rattle.mirrors.proofs.ReadingLemmas.{read-shows}
use Rattle.mirrors.proofs.ShownLemmas.{text-shown}

-- ---- ends by outcomes
-- the end of an outcome, by its fault
end-refused : (o : Outcome) (fault : WireFault) → o.fault ≡ Some fault
    → end_of o ≡ Err (BadWire o.taken fault)
end-refused o fault is = ap (λ f. end_of (record o { fault = f })) is

-- by whether a replica is at rest
end-rests : (o : Outcome) (b : Bool) → o.fault ≡ None → o.at_rest ≡ b
    → end_of o ≡ (if b then Ok tt else Err CutWire)
end-rests o b none is = λ i. end_of (record o { fault = none i; at_rest = is i })

-- the same at the limit
limit-refused : (o : Outcome) (fault : WireFault) → o.fault ≡ Some fault
    → end_at_limit o ≡ Err (BadWire o.taken fault)
limit-refused o fault is = ap (λ f. end_at_limit (record o { fault = f })) is

-- where no field was refused
limit-none : (o : Outcome) → o.fault ≡ None → end_at_limit o ≡ Err InputLimit
limit-none o none = ap (λ f. end_at_limit (record o { fault = f })) none

-- nothing is written of an outcome that isn't at rest
no-text : (o : Outcome) → o.at_rest ≡ false → mirror_text true o ≡ []
no-text o is = ap (λ b. mirror_text true (record o { at_rest = b })) is

-- memory ran out before anything was written
nothing-written : (this : Result (Unit {0}) MirrorRefusal) (text : List ℕ) (sink : Stream)
    → IsMirrorEnd this text sink sink (Err NoMemory)
nothing-written this text sink = inr (
  refl,
  record { front = []; rest = text; parts = refl; appended = Appends-none sink },
)

-- this is the end, and nothing was written
end-is : (this result : Result (Unit {0}) MirrorRefusal) (text : List ℕ) (sink : Stream)
    → this ≡ result → text ≡ [] → IsMirrorEnd this text sink sink result
end-is this result text sink same none =
    inl (sym same, subst (Appends sink sink) (sym none) (Appends-none sink))

-- ---- a wire that isn't read to its end
module _ (source source' sink : Stream) where
  -- what was appended is nothing
  refused-table-at : (refusal : MirrorRefusal) (read : List ℕ) → Yields source source' read
      → length read ≤ WIRE_LIMIT → ReadsBytes source source' read (Err refusal)
      → Mirrored source source' sink sink (Err refusal)
  refused-table-at NoMemory read taken within ends = record {
    read = read;
    ended = false;
    appended = [];
    taken = taken;
    written = Appends-none sink;
    within = within;
    end = λ is. absurd (false≢true is);
    table = (record { source = ends; sink = refl }, record { rest = []; parts = refl });
  }
  refused-table-at ReadFault read taken within ends = record {
    read = read;
    ended = false;
    appended = [];
    taken = taken;
    written = Appends-none sink;
    within = within;
    end = λ is. absurd (false≢true is);
    table = (ends.0, refl, refl, ends.1, refl);
  }
  refused-table-at WriteFault read taken within ends = absurd ends
  refused-table-at InputLimit read taken within ends = record {
    read = read;
    ended = false;
    appended = [];
    taken = taken;
    written = Appends-none sink;
    within = within;
    end = λ is. absurd (false≢true is);
    table = (record { source = ends.0; sink = refl }, refl, ends.1, ends.2, refl);
  }
  refused-table-at (BadWire at fault) read taken within ends =
      let all : read ++ [] ≡ read = append-nil read in
      record {
        read = read;
        ended = false;
        appended = [];
        taken = taken;
        written = Appends-none sink;
        within = within;
        end = λ is. absurd (false≢true is);
        table = (
          record { source = ends.0; sink = refl },
          ends.1.other,
          subst (λ bytes. (wire bytes).fault ≡ Some fault) all (ends.1.fault_is []),
          subst (λ bytes. (wire bytes).taken ≡ at) all (ends.1.taken_is []),
          refl,
        );
      }
  refused-table-at CutWire read taken within ends = absurd ends

  -- the row of the table
  pub refused-table : (refusal : MirrorRefusal) → ReadsWire source source' (Err refusal)
      → Mirrored source source' sink sink (Err refusal)
  refused-table refusal reads =
      refused-table-at refusal reads.read reads.taken reads.within reads.ends

  -- of an input below the limit
  refused-below-at : (refusal : MirrorRefusal) (read : List ℕ) → Yields source source' read
      → ReadsBytes source source' read (Err refusal)
      → IsMirrored source source' sink sink (Err refusal)
  refused-below-at NoMemory read taken ends = λ input tells below calm calm'.
      nothing-written (end_of (wire input)) (mirror_text true (wire input)) sink
  refused-below-at ReadFault read taken ends = λ input tells below calm calm'.
      absurd (calm ends.0)
  refused-below-at WriteFault read taken ends = absurd ends
  refused-below-at InputLimit read taken ends = λ input tells below calm calm'.
      let part = given-part source source' input read tells taken in
      absurd (omega (arith, ap length part.1, length-append read part.0, ends.1, below))
  refused-below-at (BadWire at fault) read taken ends = λ input tells below calm calm'.
      let part = given-part source source' input read tells taken in
      let o = wire (read ++ part.0) in
      subst (λ bytes. IsMirrorEnd (end_of (wire bytes)) (mirror_text true (wire bytes)) sink sink
      (Err (BadWire at fault))) (sym part.1)
      (end-is (end_of o) (Err (BadWire at fault)) (mirror_text true o) sink
      (end-refused o fault (ends.1.fault_is part.0)
      ∙ ap (λ n. Err (BadWire n fault)) (ends.1.taken_is part.0))
      (no-text o (ends.1.rests part.0)))
  refused-below-at CutWire read taken ends = absurd ends

  -- the same of the reading
  pub refused-below : (refusal : MirrorRefusal) → ReadsWire source source' (Err refusal)
      → IsMirrored source source' sink sink (Err refusal)
  refused-below refusal reads = refused-below-at refusal reads.read reads.taken reads.ends

  -- of a longer one
  refused-above-at : (refusal : MirrorRefusal) (read : List ℕ) → Yields source source' read
      → length read ≤ WIRE_LIMIT → ReadsBytes source source' read (Err refusal)
      → IsMirroredAtLimit source source' sink sink (Err refusal)
  refused-above-at NoMemory read taken within ends = λ input tells above calm calm'.
      nothing-written (end_at_limit (wire (take WIRE_LIMIT input))) [] sink
  refused-above-at ReadFault read taken within ends = λ input tells above calm calm'.
      absurd (calm ends.0)
  refused-above-at WriteFault read taken within ends = absurd ends
  refused-above-at InputLimit read taken within ends = λ input tells above calm calm'.
      let part = given-part source source' input read tells taken in
      let first : take WIRE_LIMIT input ≡ read =
      ap (take WIRE_LIMIT) part.1 ∙ ap (λ n. take n (read ++ part.0)) (sym ends.1)
      ∙ take-append_seam read part.0 in
      end-is (end_at_limit (wire (take WIRE_LIMIT input))) (Err InputLimit) [] sink
      (ap (λ bytes. end_at_limit (wire bytes)) first ∙ limit-none (wire read) ends.2) refl
  refused-above-at (BadWire at fault) read taken within ends = λ input tells above calm calm'.
      let part = given-part source source' input read tells taken in
      let more = take (WIRE_LIMIT - length read) part.0 in
      let o = wire (read ++ more) in
      let limit : WIRE_LIMIT ≡ length read + (WIRE_LIMIT - length read) =
      omega (arith, within) in
      let first : take WIRE_LIMIT input ≡ read ++ more =
      ap (take WIRE_LIMIT) part.1 ∙ ap (λ n. take n (read ++ part.0)) limit
      ∙ take-append-add read part.0 (WIRE_LIMIT - length read) in
      end-is (end_at_limit (wire (take WIRE_LIMIT input))) (Err (BadWire at fault)) [] sink
      (ap (λ bytes. end_at_limit (wire bytes)) first
      ∙ limit-refused o fault (ends.1.fault_is more)
      ∙ ap (λ n. Err (BadWire n fault)) (ends.1.taken_is more)) refl
  refused-above-at CutWire read taken within ends = absurd ends

  -- and of its reading
  pub refused-above : (refusal : MirrorRefusal) → ReadsWire source source' (Err refusal)
      → IsMirroredAtLimit source source' sink sink (Err refusal)
  refused-above refusal reads =
      refused-above-at refusal reads.read reads.taken reads.within reads.ends

-- ---- a wire that is read to its end
module _ (source source' : Stream) (r : ReplicaState) (reads : ReadsWire source source' (Ok r))
  where
    -- what the replica shows is what comes of it
    shown : Shows r (wire reads.read)
    shown = read-shows reads.read r reads.ends.3 reads.ends.4

    -- no field was refused
    is-taken : (b : Bool) → is_at_rest r ≡ b → IsUnrefused (wire reads.read) b
    is-taken b rests =
        record { fault = sym shown.fault ∙ reads.ends.3; at_rest_is = sym shown.at_rest ∙ rests }

    -- its text
    text-is : is_at_rest r ≡ true → mirror_text true (wire reads.read) ≡ text_shown r
    text-is rests =
        ap (λ b. if b then text_left (wire reads.read).world else []) (sym shown.at_rest ∙ rests)
        ∙ sym (text-shown r (wire reads.read) shown)

    -- what goes the other way round speaks of an input that is known, and that is what was read
    known : (sink sink' : Stream) (result : Result (Unit {0}) MirrorRefusal)
        → IsMirrorEnd (end_of (wire reads.read)) (mirror_text true (wire reads.read)) sink sink'
        result
        → IsMirrored source source' sink sink' result
    known sink sink' result is = λ input tells below calm calm'.
        subst (λ bytes. IsMirrorEnd (end_of (wire bytes)) (mirror_text true (wire bytes)) sink sink'
        result)
        (given-whole source source' input reads.read tells reads.taken reads.ends.1) is

    -- and it isn't longer
    pub whole-above : (sink sink' : Stream) (result : Result (Unit {0}) MirrorRefusal)
        → IsMirroredAtLimit source source' sink sink' result
    whole-above sink sink' result = λ input tells above calm calm'.
        let same = given-whole source source' input reads.read tells reads.taken reads.ends.1 in
        absurd (omega (arith, ap length same, above, reads.ends.2))

    -- it ends within the head or a patch
    pub cut-table : (sink : Stream) → is_at_rest r ≡ false
        → Mirrored source source' sink sink (Err CutWire)
    cut-table sink rests = record {
      read = reads.read;
      ended = true;
      appended = [];
      taken = reads.taken;
      written = Appends-none sink;
      within = reads.within;
      end = λ _. (reads.ends.1, reads.ends.2);
      table = (
        record { source = reads.ends.0; sink = refl },
        refl,
        is-taken false rests,
        refl,
      );
    }

    -- and the other way round
    pub cut-below : (sink : Stream) → is_at_rest r ≡ false
        → IsMirrored source source' sink sink (Err CutWire)
    cut-below sink rests =
        let is = is-taken false rests in
        known sink sink (Err CutWire)
        (end-is (end_of (wire reads.read)) (Err CutWire) (mirror_text true (wire reads.read)) sink
        (end-rests (wire reads.read) false is.fault is.at_rest_is)
        (no-text (wire reads.read) is.at_rest_is))

    module _ (sink sink' : Stream) (rests : is_at_rest r ≡ true) where
      -- its text was written
      pub written-table : Appends sink sink' (text_shown r) → IsFaultless sink sink'
          → Mirrored source source' sink sink' (Ok tt)
      written-table appends faultless = record {
        read = reads.read;
        ended = true;
        appended = text_shown r;
        taken = reads.taken;
        written = appends;
        within = reads.within;
        end = λ _. (reads.ends.1, reads.ends.2);
        table = (
          record { source = reads.ends.0; sink = faultless },
          refl,
          is-taken true rests,
          sym (text-is rests),
        );
      }

      -- and the other way round
      pub written-below : Appends sink sink' (text_shown r)
          → IsMirrored source source' sink sink' (Ok tt)
      written-below appends =
          let is = is-taken true rests in
          known sink sink' (Ok tt) (inl (
            sym (end-rests (wire reads.read) true is.fault is.at_rest_is),
            subst (Appends sink sink') (sym (text-is rests)) appends,
          ))

      -- or a first part of it
      pub stopped-table : (fault : OutFault) → StopsWriting fault sink sink' (text_shown r)
          → Mirrored source source' sink sink' (Err (writing_refusal fault))
      stopped-table out.NoMemory stops = record {
        read = reads.read;
        ended = true;
        appended = stops.0.front;
        taken = reads.taken;
        written = stops.0.appended;
        within = reads.within;
        end = λ _. (reads.ends.1, reads.ends.2);
        table = (
          record { source = reads.ends.0; sink = stops.1 },
          record { rest = stops.0.rest; parts = text-is rests ∙ stops.0.parts },
        );
      }
      stopped-table out.WriteFault stops = record {
        read = reads.read;
        ended = true;
        appended = stops.0.front;
        taken = reads.taken;
        written = stops.0.appended;
        within = reads.within;
        end = λ _. (reads.ends.1, reads.ends.2);
        table = (
          reads.ends.0,
          stops.1,
          refl,
          is-taken true rests,
          record { rest = stops.0.rest; parts = text-is rests ∙ stops.0.parts },
        );
      }

      -- and the other way round
      pub stopped-below : (fault : OutFault) → StopsWriting fault sink sink' (text_shown r)
          → IsMirrored source source' sink sink' (Err (writing_refusal fault))
      stopped-below out.NoMemory stops =
          known sink sink' (Err NoMemory) (inr (
            refl,
            subst (AppendsPrefix sink sink') (sym (text-is rests)) stops.0,
          ))
      stopped-below out.WriteFault stops = λ input tells below calm calm'.
          absurd (calm' stops.1)
