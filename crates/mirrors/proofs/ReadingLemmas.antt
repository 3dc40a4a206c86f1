-- A replica that is fed with a wire while it is read.
-- What was read so far is `HasRead`: it holds before the first piece (`read-none`) and each piece keeps it
-- (`read-more`). A piece with which a field is refused ends the reading (`read-refused`), and so do a read that fails
-- (`read-failed`), the end of the input (`read-whole`) and the limit (`read-limit`).
use Rattle.std.proofs.Common.{◌≡◌, ◌≢◌, ℕ, ◌+◌, ◌<◌, ◌≤◌, Bool, true, false, List, [], ◌++◌, length, Some, None, Result, Ok, Err, refl, sym, ap, subst, ◌∙◌, arith, inl, inr, length-append}
use Rattle.std.specs.Prelude.{◌&&◌, ◌⊎◌, MatchResult, Option}
use Rattle.std.specs.Io.KnownBytes.{IsAtEnd}
use Rattle.std.specs.Option.{is_none, is_some}
use Rattle.std.proofs.lemmas.Option.{same_Some, none-some}
use Rattle.std.proofs.lemmas.List.{append-nil}
use Rattle.terra_io.specs.Stream.{Stream, Yields, Fails, IsFaultless}
use Rattle.replicas.specs.declared.fault.WireFault.{WireFault}
use Rattle.replicas.specs.declared.fault.WireFault.TheVariants as faults
use Rattle.replicas.specs.Fed.{FedUpTo, IsFed, Shows}
use Rattle.replicas.specs.Following.{wire}
use Rattle.replicas.specs.Replicas.{Feeds, ReplicaState, TakesAll, is_at_rest, new_replica}
use Rattle.replicas.specs.Stages.{is_tag}
use Rattle.replicas.proofs.ShowLemmas.{fed-step, new-fed, shows}
use Rattle.mirrors.specs.declared.reading.TheConstants.{WIRE_LIMIT}
use Rattle.mirrors.specs.declared.refusal.MirrorRefusal.{MirrorRefusal}
use Rattle.mirrors.specs.declared.refusal.MirrorRefusal.TheVariants.{NoMemory, ReadFault, InputLimit, BadWire}
use Rattle.mirrors.specs.Reading.{FeedsPiece, IsRefusedAt, ReadsWire, piece_result}
use Rattle.mirrors.specs.Refusals.{refusal_of}
use Rattle.mirrors.proofs.InputLemmas.{HasFailed-after, Yields-append, Yields-kept, Yields-none}

-- so many bytes were read without a fault, a replica was fed with them, and no field was refused
pub record HasRead (source source' : Stream) (replica : ReplicaState) (count : ℕ) : Type 0 where
  pub read : List ℕ
  pub taken : Yields source source' read
  pub faultless : IsFaultless source source'
  pub long : length read ≡ count
  pub within : count ≤ WIRE_LIMIT
  pub whole : replica.fault ≡ None
  pub fed : IsFed read replica

-- none were read
pub read-none : (s : Stream) → HasRead s s new_replica 0
read-none s = record {
  read = [];
  taken = Yields-none s;
  faultless = refl;
  long = refl;
  within = omega arith;
  whole = refl;
  fed = new-fed;
}

-- a replica that has refused no field took all bytes
fed-at : (bytes : List ℕ) (r : ReplicaState) (fault : Option WireFault) → fault ≡ None
    → FedUpTo fault bytes r → r.taken ≡ length bytes
fed-at bytes r None is fed = omega (arith, fed.2.taken)
fed-at bytes r (Some fault) is fed = absurd (none-some fault (sym is))

-- so many as were read
pub read-taken : (source source' : Stream) (r : ReplicaState) (count : ℕ)
    → HasRead source source' r count → r.taken ≡ count
read-taken source source' r count so_far =
    fed-at so_far.read r r.fault so_far.whole so_far.fed ∙ so_far.long

-- it shows what comes of them
pub read-shows : (bytes : List ℕ) (r : ReplicaState) → r.fault ≡ None → IsFed bytes r
    → Shows r (wire bytes)
read-shows bytes r whole fed =
    shows bytes r fed (λ same. none-some faults.NoMemory (sym whole ∙ same))

-- ---- a piece
-- what a piece does, by the fault before
abbrev FeedsAt : Option WireFault → ReplicaState → List ℕ → ReplicaState → Result ℕ WireFault
    → Type 0
FeedsAt was old piece new result = elim was [
  | None ↦
      TakesAll old piece new result
      × MatchResult result (λ _. new.fault ≡ None) (λ fault. new.fault ≡ Some fault)
  | Some fault ↦ (result ≡ Err fault) × (new ≡ old)
]

-- the fault behind it, where there was none before
fault-behind : (old new : ReplicaState) (piece : List ℕ) (result : Result ℕ WireFault)
    → old.fault ≡ None → Feeds old piece new result
    → MatchResult result (λ _. new.fault ≡ None) (λ fault. new.fault ≡ Some fault)
fault-behind old new piece result whole feeds =
    let at : FeedsAt None old piece new result =
    subst (λ was. FeedsAt was old piece new result) whole feeds in at.1

-- a piece that was taken gives no refusal, and one that wasn't gives one
piece-taken : (old new : ReplicaState) (piece : List ℕ) (fed : Result ℕ WireFault)
    → old.fault ≡ None → Feeds old piece new fed → Ok tt ≡ piece_result new.taken fed
    → new.fault ≡ None
piece-taken old new piece (Ok patches) whole feeds is =
    fault-behind old new piece (Ok patches) whole feeds
piece-taken old new piece (Err fault) whole feeds is = absurd (cc)

-- one piece more
pub read-more : (source mid new : Stream) (old r : ReplicaState) (count n : ℕ) (piece : List ℕ)
    → HasRead source mid old count → Yields mid new piece → IsFaultless mid new
    → length piece ≡ n → count + n ≤ WIRE_LIMIT → FeedsPiece old piece r (Ok tt)
    → HasRead source new r (count + n)
read-more source mid new old r count n piece so_far yields faultless long within feeds = record {
  read = so_far.read ++ piece;
  taken = Yields-append source mid new so_far.read piece so_far.taken yields;
  faultless = faultless ∙ so_far.faultless;
  long = omega (arith, length-append so_far.read piece, so_far.long, long);
  within = within;
  whole = piece-taken old r piece feeds.0 so_far.whole feeds.1 feeds.2;
  fed = fed-step so_far.read piece old r feeds.0 so_far.fed feeds.1;
}

-- ---- a refusal
-- no replica is at rest behind one
off-by : (held tag : Bool) → (held && false && tag) ≡ false
off-by true tag = refl
off-by false tag = refl

-- the same of a replica
stopped-rests : (r : ReplicaState) (fault : WireFault) → r.fault ≡ Some fault
    → is_at_rest r ≡ false
stopped-rests r fault is =
    ap (λ f. is_some r.held && is_none f && is_tag r.draft.stage) is
    ∙ off-by (is_some r.held) (is_tag r.draft.stage)

-- bytes that come behind a field that was refused change nothing
feeds-more : (r : ReplicaState) (more : List ℕ) (fault : WireFault) → r.fault ≡ Some fault
    → Feeds r more r (Err fault)
feeds-more r more fault is =
    let at : FeedsAt (Some fault) r more r (Err fault) = (refl, refl) in
    subst (λ was. FeedsAt was r more r (Err fault)) (sym is) at

-- a field is refused, whatever comes behind it
refused-at : (bytes : List ℕ) (r : ReplicaState) (fault : WireFault) → r.fault ≡ Some fault
    → IsFed bytes r → fault ≢ faults.NoMemory → IsRefusedAt r.taken fault bytes
refused-at bytes r fault is fed other =
    let shown : (more : List ℕ) → Shows r (wire (bytes ++ more)) =
    λ more. shows (bytes ++ more) r
    (fed-step bytes more r r (Err fault) fed (feeds-more r more fault is))
    (λ same. other (same_Some fault faults.NoMemory (sym is ∙ same))) in
    record {
      fault_is = λ more. sym (shown more).fault ∙ is;
      taken_is = λ more. sym (shown more).taken;
      rests = λ more. sym (shown more).at_rest ∙ stopped-rests r fault is;
      other = other;
    }

-- a fault is out of memory, or it refuses a field
which : (at : ℕ) (fault : WireFault)
    → (refusal_of at fault ≡ NoMemory)
    ⊎ ((fault ≢ faults.NoMemory) × (refusal_of at fault ≡ BadWire at fault))
which at faults.NoMemory = inl refl
which at faults.BadHead = inr ((λ is. cc), refl)
which at faults.BadTag = inr ((λ is. cc), refl)
which at faults.BadBase = inr ((λ is. cc), refl)
which at faults.BadCount = inr ((λ is. cc), refl)
which at faults.BadEvent = inr ((λ is. cc), refl)
which at faults.BadNode = inr ((λ is. cc), refl)
which at faults.BadVertex = inr ((λ is. cc), refl)
which at faults.BadTriangle = inr ((λ is. cc), refl)

-- bytes were read, of which a replica refuses a field, or memory ran out
stops-reading : (source source' : Stream) (bytes : List ℕ) (r : ReplicaState) (fault : WireFault)
    → Yields source source' bytes → IsFaultless source source' → length bytes ≤ WIRE_LIMIT
    → r.fault ≡ Some fault → IsFed bytes r
    → ReadsWire source source' (Err (refusal_of r.taken fault))
stops-reading source source' bytes r fault yields faultless within is fed =
    elim (which r.taken fault) [
      | inl none ↦ subst (λ refusal. ReadsWire source source' (Err refusal)) (sym none) (record {
        read = bytes;
        taken = yields;
        within = within;
        ends = faultless;
      })
      | inr bad ↦
          subst (λ refusal. ReadsWire source source' (Err refusal)) (sym bad.1) (record {
            read = bytes;
            taken = yields;
            within = within;
            ends = (faultless, refused-at bytes r fault is fed bad.0);
          })
    ]

-- the refusal of a result, or another one
refusal_in : Result (Unit {0}) MirrorRefusal → MirrorRefusal
refusal_in (Ok done) = NoMemory
refusal_in (Err refusal) = refusal

-- the same of a piece
stops-with : (source source' : Stream) (bytes piece : List ℕ) (old r : ReplicaState)
    (fed : Result ℕ WireFault) (refusal : MirrorRefusal)
    → Yields source source' (bytes ++ piece) → IsFaultless source source'
    → length (bytes ++ piece) ≤ WIRE_LIMIT → old.fault ≡ None → IsFed (bytes ++ piece) r
    → Feeds old piece r fed → Err refusal ≡ piece_result r.taken fed
    → ReadsWire source source' (Err refusal)
unfolding refusal_in
stops-with source source' bytes piece old r (Ok n) refusal yields faultless within whole all feeds
    is = absurd (cc)
stops-with source source' bytes piece old r (Err fault) refusal yields faultless within whole all
    feeds is =
    subst (λ r. ReadsWire source source' (Err r)) (sym (ap refusal_in is))
    (stops-reading source source' (bytes ++ piece) r fault yields faultless within
    (fault-behind old r piece (Err fault) whole feeds) all)

-- one piece more, with which a field is refused or memory ran out
pub read-refused : (source mid new : Stream) (old r : ReplicaState) (count n : ℕ) (piece : List ℕ)
    (refusal : MirrorRefusal)
    → HasRead source mid old count → Yields mid new piece → IsFaultless mid new
    → length piece ≡ n → count + n ≤ WIRE_LIMIT → FeedsPiece old piece r (Err refusal)
    → ReadsWire source new (Err refusal)
read-refused source mid new old r count n piece refusal so_far yields faultless long within feeds =
    let few : length (so_far.read ++ piece) ≤ WIRE_LIMIT =
    omega (arith, length-append so_far.read piece, so_far.long, long, within) in
    stops-with source new so_far.read piece old r feeds.0 refusal
    (Yields-append source mid new so_far.read piece so_far.taken yields)
    (faultless ∙ so_far.faultless) few so_far.whole
    (fed-step so_far.read piece old r feeds.0 so_far.fed feeds.1) feeds.1 feeds.2

-- ---- the other ends
-- memory ran out before anything was read
pub read-nothing : (s : Stream) → ReadsWire s s (Err NoMemory)
read-nothing s = record {
  read = [];
  taken = Yields-none s;
  within = omega arith;
  ends = refl;
}

-- a read failed
pub read-failed : (source mid new : Stream) (r : ReplicaState) (count : ℕ)
    → HasRead source mid r count → Fails mid new → ReadsWire source new (Err ReadFault)
read-failed source mid new r count so_far fails = record {
  read = so_far.read;
  taken = Yields-kept source mid new so_far.read so_far.taken fails;
  within = omega (arith, so_far.long, so_far.within);
  ends = (
    HasFailed-after source mid new so_far.faultless fails.failed,
    sym (read-shows so_far.read r so_far.whole so_far.fed).fault ∙ so_far.whole,
  );
}

-- the end was seen
pub read-whole : (source mid new : Stream) (r : ReplicaState) (count : ℕ) (piece : List ℕ)
    → HasRead source mid r count → Yields mid new piece → IsFaultless mid new → piece ≡ []
    → IsAtEnd new.bytes → count < WIRE_LIMIT → ReadsWire source new (Ok r)
read-whole source mid new r count piece so_far yields faultless none end below = record {
  read = so_far.read;
  taken = subst (Yields source new) (append-nil so_far.read)
      (Yields-append source mid new so_far.read [] so_far.taken
      (subst (Yields mid new) none yields));
  within = omega (arith, so_far.long, so_far.within);
  ends = (
    faultless ∙ so_far.faultless,
    end,
    omega (arith, so_far.long, below),
    so_far.whole,
    so_far.fed,
  );
}

-- so many bytes were read as may be
pub read-limit : (source source' : Stream) (r : ReplicaState) (count : ℕ)
    → HasRead source source' r count → WIRE_LIMIT ≤ count
    → ReadsWire source source' (Err InputLimit)
read-limit source source' r count so_far above = record {
  read = so_far.read;
  taken = so_far.taken;
  within = omega (arith, so_far.long, so_far.within);
  ends = (
    so_far.faultless,
    omega (arith, so_far.long, so_far.within, above),
    sym (read-shows so_far.read r so_far.whole so_far.fed).fault ∙ so_far.whole,
  );
}
