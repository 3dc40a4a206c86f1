-- Pieces, cut into fields.
-- Bytes within a field are kept (`part-fed`); a field that comes whole is read (`field-taken`), or refused
-- (`field-stopped`). A piece is taken from its front on (`HasCome`): nothing of it before the first field
-- (`come-none`), then one field more (`come-more`), up to a field that is refused (`come-stopped`) or to its end
-- (`come-all`).
use Rattle.std.proofs.Common.{◌≡◌, ℕ, ◌+◌, ◌-◌, ◌<◌, ◌≤◌, Bool, true, false, List, [], ◌++◌, length, take, drop, None, Ok, Err, refl, sym, ap, subst, ◌∙◌, arith, append_assoc, length-append}
use Rattle.std.specs.Prelude.{if◌then◌else◌, Option}
use Rattle.std.proofs.lemmas.List.{append-nil, length-take-le, take-append-drop}
use Rattle.replicas.specs.declared.fault.WireFault.{WireFault}
use Rattle.replicas.specs.Following.{stops}
use Rattle.replicas.specs.Held.{HeldState}
use Rattle.replicas.specs.Replicas.{HasFed, HasStopped, IsReading, ReadsField, ReplicaState, TakesAll, comes_of, goes_on, shown}
use Rattle.replicas.specs.Stages.{DraftState}
use Rattle.replicas.proofs.FeedLemmas.{with-none}
use Rattle.replicas.proofs.ReplicaLemmas.{fed-then, stopped-then}

-- a replica that has refused no field
abbrev pub reading : Option HeldState → DraftState → List ℕ → ℕ → ReplicaState
reading held draft field taken =
    record { held = held; draft = draft; field = field; fault = None; taken = taken }

-- no bytes
pub none-fed : (a : ReplicaState) → HasFed a [] 0 a
none-fed a = record { taken = omega arith; outcome = λ more. with-none (comes_of a more) }

-- ---- a field
module _ (held : Option HeldState) (draft : DraftState) (field : List ℕ) (n : ℕ) where
  -- bytes within it
  pub part-fed : (bytes after : List ℕ) (m : ℕ) → m ≡ n + length bytes → after ≡ field ++ bytes
      → HasFed (reading held draft field n) bytes 0 (reading held draft after m)
  part-fed bytes after m taken is = record {
    taken = taken;
    outcome = λ more.
        (let total : n + length (bytes ++ more) ≡ m + length more =
        omega (arith, taken, length-append bytes more) in
        let all : field ++ (bytes ++ more) ≡ after ++ more =
        sym (append_assoc field bytes more) ∙ ap (λ xs. xs ++ more) (sym is) in
        (λ i. goes_on held draft (total i) (all i))
        ∙ with-none (goes_on held draft (m + length more) (after ++ more)));
  }

  -- its last bytes
  pub field-taken : (last : List ℕ) (held' : Option HeldState) (draft' : DraftState) (m : ℕ)
      (whole : Bool) → m ≡ n + length last
      → ReadsField held draft (field ++ last) held' draft' (Ok whole)
      → HasFed (reading held draft field n) last (if whole then 1 else 0)
      (reading held' draft' [] m)
  field-taken last held' draft' m whole taken reads = record {
    taken = taken;
    outcome = λ more.
        (let total : n + length (last ++ more) ≡ m + length more =
        omega (arith, taken, length-append last more) in
        (λ i. goes_on held draft (total i) (sym (append_assoc field last more) i))
        ∙ reads.2 (m + length more) more);
  }

  -- its last bytes, where it is refused
  pub field-stopped : (bytes last rest after : List ℕ) (held' : Option HeldState)
      (draft' : DraftState) (m : ℕ) (fault : WireFault) → bytes ≡ last ++ rest
      → m ≡ n + length last → ReadsField held draft (field ++ last) held' draft' (Err fault)
      → HasStopped (reading held draft field n) bytes fault (reading held' draft' after m)
  field-stopped bytes last rest after held' draft' m fault parts taken reads = record {
    patches = 0;
    front = [];
    rest = bytes;
    parts = refl;
    before = reading held draft field n;
    fed = none-fed (reading held draft field n);
    same = reads.0;
    within = omega (arith, taken, ap length parts, length-append last rest);
    refused = λ differ more.
        (let behind = rest ++ more in
        let all : bytes ++ more ≡ last ++ behind =
        ap (λ xs. xs ++ more) parts ∙ append_assoc last rest more in
        let whole : field ++ (bytes ++ more) ≡ (field ++ last) ++ behind =
        ap (λ xs. field ++ xs) all ∙ sym (append_assoc field last behind) in
        let total = n + length (bytes ++ more) in
        let left : total - length behind ≡ m =
        omega (arith, taken, ap length all, length-append last behind) in
        ap (goes_on held draft total) whole
        ∙ reads.1 differ total behind
        ∙ ap (λ k. stops k (shown held') fault) left
        ∙ with-none (stops m (shown held') fault));
  }

-- ---- a piece
-- of a piece these bytes are left to take, and so many patches took effect with those that were taken
pub record HasCome (old : ReplicaState) (piece : List ℕ) (new : ReplicaState) (rest : List ℕ)
    (patches : ℕ) : Type 0 where
  pub front : List ℕ
  pub parts : piece ≡ front ++ rest
  pub few : patches ≤ length front
  pub reading : IsReading new
  pub fed : HasFed old front patches new

module _ (old : ReplicaState) (piece : List ℕ) where
  -- none was taken
  pub come-none : IsReading old → HasCome old piece old piece 0
  come-none reading = record {
    front = [];
    parts = refl;
    few = omega arith;
    reading = reading;
    fed = none-fed old;
  }

  -- some more were
  pub come-more : (mid new : ReplicaState) (rest left : List ℕ) (patches all : ℕ) (count : ℕ)
      (whole : Bool) → HasCome old piece mid rest patches → 0 < count → count ≤ length rest
      → IsReading new → HasFed mid (take count rest) (if whole then 1 else 0) new
      → left ≡ drop count rest → all ≡ patches + (if whole then 1 else 0)
      → HasCome old piece new left all
  come-more mid new rest left patches all count whole come some most reading fed is sum =
      let first = take count rest in
      let long : length first ≡ count = length-take-le count rest most in
      let one : (if whole then 1 else 0) ≤ 1 =
      elim whole as (λ b. (if b then 1 else 0) ≤ 1) [ true ↦ omega arith | false ↦ omega arith ] in
      record {
        front = come.front ++ first;
        parts = come.parts ∙ ap (λ xs. come.front ++ xs) (sym (take-append-drop count rest))
            ∙ sym (append_assoc come.front first (drop count rest))
            ∙ ap (λ xs. (come.front ++ first) ++ xs) (sym is);
        few = omega (arith, come.few, sum, one, some, long, length-append come.front first);
        reading = reading;
        fed = subst (λ n. HasFed old (come.front ++ first) n new) (sym sum)
            (fed-then old mid come.front patches come.fed new first (if whole then 1 else 0) fed);
      }

  -- a field was refused
  pub come-stopped : (mid new : ReplicaState) (rest : List ℕ) (patches : ℕ) (fault : WireFault)
      → HasCome old piece mid rest patches → HasStopped mid rest fault new
      → HasStopped old piece fault new
  come-stopped mid new rest patches fault come stop =
      subst (λ bytes. HasStopped old bytes fault new) (sym come.parts)
      (stopped-then old mid come.front patches come.fed new rest fault stop)

  -- all were taken
  pub come-all : (new : ReplicaState) (rest : List ℕ) (patches : ℕ)
      → HasCome old piece new rest patches → rest ≡ [] → TakesAll old piece new (Ok patches)
  come-all new rest patches come none = (
    come.reading,
    subst (λ bytes. HasFed old bytes patches new)
        (sym (come.parts ∙ ap (λ xs. come.front ++ xs) none ∙ append-nil come.front)) come.fed,
  )
