-- What a replica shows of the bytes that it was fed with.
-- A field that isn't whole tells nothing yet (`more-at`), so a replica that has refused no field shows what comes of
-- no more bytes (`comes-short`). One piece more is fed as `fed-step` says, and so any pieces (`fed-all`); what is shown
-- then is what comes of all bytes (`shows`).
use Rattle.std.proofs.Common.{◌≡◌, ◌≢◌, ℕ, suc, ◌+◌, ◌-◌, ◌<◌, false, List, [], ◌∷◌, ◌++◌, length, take, drop, Some, None, Result, Ok, Err, refl, sym, ap, subst, ◌∙◌, arith, append_assoc, length-append}
use Rattle.std.specs.Prelude.{MatchResult, Option, cond, flat_map}
use Rattle.std.proofs.lemmas.Bool.{lt-ltb}
use Rattle.std.proofs.lemmas.List.{append-nil}
use Rattle.lattice.specs.declared.node.Node.{Node}
use Rattle.replicas.specs.declared.fault.WireFault.{WireFault}
use Rattle.replicas.specs.declared.fault.WireFault.TheVariants.{NoMemory}
use Rattle.replicas.specs.declared.stage.Stage.{Stage}
use Rattle.replicas.specs.declared.stage.Stage.TheVariants.{Tag, Base, EventCount, GoneCount, BlockCount, EventTag, Fields, Gone, BlockNode, KeyCount, TriangleCount, Vertex, Triangle, End}
use Rattle.replicas.specs.Fed.{FedInTurn, FedUpTo, IsFed, Shows, block_in, events_left, settings_left}
use Rattle.replicas.specs.Following.{Outcome, behind_head, ends, follow_all, proceed, stops, wire, with_patches}
use Rattle.replicas.specs.Held.{HeldState, world_held}
use Rattle.replicas.specs.Reading.{◌>>=◌, More, Reading, ReplicaWorld, block_at, event_at, event_size, field, gone_at, head_at, items, judge_head, judged, patch_at, triangle_at, vertex_at}
use Rattle.replicas.specs.Replicas.{Feeds, HasFed, HasStopped, IsReading, ReplicaState, TakesAll, block_shown, comes_of, events_shown, is_at_rest, new_replica, rests, settings_shown, shown}
use Rattle.replicas.specs.Stages.{DraftState, KeepsAt, is_tag, read_from, read_on, stage_size}
use Rattle.replicas.proofs.ReaderLemmas.{none-fed, reading}
use Rattle.replicas.proofs.ReplicaLemmas.{fed-then, stopped-then}

-- ---- a field that isn't whole
field-more : {A : Type 0} (n : ℕ) (judge : List ℕ → Result A WireFault) (bytes : List ℕ)
    → length bytes < n → field n judge bytes ≡ More
unfolding field
field-more n judge bytes short =
    ap (λ b. cond b More (judged (judge (take n bytes)) (drop n bytes))) (lt-ltb _ _ short)

-- what goes on behind it
more-then : {A B : Type 0} (r : Reading A) (f : A → List ℕ → Reading B) → r ≡ More
    → (r >>= f) ≡ More
more-then r f more = ap (λ x. x >>= f) more

-- items, of which one is still to come
items-more : {A : Type 0} (item : List A → List ℕ → Reading A) (a b : ℕ) (xs : List A)
    (bytes : List ℕ) → b < a → item xs bytes ≡ More → items item (a - b) xs bytes ≡ More
unfolding items
items-more item a b xs bytes some more =
    let is : a - b ≡ suc (a - (b + 1)) = omega (arith, some) in
    ap (λ k. items item k xs bytes) is
    ∙ ap (λ r. r >>= λ x rest. items item (a - (b + 1)) (xs ++ x ∷ []) rest) more

-- nothing is known of a patch whose next field isn't whole
more-at : (w : ReplicaWorld) (d : DraftState) (s : Stage) (bytes : List ℕ) → KeepsAt d s
    → length bytes < stage_size s → read_from w d s bytes ≡ More
unfolding patch_at block_at
more-at w d Tag bytes keeps short = more-then _ _ (field-more 1 _ bytes short)
more-at w d Base bytes keeps short = more-then _ _ (field-more 4 _ bytes short)
more-at w d EventCount bytes keeps short = more-then _ _ (field-more 4 _ bytes short)
more-at w d GoneCount bytes keeps short = more-then _ _ (field-more 4 _ bytes short)
more-at w d BlockCount bytes keeps short = more-then _ _ (field-more 4 _ bytes short)
more-at w d EventTag bytes keeps short =
    more-then _ _ (items-more (event_at w) d.counts.events (length d.events) d.events bytes keeps.0
    (more-then _ _ (field-more 1 _ bytes short)))
more-at w d (Fields tag) bytes keeps short =
    more-then _ _ (field-more (event_size tag) _ bytes short)
more-at w d Gone bytes keeps short =
    more-then _ _ (items-more (gone_at w) d.counts.gone (length d.gone) d.gone bytes keeps.0
    (field-more 7 _ bytes short))
more-at w d BlockNode bytes keeps short =
    more-then _ _ (items-more (block_at w) d.counts.blocks (length d.blocks) d.blocks bytes keeps.0
    (more-then _ _ (field-more 7 _ bytes short)))
more-at w d KeyCount bytes keeps short = more-then _ _ (field-more 4 _ bytes short)
more-at w d TriangleCount bytes keeps short = more-then _ _ (field-more 4 _ bytes short)
more-at w d Vertex bytes keeps short =
    more-then _ _ (more-then _ _ (items-more (vertex_at w) d.key_count (length d.keys) _ bytes
    keeps.1 (field-more 20 _ bytes short)))
more-at w d Triangle bytes keeps short =
    more-then _ _ (more-then _ _ (items-more (triangle_at d.key_count) d.triangle_count
    (length d.triangles) d.triangles bytes keeps.2 (field-more 12 _ bytes short)))
more-at w d End bytes keeps short = absurd (omega (arith, short))

-- no part of a patch stands exactly where its tag comes next
rests-short : (s : Stage) (bytes : List ℕ) → length bytes < stage_size s → rests s bytes ≡ is_tag s
rests-short Tag [] short = refl
rests-short Tag (b ∷ bytes) short = absurd (omega (arith, short))
rests-short s bytes short = refl

-- ---- what is shown where no field was refused
comes-none : (held : Option HeldState) (draft : DraftState) (field : List ℕ) (n : ℕ)
    → IsReading (reading held draft field n)
    → comes_of (reading held draft field n) []
    ≡ ends n (shown held) (is_at_rest (reading held draft field n))
comes-none None draft field n is =
    let bytes : field ++ [] ≡ field = append-nil field in
    let total : n + 0 ≡ n = omega arith in
    (λ i. behind_head (total i) (head_at (bytes i)))
    ∙ ap (behind_head n) (field-more 10 judge_head field is.short)
comes-none (Some h) draft field n is =
    let bytes : field ++ [] ≡ field = append-nil field in
    let total : n + 0 ≡ n = omega arith in
    let w = world_held h in
    (λ i. proceed (follow_all (total i)) (total i) w (rests draft.stage (bytes i))
    (read_on w draft (bytes i)))
    ∙ ap (proceed (follow_all n) n w (rests draft.stage field))
    (more-at w draft draft.stage field is.draft.keeps is.short)
    ∙ ap (ends n (Some w)) (rests-short draft.stage field is.short)

-- the same of any replica
comes-short : (r : ReplicaState) → r.fault ≡ None → IsReading r
    → comes_of r [] ≡ ends r.taken (shown r.held) (is_at_rest r)
comes-short r none is =
    subst (λ fault. comes_of (record r { fault = fault }) []
    ≡ ends r.taken (shown r.held) (is_at_rest (record r { fault = fault }))) (sym none)
    (comes-none r.held r.draft r.field r.taken
    (record { draft = is.draft; short = is.short }))

-- what comes of bytes is what comes of them behind no byte
wire-comes : (bytes : List ℕ) → wire bytes ≡ comes_of new_replica (bytes ++ [])
wire-comes bytes =
    let same : bytes ≡ bytes ++ [] = sym (append-nil bytes) in
    let long : length bytes ≡ 0 + length (bytes ++ []) = omega (arith, ap length same) in
    λ i. behind_head (long i) (head_at (same i))

-- ---- what is shown
-- its settings
settings-shown : (held : Option HeldState) (r : ReplicaState) → r.held ≡ held
    → settings_shown r ≡ settings_left (shown held)
settings-shown None r is = ap (λ h. settings_shown (record r { held = h })) is
settings-shown (Some h) r is = ap (λ h. settings_shown (record r { held = h })) is

-- its events
events-shown : (held : Option HeldState) (r : ReplicaState) → r.held ≡ held
    → events_shown r ≡ events_left (shown held)
events-shown None r is = ap (λ h. events_shown (record r { held = h })) is
events-shown (Some h) r is = ap (λ h. events_shown (record r { held = h })) is

-- its blocks
block-shown : (held : Option HeldState) (r : ReplicaState) (n : Node) → r.held ≡ held
    → block_shown r n ≡ block_in (shown held) n
block-shown None r n is = ap (λ h. block_shown (record r { held = h }) n) is
block-shown (Some h) r n is = ap (λ h. block_shown (record r { held = h }) n) is

-- a replica shows an outcome that has its world
shows-outcome : (r : ReplicaState) (o : Outcome) → o.world ≡ shown r.held
    → is_at_rest r ≡ o.at_rest → r.fault ≡ o.fault → r.taken ≡ o.taken → Shows r o
shows-outcome r o world at_rest fault taken = record {
  settings = settings-shown r.held r refl ∙ ap settings_left (sym world);
  events = events-shown r.held r refl ∙ ap events_left (sym world);
  block = λ n. block-shown r.held r n refl ∙ ap (λ w. block_in w n) (sym world);
  at_rest = at_rest;
  fault = fault;
  taken = taken;
}

-- a replica that stopped isn't at rest
off : (held : Option HeldState) (draft : DraftState) (field : List ℕ) (fault : WireFault) (n : ℕ)
    → is_at_rest (record {
      held = held;
      draft = draft;
      field = field;
      fault = Some fault;
      taken = n;
    }) ≡ false
off None draft field fault n = refl
off (Some h) draft field fault n = refl

-- the same of any replica
stopped-rests : (r : ReplicaState) (fault : WireFault) → r.fault ≡ Some fault
    → is_at_rest r ≡ false
stopped-rests r fault is =
    subst (λ f. is_at_rest (record r { fault = f }) ≡ false) (sym is)
    (off r.held r.draft r.field fault r.taken)

-- a replica shows what comes of the bytes that it was fed with
shows-at : (bytes : List ℕ) (r : ReplicaState) (fault : Option WireFault) → r.fault ≡ fault
    → FedUpTo fault bytes r → r.fault ≢ Some NoMemory → Shows r (wire bytes)
shows-at bytes r None none fed differ =
    let end = ends r.taken (shown r.held) (is_at_rest r) in
    let comes : wire bytes ≡ with_patches fed.0 end =
    wire-comes bytes ∙ fed.2.outcome []
    ∙ ap (with_patches fed.0) (comes-short r none fed.1) in
    subst (Shows r) (sym comes)
    (shows-outcome r (with_patches fed.0 end) refl refl none refl)
shows-at bytes r (Some fault) is stop differ =
    let other : fault ≢ NoMemory = λ same. differ (is ∙ ap (λ f. Some f) same) in
    let end = stops r.taken (shown r.held) fault in
    let comes : wire bytes ≡ with_patches stop.patches end =
    wire-comes bytes ∙ stop.refused other [] in
    subst (Shows r) (sym comes)
    (shows-outcome r (with_patches stop.patches end) refl (stopped-rests r fault is) is refl)

-- the same by its own fault
pub shows : (bytes : List ℕ) (r : ReplicaState) → IsFed bytes r → r.fault ≢ Some NoMemory
    → Shows r (wire bytes)
shows bytes r fed differ = shows-at bytes r r.fault refl fed differ

-- ---- pieces
-- a new replica
pub new-fed : IsFed [] new_replica
new-fed = (0, record { draft = refl; short = omega arith }, none-fed new_replica)

-- one piece more, where no field was refused before
took-step : (bytes piece : List ℕ) (old new : ReplicaState) (n : ℕ) (result : Result ℕ WireFault)
    → HasFed new_replica bytes n old → TakesAll old piece new result
    → MatchResult result (λ m. new.fault ≡ None) (λ fault. new.fault ≡ Some fault)
    → IsFed (bytes ++ piece) new
took-step bytes piece old new n (Ok m) fed takes is =
    subst (λ f. FedUpTo f (bytes ++ piece) new) (sym is)
    (n + m, takes.0, fed-then new_replica old bytes n fed new piece m takes.1)
took-step bytes piece old new n (Err fault) fed stop is =
    subst (λ f. FedUpTo f (bytes ++ piece) new) (sym is)
    (stopped-then new_replica old bytes n fed new piece fault stop)

-- bytes behind a field that was refused
stopped-more : (bytes piece : List ℕ) (old : ReplicaState) (fault : WireFault)
    → HasStopped new_replica bytes fault old → HasStopped new_replica (bytes ++ piece) fault old
stopped-more bytes piece old fault stop = record {
  patches = stop.patches;
  front = stop.front;
  rest = stop.rest ++ piece;
  parts = ap (λ xs. xs ++ piece) stop.parts ∙ append_assoc stop.front stop.rest piece;
  before = stop.before;
  fed = stop.fed;
  same = stop.same;
  within = omega (arith, stop.within, length-append bytes piece);
  refused = λ differ more.
      ap (comes_of new_replica) (append_assoc bytes piece more)
      ∙ stop.refused differ (piece ++ more);
}

-- what a piece does, by the fault before
abbrev FeedsAt : Option WireFault → ReplicaState → List ℕ → ReplicaState → Result ℕ WireFault
    → Type 0
FeedsAt was old piece new result = elim was [
  | None ↦
      TakesAll old piece new result
      × MatchResult result (λ _. new.fault ≡ None) (λ fault. new.fault ≡ Some fault)
  | Some fault ↦ (result ≡ Err fault) × (new ≡ old)
]

-- one piece more, by the fault before
step-at : (bytes piece : List ℕ) (old new : ReplicaState) (result : Result ℕ WireFault)
    (fault : Option WireFault) → old.fault ≡ fault → FedUpTo fault bytes old
    → FeedsAt fault old piece new result → IsFed (bytes ++ piece) new
step-at bytes piece old new result None was fed feeds =
    took-step bytes piece old new fed.0 result fed.2 feeds.0 feeds.1
step-at bytes piece old new result (Some fault) was stop feeds =
    subst (λ f. FedUpTo f (bytes ++ piece) new)
    (sym (ap (λ (r : ReplicaState). r.fault) feeds.1 ∙ was))
    (subst (HasStopped new_replica (bytes ++ piece) fault) (sym feeds.1)
    (stopped-more bytes piece old fault stop))

-- one piece more
pub fed-step : (bytes piece : List ℕ) (old new : ReplicaState) (result : Result ℕ WireFault)
    → IsFed bytes old → Feeds old piece new result → IsFed (bytes ++ piece) new
fed-step bytes piece old new result fed feeds =
    step-at bytes piece old new result old.fault refl fed feeds

-- any pieces
fed-all : (pieces : List (List ℕ)) (bytes : List ℕ) (old new : ReplicaState) → IsFed bytes old
    → FedInTurn pieces old new → IsFed (bytes ++ flat_map (λ piece. piece) pieces) new
fed-all [] bytes old new fed turn =
    subst (λ xs. IsFed xs new) (sym (append-nil bytes)) (subst (IsFed bytes) (sym turn) fed)
fed-all (piece ∷ pieces) bytes old new fed turn =
    subst (λ xs. IsFed xs new) (append_assoc bytes piece (flat_map (λ piece. piece) pieces))
    (fed-all pieces (bytes ++ piece) turn.0 new
    (fed-step bytes piece old turn.0 turn.1 fed turn.2) turn.3)

-- what is shown behind any pieces
pub all-shown : (pieces : List (List ℕ)) (r : ReplicaState) → FedInTurn pieces new_replica r
    → r.fault ≢ Some NoMemory → Shows r (wire (flat_map (λ piece. piece) pieces))
all-shown pieces r turn = shows (flat_map (λ piece. piece) pieces) r
    (fed-all pieces [] new_replica r new-fed turn)
