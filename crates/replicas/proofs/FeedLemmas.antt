-- What comes of a field that was read: what comes behind it.
-- First the equations: behind a head (`head-fed`, `head-stops`), behind a field of a patch that goes on (`field-fed`),
-- that is whole (`patch-fed`) or that is refused (`field-stops`). Then what a reader says of a field: `head-read`,
-- `field-read`, `patch-read`, and where it fails `head-refused`, `field-refused` and `no-memory`.
use Rattle.std.proofs.Common.{◌≡◌, ◌≢◌, ℕ, zero, suc, ◌-◌, ◌<◌, ◌^◌, Bool, true, false, List, [], ◌∷◌, ◌++◌, length, map, All, Some, None, Result, Ok, Err, refl, sym, ap, subst, ◌∙◌, arith, zero-add}
use Rattle.std.specs.Prelude.{◌&&◌, OnOk, Option}
use Rattle.std.proofs.lemmas.List.{get_or-map, length-map}
use Rattle.std.proofs.lemmas.List.Elements.{All-nil}
use Rattle.std.proofs.lemmas.Nat.{pow_pos}
use Rattle.lattice.specs.declared.node.Node.{Node}
use Rattle.lattice.specs.declared.settings.Settings.{Settings}
use Rattle.lattice.specs.Node.{IsNode}
use Rattle.node_tables.specs.NodeSlots.{item_at}
use Rattle.terrain.specs.declared.event.Event.{Event}
use Rattle.replicas.specs.declared.fault.WireFault.{WireFault}
use Rattle.replicas.specs.declared.fault.WireFault.TheVariants.{NoMemory}
use Rattle.replicas.specs.declared.stage.Stage.{Stage}
use Rattle.replicas.specs.declared.stage.Stage.TheVariants.{Tag, Base, EventCount, GoneCount, BlockCount, EventTag, Fields, Gone, BlockNode, KeyCount, TriangleCount, Vertex, Triangle, End}
use Rattle.replicas.specs.Drafts.{ReadsPart}
use Rattle.replicas.specs.Following.{Outcome, behind_patch, behind_head, follow_all, has_none, opening_world, proceed, put_last, stops, with_patches, without}
use Rattle.replicas.specs.Grammar.{WireBlock}
use Rattle.replicas.specs.Held.{HeldState, world_held}
use Rattle.replicas.specs.Reading.{ReplicaWorld, edits_of, event_size, judge_head}
use Rattle.replicas.specs.Replicas.{ReadsField, goes_on, rests, shown}
use Rattle.replicas.specs.Stages.{DraftState, HasBegun, IsDraft, draft_patch, is_tag, new_draft, read_from, read_on, stage_size}
use Rattle.replicas.proofs.FollowLemmas.{follow_all-step}
use Rattle.replicas.proofs.StageLemmas.{edits_of-append, field-err, field-ok}

-- no patch more
pub with-none : (o : Outcome) → o ≡ with_patches 0 o
with-none o = λ i. record o { patches = sym (zero-add o.patches) i }

-- a test that fails with another one
and-false : (a : Bool) → (a && false) ≡ false
and-false true = refl
and-false false = refl

-- bytes behind some
not_none : (f more : List ℕ) → 0 < length f → has_none (f ++ more) ≡ false
not_none [] more some = absurd (omega (arith, some))
not_none (b ∷ f) more some = refl

-- the fields of an event have a byte, but for an undo
event_has_bytes : (tag : ℕ) → tag < 6 → 0 < event_size tag
event_has_bytes zero small = omega arith
event_has_bytes (suc zero) small = omega arith
event_has_bytes (suc (suc zero)) small = omega arith
event_has_bytes (suc (suc (suc zero))) small = omega arith
event_has_bytes (suc (suc (suc (suc zero)))) small = omega arith
event_has_bytes (suc (suc (suc (suc (suc zero))))) small = omega arith
event_has_bytes (suc (suc (suc (suc (suc (suc tag)))))) small = absurd (omega (arith, small))

-- each field of a patch that has begun has a byte
pub stage_has_bytes : (s : Stage) → HasBegun s → (s ≡ End → ⊥) → 0 < stage_size s
stage_has_bytes Tag begun other = absurd begun
stage_has_bytes Base begun other = omega arith
stage_has_bytes EventCount begun other = omega arith
stage_has_bytes GoneCount begun other = omega arith
stage_has_bytes BlockCount begun other = omega arith
stage_has_bytes EventTag begun other = omega arith
stage_has_bytes (Fields tag) begun other = event_has_bytes tag begun
stage_has_bytes Gone begun other = omega arith
stage_has_bytes BlockNode begun other = omega arith
stage_has_bytes KeyCount begun other = omega arith
stage_has_bytes TriangleCount begun other = omega arith
stage_has_bytes Vertex begun other = omega arith
stage_has_bytes Triangle begun other = omega arith
stage_has_bytes End begun other = absurd (other refl)

-- no tag of a patch comes next in one that has begun
not_tag : (s : Stage) → HasBegun s → is_tag s ≡ false
not_tag Tag begun = absurd begun
not_tag Base begun = refl
not_tag EventCount begun = refl
not_tag GoneCount begun = refl
not_tag BlockCount begun = refl
not_tag EventTag begun = refl
not_tag (Fields tag) begun = refl
not_tag Gone begun = refl
not_tag BlockNode begun = refl
not_tag KeyCount begun = refl
not_tag TriangleCount begun = refl
not_tag Vertex begun = refl
not_tag Triangle begun = refl
not_tag End begun = refl

-- ---- the head
-- a head that is taken
pub head-fed : (f : List ℕ) (s : Settings) (h : HeldState) → length f ≡ 10 → judge_head f ≡ Ok s
    → world_held h ≡ opening_world s → (total : ℕ) (more : List ℕ)
    → goes_on None (new_draft 0) total (f ++ more)
    ≡ with_patches 0 (goes_on (Some h) (new_draft 0) total more)
head-fed f s h long ok world total more =
    ap (behind_head total) (field-ok 10 judge_head f more s long ok)
    ∙ ap (λ w. follow_all total w more) (sym world)
    ∙ follow_all-step total (world_held h) more
    ∙ with-none _

-- or refused
pub head-stops : (f : List ℕ) (fault : WireFault) → length f ≡ 10 → judge_head f ≡ Err fault
    → (total : ℕ) (more : List ℕ)
    → goes_on None (new_draft 0) total (f ++ more) ≡ stops (total - length more) None fault
head-stops f fault long err total more =
    ap (behind_head total) (field-err 10 judge_head f more fault long err)

-- ---- a field of a patch
module _ (h : HeldState) (d : DraftState) (f : List ℕ) (some : 0 < length f) where
  -- the field isn't the last one
  pub field-fed : (new : DraftState) → ReadsPart (world_held h) d f new (Ok tt)
      → HasBegun new.stage → (total : ℕ) (more : List ℕ)
      → goes_on (Some h) d total (f ++ more) ≡ with_patches 0 (goes_on (Some h) new total more)
  field-fed new reads begun total more =
      let F = follow_all total in
      let w = world_held h in
      let off : rests d.stage (f ++ more) ≡ false =
      ap (λ b. is_tag d.stage && b) (not_none f more some) ∙ and-false (is_tag d.stage) in
      let off' : rests new.stage more ≡ false =
      ap (λ b. b && has_none more) (not_tag new.stage begun) in
      ap (λ r. proceed F total w (rests d.stage (f ++ more)) r) (reads.1 more)
      ∙ ap (λ b. proceed F total w b (read_on w new more)) (off ∙ sym off')
      ∙ with-none _

  -- it is the last one, and the patch takes effect
  pub patch-fed : (new : DraftState) (h' : HeldState) (edits : ℕ)
      → ReadsPart (world_held h) d f new (Ok tt) → new.stage ≡ End
      → world_held h' ≡ behind_patch (world_held h) (draft_patch new)
      → (total : ℕ) (more : List ℕ)
      → goes_on (Some h) d total (f ++ more)
      ≡ with_patches 1 (goes_on (Some h') (new_draft edits) total more)
  patch-fed new h' edits reads end world total more =
      let F = follow_all total in
      let w = world_held h in
      ap (λ r. proceed F total w (rests d.stage (f ++ more)) r)
      (reads.1 more ∙ ap (λ s. read_from w new s more) end)
      ∙ ap (with_patches 1) (ap (λ v. follow_all total v more) (sym world)
      ∙ follow_all-step total (world_held h') more)

  -- it is refused
  pub field-stops : (new : DraftState) (fault : WireFault)
      → ReadsPart (world_held h) d f new (Err fault) → fault ≢ NoMemory
      → (total : ℕ) (more : List ℕ)
      → goes_on (Some h) d total (f ++ more)
      ≡ stops (total - length more) (Some (world_held h)) fault
  field-stops new fault reads other total more =
      ap (λ r. proceed (follow_all total) total (world_held h) (rests d.stage (f ++ more)) r)
      (reads other more)

-- ---- a patch takes effect
-- what follows from three facts of an outcome that is no error
pub on-ok : {X E A B C D : Type 0} (r : Result X E) → (A → B → C → D) → OnOk r A → OnOk r B
    → OnOk r C → OnOk r D
on-ok (Ok x) then a b c = then a b c
on-ok (Err e) then a b c = tt

-- what holds of the images of items
pub All-of-map : {X Y : Type 0} (P : Y → Type 0) (f : X → Y) (xs : List X) → All P (map f xs)
    → All (λ x. P (f x)) xs
All-of-map P f xs all = λ k x below.
    subst P (get_or-map f xs k x (f x) below) (all k (f x) (omega (arith, length-map xs f, below)))

-- the world after a patch, by its parts
pub world-after : (h new : HeldState) (d : DraftState) (events : List Event) (gone : List Node)
    (blocks : List WireBlock) → events ≡ d.events → gone ≡ d.gone → blocks ≡ d.blocks
    → new.settings ≡ h.settings → new.events ≡ h.events ++ events
    → ((n : Node) → item_at new.blocks n ≡ put_last blocks n (without gone n (item_at h.blocks n)))
    → world_held new ≡ behind_patch (world_held h) (draft_patch d)
world-after h new d events gone blocks events_are gone_are blocks_are settings added put =
    let all : new.events ≡ h.events ++ d.events = added ∙ ap (λ es. h.events ++ es) events_are in
    let slots : (n : Node)
    → item_at new.blocks n ≡ put_last d.blocks n (without d.gone n (item_at h.blocks n)) =
    λ n. put n ∙ (λ i. put_last (blocks_are i) n (without (gone_are i) n (item_at h.blocks n))) in
    λ i. record { settings = settings i; events = all i; block = λ n. slots n i }

-- ---- what a reader says of a field
-- the node of a draft that has read no block
node_in : (depth : ℕ) → IsNode depth (record { level = 0; k = 0; j = 0; i = 0 })
node_in depth =
    let some : 0 < 2 ^ (depth - 0) = pow_pos (depth - 0) in
    record { level = omega arith; k = some; j = some; i = some }

-- a draft before the first byte of a patch
opening-draft : (w : ReplicaWorld) (edits : ℕ) → edits ≡ edits_of w.events 0
    → IsDraft w (new_draft edits)
opening-draft w edits counted = record {
  keeps = (refl, (refl, (refl, (refl, refl, refl))));
  node = node_in w.settings.depth;
  nodes = All-nil _;
  edits = counted;
}

-- what a head opens
pub opened : (h : HeldState) (s : Settings) → h.settings ≡ s → h.events ≡ []
    → ((n : Node) → item_at h.blocks n ≡ (opening_world s).block n)
    → world_held h ≡ opening_world s
opened h s settings events blocks =
    λ i. record { settings = settings i; events = events i; block = λ n. blocks n i }

-- out of memory, where what is shown stays
pub no-memory : (a b : Option HeldState) (d new : DraftState) (f : List ℕ) (fault : WireFault)
    → shown b ≡ shown a → fault ≡ NoMemory → ReadsField a d f b new (Err fault)
no-memory a b d new f fault same is = (same, λ differ. absurd (differ is))

-- a head that is taken
pub head-read : (f : List ℕ) (s : Settings) (h : HeldState) (d : DraftState) → d ≡ new_draft 0
    → length f ≡ 10 → judge_head f ≡ Ok s → world_held h ≡ opening_world s
    → ReadsField None d f (Some h) d (Ok false)
head-read f s h d is long ok world =
    let none : 0 ≡ edits_of (world_held h).events 0 =
    sym (ap (λ (w : ReplicaWorld). edits_of w.events 0) world) in (
      subst (IsDraft (world_held h)) (sym is) (opening-draft (world_held h) 0 none),
      subst (λ (e : DraftState). 0 < stage_size e.stage) (sym is) (omega arith),
      λ total more. head-fed f s h long ok world total more
          ∙ ap (λ (e : DraftState). with_patches 0 (goes_on (Some h) e total more)) (sym is),
    )

-- or refused
pub head-refused : (f : List ℕ) (fault : WireFault) (d new : DraftState) → length f ≡ 10
    → judge_head f ≡ Err fault → ReadsField None d f None new (Err fault)
head-refused f fault d new long err =
    (refl, λ differ total more. head-stops f fault long err total more)

module _ (h : HeldState) (d : DraftState) (f : List ℕ) (some : 0 < length f) where
  -- a field that isn't the last one of its patch
  pub field-read : (new : DraftState) → ReadsPart (world_held h) d f new (Ok tt)
      → HasBegun new.stage
      → (new.stage ≡ End → ⊥) → ReadsField (Some h) d f (Some h) new (Ok false)
  field-read new reads begun other = (
    reads.0,
    stage_has_bytes new.stage begun other,
    field-fed h d f some new reads begun,
  )

  -- the last one
  pub patch-read : (mid new : DraftState) (h' : HeldState) → ReadsPart (world_held h) d f mid
      (Ok tt)
      → mid.stage ≡ End → world_held h' ≡ behind_patch (world_held h) (draft_patch mid)
      → new ≡ new_draft mid.edits → ReadsField (Some h) d f (Some h') new (Ok true)
  patch-read mid new h' reads end world is =
      let counted : mid.edits ≡ edits_of (world_held h').events 0 =
      reads.0.edits ∙ sym (edits_of-append (world_held h).events mid.events 0)
      ∙ ap (λ (w : ReplicaWorld). edits_of w.events 0) (sym world) in (
        subst (IsDraft (world_held h')) (sym is) (opening-draft (world_held h') mid.edits counted),
        subst (λ (e : DraftState). 0 < stage_size e.stage) (sym is) (omega arith),
        λ total more. patch-fed h d f some mid h' mid.edits reads end world total more
            ∙ ap (λ (e : DraftState). with_patches 1 (goes_on (Some h') e total more)) (sym is),
      )

  -- one that is refused
  pub field-refused : (new : DraftState) (fault : WireFault)
      → ReadsPart (world_held h) d f new (Err fault)
      → ReadsField (Some h) d f (Some h) new (Err fault)
  field-refused new fault reads =
      (refl, λ differ total more. field-stops h d f some new fault reads differ total more)
