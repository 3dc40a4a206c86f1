-- What a draft reads of a field, whatever comes behind the field.
-- A field that has come whole is judged by itself (`field-ok`, `field-err`), and so an item of a list (`items-more`).
-- Behind the last item of a list the next list is read: what comes next by the counts (`events-settled`, and so on) is
-- what the definition reads from there on. Each stage then has a lemma for a field that is taken, and one for a field
-- that is refused.
use Rattle.std.proofs.Common.{◌≡◌, ℕ, suc, ◌+◌, ◌-◌, ◌<◌, ◌≤◌, true, false, List, [], ◌∷◌, ◌++◌, length, take, drop, All, Result, Ok, Err, refl, sym, ap, subst, ◌∙◌, arith, inl, inr}
use Rattle.std.specs.Prelude.{cond, nat_lt}
use Rattle.std.proofs.lemmas.Bool.{cases_Bool, le-ltb, ltb-false, ltb-true}
use Rattle.std.proofs.lemmas.List.{drop_at, length-append, take_at}
use Rattle.lattice.specs.declared.node.Node.{Node}
use Rattle.lattice.specs.Node.{IsNode}
use Rattle.terrain.specs.declared.event.Event.{Event}
use Rattle.terrain.specs.declared.event.Event.TheVariants.{Edit, Camera, Away, Undo}
use Rattle.replicas.specs.declared.fault.WireFault.{WireFault}
use Rattle.replicas.specs.declared.stage.Stage.{Stage}
use Rattle.replicas.specs.declared.stage.Stage.TheVariants.{Tag, Base, EventCount, GoneCount, BlockCount, EventTag, Fields, Gone, BlockNode, End}
use Rattle.replicas.specs.Drafts.{GoesOn, ReadsPart, block_on}
use Rattle.replicas.specs.Grammar.{WireBlock, WirePatch}
use Rattle.replicas.specs.Reading.{◌>>=◌, More, Reading, Refused, ReplicaWorld, Whole, block_at, edits_after, edits_of, event_at, event_fields_at, event_size, field, from_blocks, from_events, from_gone, gone_at, items, judge_base, judge_event, judge_event_count, judge_event_tag, judge_gone, judge_node_count, judge_tag, judged, last_node, patch_at}
use Rattle.replicas.specs.Stages.{DraftState, HasNoBlock, HasNoGone, HasNoMesh, IsDraft, KeepsAt, behind_event, blocks_on, events_on, from_block_count, from_event_count, from_gone_count, gone_on, read_from, read_on, stage_of_blocks, stage_of_events, stage_of_gone}

-- ---- fields
-- a field that has come whole is judged, whatever comes behind it
field-whole : {A : Type 0} (n : ℕ) (judge : List ℕ → Result A WireFault) (f rest : List ℕ)
    → length f ≡ n → field n judge (f ++ rest) ≡ judged (judge f) rest
unfolding field
field-whole n judge f rest long =
    let enough : nat_lt (length (f ++ rest)) n ≡ false =
    le-ltb _ _ (omega (arith, length-append f rest, long)) in
    let bytes = f ++ rest in
    ap (λ b. cond b More (judged (judge (take n bytes)) (drop n bytes))) enough
    ∙ (λ i. judged (judge (take_at f rest n long i)) (drop_at f rest n long i))

-- it is taken
pub field-ok : {A : Type 0} (n : ℕ) (judge : List ℕ → Result A WireFault) (f rest : List ℕ) (x : A)
    → length f ≡ n → judge f ≡ Ok x → field n judge (f ++ rest) ≡ Whole x rest
field-ok n judge f rest x long is =
    field-whole n judge f rest long ∙ ap (λ r. judged r rest) is

-- or refused
pub field-err : {A : Type 0} (n : ℕ) (judge : List ℕ → Result A WireFault) (f rest : List ℕ)
    (fault : WireFault) → length f ≡ n → judge f ≡ Err fault
    → field n judge (f ++ rest) ≡ Refused fault rest
field-err n judge f rest fault long is =
    field-whole n judge f rest long ∙ ap (λ r. judged r rest) is

-- ---- items
module _ {A : Type 0} (item : List A → List ℕ → Reading A) (m : ℕ) (xs : List A)
    (bytes : List ℕ) where
  -- one item more
  pub items-more : (n : ℕ) (x : A) (rest : List ℕ) → m ≡ suc n → item xs bytes ≡ Whole x rest
      → items item m xs bytes ≡ items item n (xs ++ x ∷ []) rest
  unfolding items
  items-more n x rest some is =
      ap (λ k. items item k xs bytes) some
      ∙ ap (λ r. r >>= λ y more. items item n (xs ++ y ∷ []) more) is

  -- one that is refused
  pub items-stop : (n : ℕ) (fault : WireFault) (rest : List ℕ) → m ≡ suc n
      → item xs bytes ≡ Refused fault rest → items item m xs bytes ≡ Refused fault rest
  unfolding items
  items-stop n fault rest some is =
      ap (λ k. items item k xs bytes) some
      ∙ ap (λ r. r >>= λ y more. items item n (xs ++ y ∷ []) more) is

  -- none
  pub items-none : m ≡ 0 → items item m xs bytes ≡ Whole xs bytes
  unfolding items
  items-none none = ap (λ k. items item k xs bytes) none

-- reading on behind what goes on itself
pub bind-assoc : {A B C : Type 0} (r : Reading A) (f : A → List ℕ → Reading B)
    (g : B → List ℕ → Reading C) → ((r >>= f) >>= g) ≡ (r >>= λ x rest. f x rest >>= g)
bind-assoc More f g = refl
bind-assoc (Refused fault rest) f g = refl
bind-assoc (Whole x rest) f g = refl

-- ---- what comes next
-- the test of two numbers, both ways
less : (a b : ℕ) → nat_lt a b ≡ true → a < b
less a b on = ltb-true a b on

-- and where it fails
not_less : (a b : ℕ) → nat_lt a b ≡ false → b ≤ a
not_less a b off = ltb-false a b off

module _ (w : ReplicaWorld) (d : DraftState) where
  -- behind the blocks so far
  pub blocks-settled : (bytes : List ℕ)
      → blocks_on w d bytes ≡ read_from w d (stage_of_blocks d) bytes
  blocks-settled bytes =
      elim (cases_Bool (nat_lt (length d.blocks) d.counts.blocks)) [
        | inl on ↦ ap (λ b. read_from w d (cond b BlockNode End) bytes) (sym on)
        | inr off ↦
            (let none : d.counts.blocks - length d.blocks ≡ 0 =
            omega (arith, not_less _ _ off) in
            ap (λ r. r >>= λ list rest. Whole (record {
              base = d.base;
              events = d.events;
              gone = d.gone;
              blocks = list;
            }) rest)
            (items-none (block_at w) (d.counts.blocks - length d.blocks) d.blocks bytes none)
            ∙ ap (λ b. read_from w d (cond b BlockNode End) bytes) (sym off))
      ]

  -- behind the gone nodes so far
  pub gone-settled : (bytes : List ℕ) → d.blocks ≡ []
      → gone_on w d bytes ≡ read_from w d (stage_of_gone d) bytes
  gone-settled bytes no_blocks =
      elim (cases_Bool (nat_lt (length d.gone) d.counts.gone)) [
        | inl on ↦ ap (λ b. read_from w d (cond b Gone (stage_of_blocks d)) bytes) (sym on)
        | inr off ↦
            (let none : d.counts.gone - length d.gone ≡ 0 = omega (arith, not_less _ _ off) in
            let all : d.counts.blocks - 0 ≡ d.counts.blocks = omega arith in
            ap (λ r. r >>= λ list rest.
            from_blocks w d.base d.events list d.counts.blocks [] rest)
            (items-none _ (d.counts.gone - length d.gone) d.gone bytes none)
            ∙ ap (λ n. from_blocks w d.base d.events d.gone n [] bytes) (sym all)
            ∙ ap (λ bs. from_blocks w d.base d.events d.gone (d.counts.blocks - length bs) bs bytes)
            (sym no_blocks)
            ∙ blocks-settled bytes
            ∙ ap (λ b. read_from w d (cond b Gone (stage_of_blocks d)) bytes) (sym off))
      ]

  -- behind the events so far
  pub events-settled : (bytes : List ℕ) → HasNoGone d
      → events_on w d bytes ≡ read_from w d (stage_of_events d) bytes
  events-settled bytes behind =
      elim (cases_Bool (nat_lt (length d.events) d.counts.events)) [
        | inl on ↦ ap (λ b. read_from w d (cond b EventTag (stage_of_gone d)) bytes) (sym on)
        | inr off ↦
            (let none : d.counts.events - length d.events ≡ 0 = omega (arith, not_less _ _ off) in
            let all : d.counts.gone - 0 ≡ d.counts.gone = omega arith in
            ap (λ r. r >>= λ list rest. from_gone w d.base d.counts list d.counts.gone [] rest)
            (items-none _ (d.counts.events - length d.events) d.events bytes none)
            ∙ ap (λ n. from_gone w d.base d.counts d.events n [] bytes) (sym all)
            ∙ ap (λ gs. from_gone w d.base d.counts d.events (d.counts.gone - length gs) gs bytes)
            (sym behind.0)
            ∙ gone-settled bytes behind.1.0
            ∙ ap (λ b. read_from w d (cond b EventTag (stage_of_gone d)) bytes) (sym off))
      ]

-- and the draft keeps what it has to there
module _ (d : DraftState) where
  -- behind the blocks so far
  pub blocks-keeps : HasNoMesh d → KeepsAt d (stage_of_blocks d)
  blocks-keeps mesh =
      elim (cases_Bool (nat_lt (length d.blocks) d.counts.blocks)) [
        | inl on ↦ subst (λ b. KeepsAt d (cond b BlockNode End)) (sym on) (less _ _ on, mesh)
        | inr off ↦ subst (λ b. KeepsAt d (cond b BlockNode End)) (sym off) mesh
      ]

  -- behind the gone nodes so far
  pub gone-keeps : HasNoBlock d → KeepsAt d (stage_of_gone d)
  gone-keeps behind =
      elim (cases_Bool (nat_lt (length d.gone) d.counts.gone)) [
        | inl on ↦
            subst (λ b. KeepsAt d (cond b Gone (stage_of_blocks d))) (sym on) (less _ _ on, behind)
        | inr off ↦
            subst (λ b. KeepsAt d (cond b Gone (stage_of_blocks d))) (sym off)
            (blocks-keeps behind.1)
      ]

  -- behind the events so far
  pub events-keeps : HasNoGone d → KeepsAt d (stage_of_events d)
  events-keeps behind =
      elim (cases_Bool (nat_lt (length d.events) d.counts.events)) [
        | inl on ↦
            subst (λ b. KeepsAt d (cond b EventTag (stage_of_gone d))) (sym on)
            (less _ _ on, behind)
        | inr off ↦
            subst (λ b. KeepsAt d (cond b EventTag (stage_of_gone d))) (sym off)
            (gone-keeps behind.1)
      ]

-- how many edits are in force with one event more
edits_of-push : (es : List Event) (e : Event) (n : ℕ)
    → edits_of (es ++ e ∷ []) n ≡ edits_after e (edits_of es n)
edits_of-push [] e n = refl
edits_of-push (x ∷ es) e n = edits_of-push es e (edits_after x n)

-- and with more events
pub edits_of-append : (xs ys : List Event) (n : ℕ)
    → edits_of (xs ++ ys) n ≡ edits_of ys (edits_of xs n)
edits_of-append [] ys n = refl
edits_of-append (x ∷ xs) ys n = edits_of-append xs ys (edits_after x n)

-- no more edits are in force than there are events
edits_after-few : (e : Event) (n : ℕ) → edits_after e n ≤ n + 1
edits_after-few (Edit brush) n = omega arith
edits_after-few (Camera view at) n = omega arith
edits_after-few (Away view) n = omega arith
edits_after-few Undo n = omega arith

-- nor after any events
pub edits_of-few : (es : List Event) (n : ℕ) → edits_of es n ≤ n + length es
edits_of-few [] n = omega arith
edits_of-few (e ∷ es) n =
    omega (arith, edits_of-few es (edits_after e n), edits_after-few e n)

-- a field that has no bytes, behind another one
pub reads-then : (w : ReplicaWorld) (d mid new : DraftState) (f : List ℕ)
    (result : Result (Unit {0}) WireFault) → ReadsPart w d f mid (Ok tt)
    → ReadsPart w mid [] new result → ReadsPart w d f new result
reads-then w d mid new f (Ok x) first second = (second.0, λ rest. first.1 rest ∙ second.1 rest)
reads-then w d mid new f (Err fault) first second =
    λ differ rest. first.1 rest ∙ second differ rest

-- ---- each field
-- the keeping of a draft whose stage is known
pub kept : (w : ReplicaWorld) (d : DraftState) (s : Stage) → d.stage ≡ s → IsDraft w d → KeepsAt d s
kept w d s at is = subst (KeepsAt d) at is.keeps

module _ (w : ReplicaWorld) (d : DraftState) (f : List ℕ) (is : IsDraft w d) where
  -- what is read from a stage that is known
  pub at_stage : (s : Stage) (bytes : List ℕ) → d.stage ≡ s
      → read_on w d bytes ≡ read_from w d s bytes
  at_stage s bytes at = ap (λ t. read_from w d t bytes) at

  -- a field that is refused, whatever comes behind it
  pub refused : (s : Stage) (fault : WireFault) (new : DraftState) → d.stage ≡ s
      → ((rest : List ℕ) → read_from w d s (f ++ rest) ≡ Refused fault rest)
      → ReadsPart w d f new (Err fault)
  refused s fault new at stops = λ differ rest. at_stage s (f ++ rest) at ∙ stops rest

  -- a field that is taken, behind which the draft goes on
  pub taken : (s : Stage) (new : DraftState) → d.stage ≡ s → IsDraft w new
      → ((rest : List ℕ) → read_from w d s (f ++ rest) ≡ read_on w new rest)
      → ReadsPart w d f new (Ok tt)
  taken s new at keeps on = (keeps, λ rest. at_stage s (f ++ rest) at ∙ on rest)

  -- the same draft with other parts, but for its nodes
  pub same_nodes : (new : DraftState) → KeepsAt new new.stage → new.node ≡ d.node
      → new.blocks ≡ d.blocks → new.edits ≡ edits_of new.events (edits_of w.events 0)
      → IsDraft w new
  same_nodes new keeps node blocks edits = record {
    keeps = keeps;
    node = subst (IsNode w.settings.depth) (sym node) is.node;
    nodes = subst (All (λ (b : WireBlock). IsNode w.settings.depth b.node)) (sym blocks) is.nodes;
    edits = edits;
  }

  -- what a draft reads by going on with a block
  pub block-reads : (mid new : DraftState) (result : Result (Unit {0}) WireFault)
      → ((rest : List ℕ) → read_on w d (f ++ rest) ≡ block_on w mid rest)
      → GoesOn w mid new result → ReadsPart w d f new result
  block-reads mid new (Ok x) on goes = (goes.0, λ rest. on rest ∙ goes.1 rest)
  block-reads mid new (Err fault) on goes = λ differ. absurd (differ goes)

  -- ---- counts
  pub tag-reads : (tag : ℕ) → d.stage ≡ Tag → length f ≡ 1 → judge_tag f ≡ Ok tag
      → ReadsPart w d f (record d { stage = Base }) (Ok tt)
  unfolding patch_at
  tag-reads tag at long ok =
      taken Tag (record d { stage = Base }) at
      (same_nodes (record d { stage = Base }) (kept w d Tag at is) refl refl is.edits)
      (λ rest. ap (λ r. r >>= λ t more. read_from w d Base more)
      (field-ok 1 judge_tag f rest tag long ok))

  -- or refused
  pub tag-refused : (fault : WireFault) (new : DraftState) → d.stage ≡ Tag → length f ≡ 1
      → judge_tag f ≡ Err fault → ReadsPart w d f new (Err fault)
  unfolding patch_at
  tag-refused fault new at long err =
      refused Tag fault new at (λ rest. ap (λ r. r >>= λ t more. read_from w d Base more)
      (field-err 1 judge_tag f rest fault long err))

  -- the base
  pub base-reads : (base : ℕ) → d.stage ≡ Base → length f ≡ 4
      → judge_base (length w.events) f ≡ Ok base
      → ReadsPart w d f (record d { base = base; stage = EventCount }) (Ok tt)
  base-reads base at long ok =
      let new : DraftState = record d { base = base; stage = EventCount } in
      taken Base new at (same_nodes new (kept w d Base at is) refl refl is.edits)
      (λ rest. ap (λ r. r >>= λ n more. from_event_count w n more)
      (field-ok 4 (judge_base (length w.events)) f rest base long ok))

  -- or refused
  pub base-refused : (fault : WireFault) (new : DraftState) → d.stage ≡ Base → length f ≡ 4
      → judge_base (length w.events) f ≡ Err fault → ReadsPart w d f new (Err fault)
  base-refused fault new at long err =
      refused Base fault new at (λ rest. ap (λ r. r >>= λ n more. from_event_count w n more)
      (field-err 4 (judge_base (length w.events)) f rest fault long err))

  -- how many events there are
  pub event-count-reads : (count : ℕ) → d.stage ≡ EventCount → length f ≡ 4
      → judge_event_count (length w.events) f ≡ Ok count
      → ReadsPart w d f (record d {
        counts = record d.counts { events = count };
        stage = GoneCount;
      }) (Ok tt)
  event-count-reads count at long ok =
      let new : DraftState = record d {
        counts = record d.counts { events = count };
        stage = GoneCount;
      } in
      taken EventCount new at
      (same_nodes new (kept w d EventCount at is) refl refl is.edits)
      (λ rest. ap (λ r. r >>= λ n more. from_gone_count w d.base n more)
      (field-ok 4 (judge_event_count (length w.events)) f rest count long ok))

  -- or refused
  pub event-count-refused : (fault : WireFault) (new : DraftState) → d.stage ≡ EventCount
      → length f ≡ 4 → judge_event_count (length w.events) f ≡ Err fault
      → ReadsPart w d f new (Err fault)
  event-count-refused fault new at long err =
      refused EventCount fault new at
      (λ rest. ap (λ r. r >>= λ n more. from_gone_count w d.base n more)
      (field-err 4 (judge_event_count (length w.events)) f rest fault long err))

  -- how many gone nodes
  pub gone-count-reads : (count : ℕ) → d.stage ≡ GoneCount → length f ≡ 4
      → judge_node_count w.settings.depth f ≡ Ok count
      → ReadsPart w d f (record d {
        counts = record d.counts { gone = count };
        stage = BlockCount;
      }) (Ok tt)
  gone-count-reads count at long ok =
      let new : DraftState = record d {
        counts = record d.counts { gone = count };
        stage = BlockCount;
      } in
      taken GoneCount new at
      (same_nodes new (kept w d GoneCount at is) refl refl is.edits)
      (λ rest. ap (λ r. r >>= λ n more. from_block_count w d.base d.counts.events n more)
      (field-ok 4 (judge_node_count w.settings.depth) f rest count long ok))

  -- or refused
  pub gone-count-refused : (fault : WireFault) (new : DraftState) → d.stage ≡ GoneCount
      → length f ≡ 4 → judge_node_count w.settings.depth f ≡ Err fault
      → ReadsPart w d f new (Err fault)
  gone-count-refused fault new at long err =
      refused GoneCount fault new at
      (λ rest. ap (λ r. r >>= λ n more. from_block_count w d.base d.counts.events n more)
      (field-err 4 (judge_node_count w.settings.depth) f rest fault long err))

  -- how many blocks
  block_counted : ℕ → Stage → DraftState
  block_counted count s = record d { counts = record d.counts { blocks = count }; stage = s }

  -- which is taken
  pub block-count-reads : (count : ℕ) (s : Stage) → d.stage ≡ BlockCount → length f ≡ 4
      → judge_node_count w.settings.depth f ≡ Ok count
      → s ≡ stage_of_events (record d { counts = record d.counts { blocks = count } })
      → ReadsPart w d f (record d { counts = record d.counts { blocks = count }; stage = s })
      (Ok tt)
  block-count-reads count s at long ok next =
      let new : DraftState = record d {
        counts = record d.counts { blocks = count };
        stage = s;
      } in
      let keeps = kept w d BlockCount at is in
      let all : d.counts.events ≡ d.counts.events - 0 = omega arith in
      let K : ℕ → List Event → List ℕ → Reading WirePatch =
      λ n es more. from_events w d.base new.counts n es more in
      taken BlockCount new at
      (same_nodes new (subst (KeepsAt new) (sym next) (events-keeps new keeps.1)) refl refl
      is.edits)
      (λ rest. ap (λ r. r >>= λ n more. from_events w d.base
      (record { events = d.counts.events; gone = d.counts.gone; blocks = n }) d.counts.events []
      more) (field-ok 4 (judge_node_count w.settings.depth) f rest count long ok)
      ∙ ap (λ n. K n [] rest) all
      ∙ ap (λ es. K (d.counts.events - length es) es rest) (sym keeps.0)
      ∙ events-settled w new rest keeps.1
      ∙ ap (λ t. read_from w new t rest) (sym next))

  -- or refused
  pub block-count-refused : (fault : WireFault) (new : DraftState) → d.stage ≡ BlockCount
      → length f ≡ 4 → judge_node_count w.settings.depth f ≡ Err fault
      → ReadsPart w d f new (Err fault)
  block-count-refused fault new at long err =
      refused BlockCount fault new at
      (λ rest. ap (λ r. r >>= λ n more. from_events w d.base
      (record { events = d.counts.events; gone = d.counts.gone; blocks = n }) d.counts.events []
      more) (field-err 4 (judge_node_count w.settings.depth) f rest fault long err))

  -- ---- events
  -- what is read behind the events
  behind_events : List Event → List ℕ → Reading WirePatch
  behind_events list more = from_gone w d.base d.counts list d.counts.gone [] more

  -- the tag of an event
  pub event-tag-reads : (tag : ℕ) → d.stage ≡ EventTag → length f ≡ 1
      → judge_event_tag f ≡ Ok tag → ReadsPart w d f (record d { stage = Fields tag }) (Ok tt)
  unfolding items behind_events
  event-tag-reads tag at long ok =
      let new : DraftState = record d { stage = Fields tag } in
      let keeps = kept w d EventTag at is in
      let n = d.counts.events - (length d.events + 1) in
      let some : d.counts.events - length d.events ≡ suc n = omega (arith, keeps.0) in
      let left : (e : Event) → n ≡ d.counts.events - length (d.events ++ e ∷ []) =
      λ e. omega (arith, length-append d.events (e ∷ [])) in
      let A : ℕ → List ℕ → Reading Event = λ t more. event_fields_at w d.events t more in
      let B : Event → List ℕ → Reading (List Event) =
      λ e more. items (event_at w) n (d.events ++ e ∷ []) more in
      taken EventTag new at (same_nodes new keeps refl refl is.edits)
      (λ rest. ap (λ k. items (event_at w) k d.events (f ++ rest) >>= behind_events) some
      ∙ ap (λ r. ((r >>= A) >>= B) >>= behind_events)
      (field-ok 1 judge_event_tag f rest tag long ok)
      ∙ bind-assoc (event_fields_at w d.events tag rest) B behind_events
      ∙ (λ i. event_fields_at w d.events tag rest >>= λ e more.
      items (event_at w) (left e i) (d.events ++ e ∷ []) more >>= behind_events))

  -- or refused
  pub event-tag-refused : (fault : WireFault) (new : DraftState) → d.stage ≡ EventTag
      → length f ≡ 1 → judge_event_tag f ≡ Err fault → ReadsPart w d f new (Err fault)
  unfolding items behind_events
  event-tag-refused fault new at long err =
      let keeps = kept w d EventTag at is in
      let n = d.counts.events - (length d.events + 1) in
      let some : d.counts.events - length d.events ≡ suc n = omega (arith, keeps.0) in
      let A : ℕ → List ℕ → Reading Event = λ t more. event_fields_at w d.events t more in
      let B : Event → List ℕ → Reading (List Event) =
      λ e more. items (event_at w) n (d.events ++ e ∷ []) more in
      refused EventTag fault new at
      (λ rest. ap (λ k. items (event_at w) k d.events (f ++ rest) >>= behind_events) some
      ∙ ap (λ r. ((r >>= A) >>= B) >>= behind_events)
      (field-err 1 judge_event_tag f rest fault long err))

  -- the fields of an event
  pub event-reads : (tag : ℕ) (e : Event) (es : List Event) (n : ℕ) (s : Stage)
      → d.stage ≡ Fields tag → length f ≡ event_size tag
      → judge_event w.settings.depth d.edits tag f ≡ Ok e → es ≡ d.events ++ e ∷ []
      → n ≡ edits_after e d.edits → s ≡ stage_of_events (record d { events = es })
      → ReadsPart w d f (record d { events = es; edits = n; stage = s }) (Ok tt)
  event-reads tag e es n s at long ok more count next =
      let new : DraftState = record d { events = es; edits = n; stage = s } in
      let keeps = kept w d (Fields tag) at is in
      let before = edits_of d.events (edits_of w.events 0) in
      let judge = judge_event w.settings.depth before tag in
      let ok' : judge f ≡ Ok e =
      ap (λ k. judge_event w.settings.depth k tag f) (sym is.edits) ∙ ok in
      let counted : n ≡ edits_of es (edits_of w.events 0) =
      count ∙ ap (edits_after e) is.edits ∙ sym (edits_of-push d.events e (edits_of w.events 0))
      ∙ ap (λ xs. edits_of xs (edits_of w.events 0)) (sym more) in
      taken (Fields tag) new at
      (same_nodes new (subst (KeepsAt new) (sym next) (events-keeps new keeps.1)) refl refl counted)
      (λ rest. ap (λ r. r >>= λ x left. behind_event w d x left)
      (field-ok (event_size tag) judge f rest e long ok')
      ∙ ap (λ xs. events_on w (record d { events = xs }) rest) (sym more)
      ∙ events-settled w new rest keeps.1
      ∙ ap (λ t. read_from w new t rest) (sym next))

  -- or refused
  pub event-refused : (tag : ℕ) (fault : WireFault) (new : DraftState) → d.stage ≡ Fields tag
      → length f ≡ event_size tag → judge_event w.settings.depth d.edits tag f ≡ Err fault
      → ReadsPart w d f new (Err fault)
  event-refused tag fault new at long err =
      let before = edits_of d.events (edits_of w.events 0) in
      let judge = judge_event w.settings.depth before tag in
      let err' : judge f ≡ Err fault =
      ap (λ k. judge_event w.settings.depth k tag f) (sym is.edits) ∙ err in
      refused (Fields tag) fault new at (λ rest. ap (λ r. r >>= λ x left. behind_event w d x left)
      (field-err (event_size tag) judge f rest fault long err'))

  -- ---- gone nodes
  -- what is read behind the gone nodes
  behind_gone : List Node → List ℕ → Reading WirePatch
  behind_gone list more = from_blocks w d.base d.events list d.counts.blocks [] more

  -- a gone node
  pub gone-reads : (n : Node) (gs : List Node) (s : Stage) → d.stage ≡ Gone → length f ≡ 7
      → judge_gone w (last_node d.gone) f ≡ Ok n → gs ≡ d.gone ++ n ∷ []
      → s ≡ stage_of_gone (record d { gone = gs })
      → ReadsPart w d f (record d { gone = gs; stage = s }) (Ok tt)
  unfolding behind_gone
  gone-reads n gs s at long ok more next =
      let new : DraftState = record d { gone = gs; stage = s } in
      let keeps = kept w d Gone at is in
      let m = d.counts.gone - (length d.gone + 1) in
      let some : d.counts.gone - length d.gone ≡ suc m = omega (arith, keeps.0) in
      let left : m ≡ d.counts.gone - length gs =
      omega (arith, ap length more, length-append d.gone (n ∷ [])) in
      taken Gone new at
      (same_nodes new (subst (KeepsAt new) (sym next) (gone-keeps new keeps.1)) refl refl is.edits)
      (λ rest. ap (λ r. r >>= behind_gone)
      (items-more (gone_at w) (d.counts.gone - length d.gone) d.gone (f ++ rest) m n rest some
      (field-ok 7 (judge_gone w (last_node d.gone)) f rest n long ok))
      ∙ (λ i. items (gone_at w) (left i) (sym more i) rest >>= behind_gone)
      ∙ gone-settled w new rest keeps.1.0
      ∙ ap (λ t. read_from w new t rest) (sym next))

  -- or refused
  pub gone-refused : (fault : WireFault) (new : DraftState) → d.stage ≡ Gone → length f ≡ 7
      → judge_gone w (last_node d.gone) f ≡ Err fault → ReadsPart w d f new (Err fault)
  unfolding behind_gone
  gone-refused fault new at long err =
      let keeps = kept w d Gone at is in
      let m = d.counts.gone - (length d.gone + 1) in
      let some : d.counts.gone - length d.gone ≡ suc m = omega (arith, keeps.0) in
      refused Gone fault new at (λ rest. ap (λ r. r >>= behind_gone)
      (items-stop (gone_at w) (d.counts.gone - length d.gone) d.gone (f ++ rest) m fault rest some
      (field-err 7 (judge_gone w (last_node d.gone)) f rest fault long err)))
