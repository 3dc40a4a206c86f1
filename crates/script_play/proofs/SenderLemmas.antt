-- What a sender writes is what is left to send: the patch of a board is the one that the definition has (patch-is),
-- what an output command writes is its bytes, if there are events (publication-none, publication-some), and behind an
-- event or an output command the rest is left (left-event, output-carried, output-stopped).
-- A patch's blocks are those of the leaves that its events touched, each with its present brick. A block with the brick
-- of a leaf has the leaf's mesh, and so the lists of that (block-is, blocks-are).
use Rattle.std.proofs.Common.{◌≡◌, ℕ, ◌<◌, ◌≤◌, ◌⊎◌, Bool, true, false, List, [], ◌∷◌, ◌++◌, All, length, map, take, drop, refl, sym, ap, subst, ◌∙◌, arith, inl, inr}
use Rattle.std.specs.Prelude.{Contains, IfErr, Result, Ok, Err, OnErr, OnOk}
use Rattle.std.specs.Result.{is_err}
use Rattle.std.proofs.lemmas.Bool.{true≢false}
use Rattle.std.proofs.Math.Seq.{drop-length, take-length}
use Rattle.std.specs.Arc.{arc_value}
use Rattle.std.proofs.lemmas.List.{append-nil, drop-append-le, length-drop, length-take-le, take-append-drop, take-append-le}
use Rattle.std.proofs.lemmas.List.Elements.{All-contains_itself, All-filter, All-head, All-tail, All-weaker}
use Rattle.lattice.specs.declared.node.Node.{Node}
use Rattle.lattice.specs.declared.settings.Settings.{Settings}
use Rattle.terrain.specs.declared.event.Event.{Event}
use Rattle.camera_script.specs.declared.commands.Command.{Command}
use Rattle.camera_script.specs.declared.commands.Command.TheVariants as commands
use Rattle.terrain.specs.Blocks.{Mesh}
use Rattle.terrain.specs.Levels.{IsBalanced, IsLeaf, leaves, levels}
use Rattle.level_laws.proofs.LeafLemmas.{leaf_listed}
use Rattle.event_laws.specs.Changes.{brick_after, change, is_touched}
use Rattle.block_mesh.specs.Done.{DoneState, IsDone}
use Rattle.block_mesh.specs.Mesh.{ShowsMesh}
use Rattle.terrain.specs.MeshLists.{MeshLists}
use Rattle.snapshots.specs.Frame.{mesh_after}
use Rattle.snapshots.specs.Patch.{changes_of}
use Rattle.snapshots.specs.declared.patch.Patch.{Patch}
use Rattle.snapshots.proofs.FrameLemmas.{IsBlockAfter-from}
use Rattle.mesh_board.specs.Board.{BoardState, events_since, marked_events, present_brick}
use Rattle.replicas.specs.Grammar.{head_bytes, patch_bytes}
use Rattle.patch_wire.specs.Puttable.{wire_block, wire_patch}
use Rattle.mesh_out.specs.Writing.{StopsWriting, Writes}
use Rattle.mesh_out.specs.declared.fault.OutFault.{OutFault}
use Rattle.mesh_out.proofs.WritingLemmas.{StopsWriting-longer}
use Rattle.terra_events.specs.World.{WorldState}
use Rattle.terra_io.specs.Stream.{Stream, Appends, IsFaultless}
use Rattle.script_play.specs.Play.{wire_alone}
use Rattle.script_play.specs.Ending.{wire_of}
use Rattle.script_play.specs.Script.{Said, events_by}
use Rattle.script_play.specs.Sender.{IsFreshSender, left_to_send, patch_left, publication_left}
use Rattle.script_play.specs.Wire.{block_after, lists_of_mesh, patch_after, publication, wire_after, wire_output}
use Rattle.script_play.proofs.BehindLemmas.{IsBehind}

-- ---- blocks

-- lists that show a mesh are those of it
lists-are : (lists : MeshLists) (m : Mesh) → ShowsMesh lists m → lists ≡ lists_of_mesh m
lists-are lists m shows = λ t. record {
  keys = shows.keys t;
  positions = shows.positions t;
  triangles = shows.triangles t;
}

module _ (settings : Settings) (history : List Event)
    (balanced : IsBalanced settings.depth (levels settings history)) where
  -- a block with the brick of a leaf is the leaf's
  block-is : (done : DoneState) (n : Node) → IsDone done → done.brick.node ≡ n
      → IsLeaf settings.depth (levels settings history) n
      → done.brick ≡ brick_after settings history n
      → wire_block done ≡ block_after settings history n
  block-is done n own node leaf brick =
      let shows = (IsBlockAfter-from settings history n done own balanced leaf brick).mesh in
      let same = lists-are done.mesh (mesh_after settings history n) shows in
      λ t. record { node = node t; mesh = same t }

  -- so are blocks with the bricks of leaves
  blocks-are : {A : Type 0} (value : A → DoneState) (xs : List A) (ns : List Node)
      → All (λ x. IsDone (value x)) xs
      → map (λ x. (value x).brick.node) xs ≡ ns
      → All (IsLeaf settings.depth (levels settings history)) ns
      → map (λ x. (value x).brick) xs ≡ map (brick_after settings history) ns
      → map (λ x. wire_block (value x)) xs ≡ map (block_after settings history) ns
  blocks-are value [] [] own nodes leafs bricks = refl
  blocks-are value [] (n ∷ ns) own nodes leafs bricks = absurd (cc)
  blocks-are value (x ∷ xs) [] own nodes leafs bricks = absurd (cc)
  blocks-are value (x ∷ xs) (n ∷ ns) own nodes leafs bricks =
      let L = IsLeaf settings.depth (levels settings history) in
      let node : (value x).brick.node ≡ n = cc in
      let brick : (value x).brick ≡ brick_after settings history n = cc in
      let nodes' : map (λ y. (value y).brick.node) xs ≡ ns = cc in
      let bricks' : map (λ y. (value y).brick) xs ≡ map (brick_after settings history) ns = cc in
      let first = block-is (value x) n (All-head (λ y. IsDone (value y)) x xs own) node
      (All-head L n ns leafs) brick in
      let rest = blocks-are value xs ns (All-tail (λ y. IsDone (value y)) x xs own) nodes'
      (All-tail L n ns leafs) bricks' in
      λ t. first t ∷ rest t

-- the leaves that events touch are leaves
touched-leaves : (settings : Settings) (history events : List Event)
    → All (IsLeaf settings.depth (levels settings (history ++ events)))
    (change settings history events).put
touched-leaves settings history events =
    let after = levels settings (history ++ events) in
    All-filter (is_touched settings history events) (IsLeaf settings.depth after)
    (leaves settings.depth after)
    (All-weaker (λ n. Contains (leaves settings.depth after) n) (IsLeaf settings.depth after)
    (λ n listed. (leaf_listed settings.depth after n).1 listed) (leaves settings.depth after)
    (All-contains_itself (leaves settings.depth after)))

-- ---- patches

-- the patch of a board, by what its contract says
pub patch-is : (board : BoardState) (patch : Patch)
    → IsBalanced board.world.settings.depth (levels board.world.settings board.world.events)
    → board.marked ≤ length board.world.events
    → All (λ done. IsDone (arc_value done)) patch.put.items
    → patch.base ≡ board.marked → patch.events.items ≡ events_since board
    → changes_of patch
    ≡ change board.world.settings (marked_events board) (events_since board)
    → map (λ done. (arc_value {X = DoneState} done).brick) patch.put.items
    ≡ map (present_brick board) (changes_of patch).put
    → wire_patch patch ≡ patch_left board
patch-is board patch balanced marked own base events changes bricks =
    let settings = board.world.settings in
    let before = marked_events board in
    let since = events_since board in
    let whole : before ++ since ≡ board.world.events =
    take-append-drop board.marked board.world.events in
    let counted : patch.base ≡ length before =
    base ∙ sym (length-take-le board.marked board.world.events marked) in
    let put : (changes_of patch).put ≡ (change settings before since).put =
    λ t. (changes t).put in
    let blocks = blocks-are settings (before ++ since)
    (subst (λ es. IsBalanced settings.depth (levels settings es)) (sym whole) balanced)
    (arc_value {X = DoneState}) patch.put.items (change settings before since).put own put
    (touched-leaves settings before since)
    (bricks ∙ ap (map (present_brick board)) put
    ∙ ap (λ es. map (brick_after settings es) (change settings before since).put) (sym whole)) in
    λ t. record {
      base = counted t;
      events = events t;
      gone = (changes t).gone;
      blocks = blocks t;
    }

-- a board with the same world and mark has the same patch
pub patch-same : (old new : BoardState) → new.world ≡ old.world → new.marked ≡ old.marked
    → patch_left new ≡ patch_left old
patch-same old new world marked = λ t. patch_after (world t).settings
    (take (marked t) (world t).events) (drop (marked t) (world t).events)

-- ---- what is written

-- nothing, where all events were sent
pub publication-none : (board : BoardState) → board.marked ≡ length board.world.events
    → publication_left board ≡ []
publication-none board all =
    ap (publication board.world.settings (marked_events board))
    (ap (λ n. drop n board.world.events) all ∙ drop-length board.world.events)

-- the patch, where some weren't
publication-of : (settings : Settings) (sent since : List Event) → 0 < length since
    → publication settings sent since ≡ patch_bytes (patch_after settings sent since)
publication-of settings sent [] some = absurd (omega arith)
publication-of settings sent (event ∷ since) some = refl

-- so it is of a board
pub publication-some : (board : BoardState) → board.marked < length board.world.events
    → publication_left board ≡ patch_bytes (patch_left board)
publication-some board fewer =
    let count = length-drop board.marked board.world.events in
    publication-of board.world.settings (marked_events board) (events_since board)
    (omega (arith, count, fewer))

-- ---- what is left

-- behind an event the same, with it among the events that weren't sent
pub left-event : (old new : BoardState) (event : Event) (rest : List Command)
    → old.marked ≤ length old.world.events → new.world.settings ≡ old.world.settings
    → new.world.events ≡ old.world.events ++ event ∷ [] → new.marked ≡ old.marked
    → left_to_send old (commands.Event event ∷ rest) ≡ left_to_send new rest
left-event old new event rest fits rules grows marked =
    let sent : marked_events new ≡ marked_events old =
    (λ t. take (marked t) (grows t))
    ∙ take-append-le old.marked old.world.events (event ∷ []) fits in
    let since : events_since new ≡ events_since old ++ event ∷ [] =
    (λ t. drop (marked t) (grows t))
    ∙ drop-append-le old.marked old.world.events (event ∷ []) fits in
    sym (λ t. wire_after (rules t) (sent t) (since t) rest)

-- behind an output command all events were sent
sent-all : (old new : BoardState) (rest : List Command) → new.world ≡ old.world
    → new.marked ≡ length old.world.events
    → wire_after old.world.settings (marked_events old ++ events_since old) [] rest
    ≡ left_to_send new rest
sent-all old new rest same marked =
    let sent : marked_events new ≡ marked_events old ++ events_since old =
    (λ t. take (marked t) (same t).events) ∙ take-length old.world.events
    ∙ sym (take-append-drop old.marked old.world.events) in
    let since : events_since new ≡ [] =
    (λ t. drop (marked t) (same t).events) ∙ drop-length old.world.events in
    sym (λ t. wire_after (same t).settings (sent t) (since t) rest)

-- a shot, a line of stats or a pick
abbrev pub IsOutputCommand : Command → Type 0
IsOutputCommand command =
    ((normals : Bool) × (command ≡ commands.Shot normals))
    ⊎ ((command ≡ commands.Stats)
    ⊎ ((x : ℕ) × (y : ℕ) × (command ≡ commands.Pick x y)))

-- is no event
output-events : (command : Command) → IsOutputCommand command → events_by command ≡ []
output-events command (inl (normals, is)) = ap events_by is
output-events command (inr (inl is)) = ap events_by is
output-events command (inr (inr (x, y, is))) = ap events_by is

-- what it writes comes before what is left behind it
left-output : (board : BoardState) (command : Command) (rest : List Command)
    → IsOutputCommand command
    → left_to_send board (command ∷ rest)
    ≡ publication_left board
    ++ wire_after board.world.settings (marked_events board ++ events_since board) [] rest
left-output board command rest (inl (normals, is)) = ap (λ c. left_to_send board (c ∷ rest)) is
left-output board command rest (inr (inl is)) = ap (λ c. left_to_send board (c ∷ rest)) is
left-output board command rest (inr (inr (x, y, is))) =
    ap (λ c. left_to_send board (c ∷ rest)) is

-- it was carried out: what it writes was
pub output-carried : (r : Result (Unit {0}) OutFault) (old new : BoardState) (command : Command)
    (sink sink' : Stream) → IsOutputCommand command
    → OnOk r (Appends sink sink' (publication_left old)) → OnOk r (IsFaultless sink sink')
    → new.world ≡ old.world → OnOk r (new.marked ≡ length old.world.events)
    → OnOk r ((rest : List Command)
    → Writes sink sink' (left_to_send old (command ∷ rest)) (left_to_send new rest))
output-carried (Ok done) old new command sink sink' output sent calm same marked =
    λ rest. record {
      front = publication_left old;
      parts = left-output old command rest output
          ∙ ap (λ t. publication_left old ++ t) (sent-all old new rest same marked);
      appended = sent;
      faultless = calm;
    }
output-carried (Err fault) old new command sink sink' output sent calm same marked = sent

-- and the world has the events from before
pub output-kept : (r : Result (Unit {0}) OutFault) (old new : BoardState) (command : Command)
    → IsOutputCommand command → new.world ≡ old.world
    → OnOk r (new.world.events ≡ old.world.events ++ events_by command)
output-kept (Ok done) old new command output same =
    ap (λ (w : WorldState). w.events) same ∙ sym (append-nil old.world.events)
    ∙ ap (λ es. old.world.events ++ es) (sym (output-events command output))
output-kept (Err fault) old new command output same = tt

-- it stopped: a first part of what it writes was written
pub output-stopped : (r : Result (Unit {0}) OutFault) (old : BoardState) (command : Command)
    (sink sink' : Stream) → IsOutputCommand command
    → IfErr r (λ fault. StopsWriting fault sink sink' (publication_left old))
    → IfErr r (λ fault. (rest : List Command)
    → StopsWriting fault sink sink' (left_to_send old (command ∷ rest)))
output-stopped (Ok done) old command sink sink' output stopped = stopped
output-stopped (Err fault) old command sink sink' output stopped = λ rest.
    let later = wire_after old.world.settings (marked_events old ++ events_since old) [] rest in
    subst (StopsWriting fault sink sink') (sym (left-output old command rest output))
    (StopsWriting-longer fault sink sink' (publication_left old) later stopped)

-- ---- the head

-- the wire of what was said behind a head
wire-headed : (said : Said) → said.headed ≡ true
    → wire_of said ≡ wire_output said.settings said.commands
wire-headed said headed = rw headed refl

-- which is the head, and behind it what commands write
pub wire-is : (settings : Settings)
    → IsBehind settings (head_bytes settings) (wire_after settings [] []) wire_alone
wire-is settings ended said headed rules =
    ap (λ s. wire_output s said.commands) (sym rules) ∙ sym (wire-headed said headed)

-- and that is what a sender before any event has left to send
pub sent-is : (settings : Settings) (board : BoardState) → IsFreshSender settings board
    → IsBehind settings (head_bytes settings) (left_to_send board) wire_alone
sent-is settings board fresh ended said headed rules =
    (λ t. head_bytes settings ++ wire_after (fresh.settings t)
    (take (fresh.marked t) (fresh.events t)) (drop (fresh.marked t) (fresh.events t))
    said.commands)
    ∙ wire-is settings ended said headed rules

-- ---- results that were asked for an error

-- there is one
pub fails-told : {T E P : Type 0} (r : Result T E) {told : Bool} → told ≡ is_err r
    → told ≡ true → OnErr r P → P
fails-told (Ok done) told is stops = absurd (true≢false (sym is ∙ told))
fails-told (Err fault) told is stops = stops

-- there is none
pub succeeds-told : {T E P : Type 0} (r : Result T E) {told : Bool} → told ≡ is_err r
    → told ≡ false → OnOk r P → P
succeeds-told (Ok done) told is goes = goes
succeeds-told (Err fault) told is goes = absurd (true≢false (sym told ∙ is))
