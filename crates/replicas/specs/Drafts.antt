-- Drafts as contracts see them, and what they do with a field.
-- Source: this project's rule.
use Rattle.std.specs.Prelude.{◌≡◌, ◌≢◌, ℕ, ◌<◌, ◌≤◌, List, [], ◌++◌, All, length, map, if◌then◌else◌, nat_lt, MatchResult, Result}
use Rattle.lattice.specs.Node.{IsNode}
use Rattle.replicas.specs.declared.draft.Draft.{Draft}
use Rattle.replicas.specs.declared.fault.WireFault.{WireFault}
use Rattle.replicas.specs.declared.fault.WireFault.TheVariants.{NoMemory}
use Rattle.replicas.specs.Grammar.{WireBlock, WirePatch}
use Rattle.replicas.specs.Puts.{block_put}
use Rattle.replicas.specs.Reading.{Reading, Refused, ReplicaWorld, edits_of}
use Rattle.replicas.specs.Stages.{DraftState, HasBlock, IsDraft, read_on, triangles_on, vertices_on}

-- the parts that were read
abbrev pub draft_of : Draft → DraftState
draft_of draft = record {
  stage = draft.stage;
  base = draft.base;
  counts = record {
    events = draft.event_count;
    gone = draft.gone_count;
    blocks = draft.block_count;
  };
  events = draft.events.items;
  edits = draft.in_force;
  gone = draft.gone.items;
  blocks = map block_put draft.blocks.items;
  node = draft.node;
  key_count = draft.key_count;
  triangle_count = draft.triangle_count;
  keys = draft.keys.items;
  positions = draft.positions.items;
  triangles = draft.triangles.items;
}

-- a draft has read the bytes of a field, whatever comes behind them: the rest of the patch is read from there on; or
-- the field is refused, unless memory ran out
abbrev pub ReadsPart : ReplicaWorld → DraftState → List ℕ → DraftState → Result (Unit {0}) WireFault
    → Type 0
ReadsPart world old field new result = MatchResult result
    (λ _. IsDraft world new
    × ((rest : List ℕ) → read_on world old (field ++ rest) ≡ read_on world new rest))
    (λ fault. fault ≢ NoMemory
    → (rest : List ℕ) → read_on world old (field ++ rest) ≡ Refused fault rest)

-- ---- the rest of a block
-- a block goes on: no more keys were read than it has, each with a position, and no triangle before the last key; and
-- one more block was to come
pub record HasMore (world : ReplicaWorld) (d : DraftState) : Type 0 where
  pub block : HasBlock d
  pub keys : length d.keys ≤ d.key_count
  pub triangles : length d.triangles ≤ d.triangle_count
  pub in_order : length d.keys < d.key_count → d.triangles ≡ []
  pub node : IsNode world.settings.depth d.node
  pub nodes : All (λ (block : WireBlock). IsNode world.settings.depth block.node) d.blocks
  pub edits : d.edits ≡ edits_of d.events (edits_of world.events 0)

-- what is read of the patch from the rest of a block on
abbrev pub block_on : ReplicaWorld → DraftState → List ℕ → Reading WirePatch
block_on world d bytes =
    if nat_lt (length d.keys) d.key_count then vertices_on world d bytes
    else triangles_on world d bytes

-- a draft has gone on with a block: what is read from there on is the rest of the block and of the patch; unless memory
-- ran out
abbrev pub GoesOn : ReplicaWorld → DraftState → DraftState → Result (Unit {0}) WireFault → Type 0
GoesOn world old new result = MatchResult result
    (λ _. IsDraft world new
    × ((rest : List ℕ) → block_on world old rest ≡ read_on world new rest))
    (λ fault. fault ≡ NoMemory)
