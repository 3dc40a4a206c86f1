-- How a run of several editors ends, and what it writes. This project's rule.
-- Nobody says how the events of different editors are mixed: some order of their owners is written, and the line of
-- stats is that of the journal which these owners make.
use Rattle.std.specs.Prelude.{◌≡◌, Bool, true, ℕ, zero, suc, ◌+◌, ◌%◌, ◌^◌, ◌<◌, ◌≤◌, List, [], ◌∷◌, ◌++◌, codes, decimal}
use Rattle.arguments.specs.declared.editing.Editing.{Editing}
use Rattle.drills.specs.Drill.{drill}
use Rattle.drills.specs.declared.drill.TheConstants.{DRILL_REACH}
use Rattle.editors.specs.Beside.{journal_of, list_of, owned_by}
use Rattle.lattice.specs.declared.settings.Settings.{Settings}
use Rattle.mesh_board.specs.Board.{BoardState}
use Rattle.mesh_out.specs.Text.{stats_text}
use Rattle.snapshots.specs.Stats.{stats_of}
use Rattle.snapshots.specs.declared.stats.Stats.{Stats}
use Rattle.terra_io.specs.Stream.{Stream, Appends, AppendsPrefix, IsFaultless, HasFailed}
use Rattle.script_play.specs.Script.{events_of}
use Rattle.script_play.specs.declared.status.Status.{Status}
use Rattle.script_play.specs.declared.status.Status.TheVariants.{Done, NoMemory, WriteFault}
use Rattle.terrain.specs.Blocks.{scratch}
use Rattle.terrain.specs.declared.event.Event.{Event}

-- the world that is edited
abbrev pub edited_world : Editing → Settings
edited_world asked = record { depth = asked.depth; reach = DRILL_REACH }

-- the events that an editor sends: those of the drill whose seed is the editor's number behind the first seed
abbrev pub sent_by_editor : Editing → ℕ → List Event
sent_by_editor asked editor =
    events_of (drill ((asked.first + editor) % 2 ^ 32) asked.edits asked.depth)

-- the lists of the editors with numbers below a count, one after another
abbrev pub lists_below : Editing → ℕ → List (List Event)
lists_below asked zero = []
lists_below asked (suc count) = lists_below asked count ++ sent_by_editor asked count ∷ []

-- the journal that these owners make: each event is the next one in the list of its owner
abbrev pub edited_journal : Editing → List ℕ → List Event
edited_journal asked owners = journal_of (list_of (lists_below asked asked.editors)) owners

-- each editor owns the ground and its edits, and nobody else owns an event
pub record AreEditors (asked : Editing) (owners : List ℕ) : Type 0 where
  pub each : (editor : ℕ) → editor < asked.editors → owned_by editor owners ≡ asked.edits + 1
  pub none : (editor : ℕ) → asked.editors ≤ editor → owned_by editor owners ≡ 0

-- these owners are the editors, and the stats those of the journal that they make
pub record AreEditorsWith (asked : Editing) (owners : List ℕ) (stats : Stats) : Type 0 where
  pub editors : AreEditors asked owners
  pub stats_are : stats ≡ stats_of (scratch (edited_world asked) (edited_journal asked owners))

-- a world read the events of these owners, who are the editors; they are its journal if it is whole
pub record IsEditedBy (asked : Editing) (owners : List ℕ) (board : BoardState) (is_whole : Bool)
    : Type 0 where
  pub editors : AreEditors asked owners
  pub settings : board.world.settings ≡ edited_world asked
  pub unmarked : board.marked ≡ 0
  pub journal : is_whole ≡ true → board.world.events ≡ edited_journal asked owners

-- ---- what is written

-- a line for each event, which tells whose it is
abbrev pub owner_lines : List ℕ → List ℕ
owner_lines [] = []
owner_lines (owner ∷ owners) =
    codes "# from " ++ decimal owner ++ codes "\n" ++ owner_lines owners

-- these lines, and the line of stats of the journal of these owners
abbrev pub edited_text : Editing → List ℕ → List ℕ
edited_text asked owners =
    owner_lines owners
    ++ stats_text (stats_of (scratch (edited_world asked) (edited_journal asked owners)))

-- a text was written whole, or a first part of it before memory ran out or a write failed
abbrev pub IsPut : List ℕ → Stream → Stream → Status → Type 0
IsPut text sink sink' Done = Appends sink sink' text × IsFaultless sink sink'
IsPut text sink sink' NoMemory = AppendsPrefix sink sink' text × IsFaultless sink sink'
IsPut text sink sink' WriteFault = AppendsPrefix sink sink' text × HasFailed sink sink'
IsPut text sink sink' _ = ⊥

-- the text of some owners was
abbrev pub HaveEdited : Editing → Stream → Stream → Status → Type 0
HaveEdited asked sink sink' status =
    (owners : List ℕ) × AreEditors asked owners
    × IsPut (edited_text asked owners) sink sink' status
