-- The exit status of a run, and the one line that a run which isn't Done offers to its notes. This
-- project's rule.
use Rattle.std.specs.Prelude.{ℕ, List, [], ◌++◌, codes, decimal}
use Rattle.camera_script.specs.FaultWords.{words_of}
use Rattle.replicas.specs.FaultCodes.{code}
use Rattle.script_play.specs.declared.status.Status.{Status}
use Rattle.script_play.specs.declared.status.Status.TheVariants.{Done, NoMemory, BadWords, BadScript, ReadFault, WriteFault, JournalFull, InputLimit, NothingToUndo, BadWire, CutWire}

-- the number that the program ends with
abbrev pub code_of : Status → ℕ
code_of Done = 0
code_of NoMemory = 1
code_of BadWords = 2
code_of (BadScript line fault) = 3
code_of ReadFault = 4
code_of WriteFault = 5
code_of (JournalFull line) = 6
code_of InputLimit = 7
code_of (NothingToUndo line) = 9
code_of (BadWire at fault) = 10
code_of CutWire = 11

-- a note on a refused line, by its number
abbrev pub line_note : ℕ → List ℕ → List ℕ
line_note line why = codes "terra: line " ++ decimal line ++ codes ": " ++ why ++ codes "\n"

-- a note on a wire of which a field is refused, by how many bytes were taken and the number of the fault
abbrev pub wire_note : ℕ → ℕ → List ℕ
wire_note at number =
    codes "terra: byte " ++ decimal at ++ codes ": wire fault " ++ decimal number ++ codes "\n"

-- the line of a status; there is none for Done
abbrev pub note_of : Status → List ℕ
note_of Done = []
note_of NoMemory = codes "terra: no memory\n"
note_of BadWords = codes "terra: bad words\n"
note_of (BadScript line fault) = line_note line (words_of fault)
note_of ReadFault = codes "terra: read fault\n"
note_of WriteFault = codes "terra: write fault\n"
note_of (JournalFull line) = line_note line (codes "journal full")
note_of InputLimit = codes "terra: input limit\n"
note_of (NothingToUndo line) = line_note line (codes "nothing to undo")
note_of (BadWire at fault) = wire_note at (code fault)
note_of CutWire = codes "terra: wire cut\n"
