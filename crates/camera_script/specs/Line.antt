-- A line of a script as JSON: the members of the object that it is, or its first fault up to there.
-- What the bytes read to is said by serde_json's own definitions; the limit and the faults are this
-- project's rule.
use Rattle.std.specs.Prelude.{◌≡◌, ℕ, ◌⊎◌, Bool, ◌||◌, ◌==◌, List, length, nat_lt, if◌then◌else◌, Option, None, ok_or, Result, Ok, Err}
use Rattle.std.specs.List.{list_all}
use Rattle.std.specs.Str.{is_utf8}
use Rattle.serde_json.specs.Data.{Data, Members}
use Rattle.serde_json.specs.Read.{read}
use Rattle.serde_json.specs.Find.{as_object}
use Rattle.camera_script.specs.declared.fault.LineFault.{LineFault}
use Rattle.camera_script.specs.declared.fault.LineFault.TheVariants.{NoMemory, TooLong, NotJson, NotObject}
use Rattle.camera_script.specs.declared.json_line.TheConstants.{LINE_LIMIT}

-- ---- lines

-- a space
abbrev pub space : ℕ
space = 32

-- a tab
abbrev pub tab : ℕ
tab = 9

-- a carriage return
abbrev pub carriage_return : ℕ
carriage_return = 13

-- a line is blank where every byte is a space, a tab or a carriage return
abbrev pub is_blank : List ℕ → Bool
is_blank line =
    list_all (λ byte. byte == space || byte == tab || byte == carriage_return) line

-- ---- readings: a value, or a fault

-- a reading that goes on from the value of another; the first fault stays
abbrev pub after : {A B : Type 0} → (A → Result B LineFault) → Result A LineFault
    → Result B LineFault
after next (Ok value) = next value
after next (Err fault) = Err fault

-- a result is this reading, unless memory ran out
abbrev pub Reads : {A : Type 0} → Result A LineFault → Result A LineFault → Type 0
Reads reading (Ok value) = reading ≡ Ok value
Reads reading (Err fault) = (fault ≡ NoMemory) ⊎ (reading ≡ Err fault)

-- ---- JSON

-- the value that the bytes are, as serde_json reads them: JSON in UTF-8
unfoldable pub json_value : List ℕ → Option Data
json_value bytes = if is_utf8 bytes then read bytes else None

-- the members of a value that is an object
abbrev pub object_members : Data → Result Members LineFault
object_members value = ok_or (as_object value) NotObject

-- the members of the object that a line is
unfoldable pub line_members : List ℕ → Result Members LineFault
line_members line =
    if nat_lt LINE_LIMIT (length line) then Err TooLong
    else after object_members (ok_or (json_value line) NotJson)
