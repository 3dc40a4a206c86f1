-- The faults of a line in words. This project's rule.
use Rattle.std.specs.Prelude.{ℕ, List, codes}
use Rattle.camera_script.specs.declared.fault.LineFault.{LineFault}
use Rattle.camera_script.specs.declared.fault.LineFault.TheVariants.{NoMemory, TooLong, NotJson, NotObject, UnknownMember, MissingMember, BadValue, UnknownCommand}

-- a line's fault in words
abbrev pub words_of : LineFault → List ℕ
words_of NoMemory = codes "no memory"
words_of TooLong = codes "line too long"
words_of NotJson = codes "not json"
words_of NotObject = codes "not an object"
words_of UnknownMember = codes "unknown member"
words_of MissingMember = codes "missing member"
words_of BadValue = codes "bad value"
words_of UnknownCommand = codes "unknown command"
