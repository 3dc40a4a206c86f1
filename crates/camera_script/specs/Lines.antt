-- The lines of a script: how its bytes are cut, also while more of them may come, and which lines count. This project's
-- rule.
use Rattle.std.specs.Prelude.{◌≡◌, ℕ, ◌+◌, ◌<◌, Bool, true, false, ◌&&◌, List, [], ◌∷◌, ◌++◌, length, take, ◌==◌, nat_le, nat_lt, if◌then◌else◌}
use Rattle.camera_script.specs.declared.cutter.Cut.{Cut}
use Rattle.camera_script.specs.declared.cutter.Cut.TheVariants.{More, Line, Long}
use Rattle.camera_script.specs.declared.json_line.TheConstants.{LINE_LIMIT}
use Rattle.camera_script.specs.Line.{carriage_return, is_blank}

-- ---- lines

-- the byte that ends a line
abbrev pub line_feed : ℕ
line_feed = 10

-- a line without the carriage return at its end, if there is one
abbrev pub without_return : List ℕ → List ℕ
without_return [] = []
without_return (byte ∷ []) = if byte == carriage_return then [] else byte ∷ []
without_return (byte ∷ next ∷ bytes) = byte ∷ without_return (next ∷ bytes)

-- whether a line is too long, as it is or however it goes on
abbrev pub is_long : List ℕ → Bool
is_long line = nat_lt LINE_LIMIT (length (without_return line))

-- the line that the bytes behind the last line feed are: at the end of the input there is one if there are bytes, and
-- before the end only if it is too long already
abbrev pub last_line : Bool → List ℕ → List (List ℕ)
last_line true [] = []
last_line true (byte ∷ bytes) = (byte ∷ bytes) ∷ []
last_line false line = if is_long line then line ∷ [] else []

-- the lines of the beginning of a line and the bytes behind it, cut at line feeds; the end of the input is known to be
-- behind the bytes, or more may come
abbrev pub lines_behind : Bool → List ℕ → List ℕ → List (List ℕ)
lines_behind ended line [] = last_line ended line
lines_behind ended line (byte ∷ bytes) =
    if byte == line_feed then line ∷ lines_behind ended [] bytes
    else lines_behind ended (line ++ byte ∷ []) bytes

-- the lines of an input
abbrev pub lines_of : List ℕ → List (List ℕ)
lines_of bytes = lines_behind true [] bytes

-- ---- lines that are read

-- whether a line is skipped: it is blank, and not too long
abbrev pub is_skipped : List ℕ → Bool
is_skipped line = is_blank line && nat_le (length line) LINE_LIMIT

-- a line and its number
pub record Numbered : Type 0 where
  pub number : ℕ
  pub text : List ℕ

-- the lines that aren't skipped, with their numbers, of which the first is n; skipped lines are
-- counted
abbrev pub lines_from : ℕ → List (List ℕ) → List Numbered
lines_from n [] = []
lines_from n (line ∷ lines) =
    if is_skipped (without_return line) then lines_from (n + 1) lines
    else record { number = n; text = without_return line } ∷ lines_from (n + 1) lines

-- ---- cutting

-- what a cutter holds: a line without its line feed, which is whole, or the beginning of one
pub record Held : Type 0 where
  pub line : List ℕ
  pub is_whole : Bool

-- the beginning of a line that isn't whole
abbrev pub unfinished : Held → List ℕ
unfinished held = if held.is_whole then [] else held.line

-- a cutter has eaten these bytes and cut these lines: whatever comes, they are the first ones, and the others are those
-- of what it holds and of what comes
abbrev pub HasCut : List ℕ → List (List ℕ) → Held → Type 0
HasCut eaten lines held =
    (ended : Bool) (rest : List ℕ)
    → lines_behind ended [] (eaten ++ rest) ≡ lines ++ lines_behind ended (unfinished held) rest

-- the first of some lines is too long
abbrev pub StartsLong : List (List ℕ) → Type 0
StartsLong [] = ⊥
StartsLong (line ∷ lines) = is_long line ≡ true

-- the line of these bytes that comes behind these lines is too long, whatever comes behind the bytes
abbrev pub IsLongBehind : List ℕ → List (List ℕ) → Type 0
IsLongBehind eaten lines =
    (ended : Bool) (rest : List ℕ) → (long : List (List ℕ)) × StartsLong long
    × (lines_behind ended [] (eaten ++ rest) ≡ lines ++ long)

-- What a cutter did with the first n bytes of a piece, whatever comes behind them: it holds them behind the beginning
-- of its line; or they end the line, which it holds; or the line is too long.
abbrev pub Cuts : Held → List ℕ → ℕ → Held → Cut → Type 0
Cuts old piece n new More =
    (n ≡ length piece) × (is_long (unfinished new) ≡ false)
    × ((ended : Bool) (rest : List ℕ) → lines_behind ended (unfinished old) (piece ++ rest)
    ≡ lines_behind ended (unfinished new) rest)
Cuts old piece n new Line =
    (0 < n) × (new.is_whole ≡ true) × (is_long new.line ≡ false)
    × ((ended : Bool) (rest : List ℕ) → lines_behind ended (unfinished old) (take n piece ++ rest)
    ≡ new.line ∷ lines_behind ended [] rest)
Cuts old piece n new Long =
    (ended : Bool) (rest : List ℕ)
    → StartsLong (lines_behind ended (unfinished old) (take n piece ++ rest))

-- what it did at the end of the input: there was no line; or one, which it holds; or the line is too long
abbrev pub Finishes : Held → Held → Cut → Type 0
Finishes old new More = last_line true (unfinished old) ≡ []
Finishes old new Line =
    (new.is_whole ≡ true) × (is_long new.line ≡ false)
    × (last_line true (unfinished old) ≡ new.line ∷ [])
Finishes old new Long = StartsLong (last_line true (unfinished old))
