-- An input whose lines are cut as it is read, and how its reading goes on. This project's rule.
use Rattle.std.specs.Prelude.{◌≡◌, ℕ, ◌+◌, ◌-◌, ◌<◌, ◌≤◌, Bool, true, false, List, [], ◌∷◌, ◌++◌, length, if◌then◌else◌, Result, Ok, Err}
use Rattle.std.specs.Io.KnownBytes.{IsAtEnd}
use Rattle.camera_script.specs.declared.cutter.Cut.{Cut}
use Rattle.camera_script.specs.declared.cutter.Cut.TheVariants.{More, Line, Long}
use Rattle.camera_script.specs.Lines.{Held, Numbered, StartsLong, is_long, lines_behind, lines_from, unfinished, without_return}
use Rattle.camera_script.specs.declared.json_line.TheConstants.{LINE_LIMIT}
use Rattle.terra_io.specs.Stream.{Stream, Yields, IsFaultless, HasFailed}
use Rattle.script_play.specs.declared.refusal.ReadRefusal.{ReadRefusal}
use Rattle.script_play.specs.declared.refusal.ReadRefusal.TheVariants.{ReadFault, InputLimit, TooLong}
use Rattle.script_play.specs.declared.refusal.TheConstants.{INPUT_LIMIT, PIECE}

-- an input: the line that is held, the bytes that were read and not cut yet, how many bytes were read, how many lines
-- were cut, and whether the end was seen and no line is left
pub record InputState : Type 0 where
  pub held : Held
  pub left : List ℕ
  pub count : ℕ
  pub number : ℕ
  pub is_ended : Bool

-- an input of which nothing was read
abbrev pub fresh_input : InputState
fresh_input = record {
  held = record { line = []; is_whole = false };
  left = [];
  count = 0;
  number = 0;
  is_ended = false;
}

-- the places of the bytes that are left in a piece, and the counts
pub record InputFits (start end count number : ℕ) (is_ended : Bool) : Type 0 where
  pub ordered : start ≤ end
  pub inside : end ≤ PIECE
  pub within : count ≤ INPUT_LIMIT
  pub lines : is_ended ≡ false → number + (end - start) ≤ count
  pub last : number ≤ count + 1
  pub below : is_ended ≡ true → count < INPUT_LIMIT

-- its counts are within their limits
pub record CountsFit (input : InputState) : Type 0 where
  pub within : input.count ≤ INPUT_LIMIT
  pub below : input.is_ended ≡ true → input.count < INPUT_LIMIT
  pub few : input.number ≤ INPUT_LIMIT + 1

-- these bytes may come: none where the end was seen
abbrev pub MayCome : InputState → Bool → List ℕ → Type 0
MayCome input ended rest = input.is_ended ≡ true → (ended ≡ true) × (rest ≡ [])

-- the lines that are left if these bytes come, and those of them that aren't skipped
abbrev pub lines_left : InputState → Bool → List ℕ → List (List ℕ)
lines_left input ended rest =
    if input.is_ended then []
    else lines_behind ended (unfinished input.held) (input.left ++ rest)

abbrev pub kept_left : InputState → Bool → List ℕ → List Numbered
kept_left input ended rest = lines_from (input.number + 1) (lines_left input ended rest)

-- the line that was cut
abbrev pub this_line : InputState → Numbered
this_line input = record { number = input.number; text = without_return input.held.line }

-- these bytes were read and these lines cut: whatever comes, they are the first
pub record CutsLines (old new : InputState) (more : List ℕ) (lines : List (List ℕ)) : Type 0 where
  pub lines_are : (ended : Bool) (rest : List ℕ) → MayCome new ended rest
      → lines_left old ended (more ++ rest) ≡ lines ++ lines_left new ended rest
  pub number : new.number ≡ old.number + length lines
  pub count : new.count ≡ old.count + length more
  pub stays : old.is_ended ≡ true → (more ≡ []) × (new.is_ended ≡ true)

-- these bytes were read and these lines that aren't skipped were passed
pub record Passes (old new : InputState) (more : List ℕ) (lines : List Numbered) : Type 0 where
  pub kept : (ended : Bool) (rest : List ℕ) → MayCome new ended rest
      → kept_left old ended (more ++ rest) ≡ lines ++ kept_left new ended rest
  pub total : (ended : Bool) (rest : List ℕ) → MayCome new ended rest
      → old.number + length (lines_left old ended (more ++ rest))
      ≡ new.number + length (lines_left new ended rest)
  pub count : new.count ≡ old.count + length more
  pub later : old.number ≤ new.number
  pub stays : old.is_ended ≡ true → (more ≡ []) × (new.is_ended ≡ true)

-- the first line has this number and is too long
abbrev pub StartsLongAt : ℕ → List Numbered → Type 0
StartsLongAt number [] = ⊥
StartsLongAt number (line ∷ lines) = (line.number ≡ number) × (LINE_LIMIT < length line.text)

-- no line is whole
pub record HasNoLine (input : InputState) : Type 0 where
  pub open_end : input.is_ended ≡ false
  pub none : kept_left input false [] ≡ []

-- the reading of these bytes ended so: a read failed, all bytes that a run may read were read, or a line is too long
abbrev pub Stops : InputState → InputState → List ℕ → Stream → Stream → ReadRefusal → Type 0
Stops old new more source source' ReadFault =
    HasFailed source source' × Passes old new more [] × HasNoLine new
Stops old new more source source' InputLimit =
    IsFaultless source source' × Passes old new more [] × HasNoLine new
    × (new.count ≡ INPUT_LIMIT)
Stops old new more source source' (TooLong line) =
    IsFaultless source source' × (new.is_ended ≡ false) × (new.count ≡ old.count + length more)
    × ((ended : Bool) (rest : List ℕ) → StartsLongAt line (kept_left old ended (more ++ rest)))

-- one line was cut, or the end was seen, or the reading stopped
abbrev pub CutsOne : InputState → InputState → List ℕ → Stream → Stream
    → Result Bool ReadRefusal → Type 0
CutsOne old new more source source' (Ok true) =
    IsFaultless source source' × (new.held.is_whole ≡ true) × (is_long new.held.line ≡ false)
    × CutsLines old new more (new.held.line ∷ [])
CutsOne old new more source source' (Ok false) =
    IsFaultless source source' × (new.is_ended ≡ true) × CutsLines old new more []
CutsOne old new more source source' (Err refusal) = Stops old new more source source' refusal

-- the input went on to the next line that isn't skipped, or to its end, or its reading stopped
abbrev pub AdvancesTo : InputState → InputState → List ℕ → Stream → Stream
    → Result Bool ReadRefusal → Type 0
AdvancesTo old new more source source' (Ok true) =
    IsFaultless source source' × (new.held.is_whole ≡ true) × (old.number < new.number)
    × Passes old new more (this_line new ∷ [])
AdvancesTo old new more source source' (Ok false) =
    IsFaultless source source' × (new.is_ended ≡ true) × Passes old new more []
AdvancesTo old new more source source' (Err refusal) = Stops old new more source source' refusal

-- bytes were taken from the source; the end counts as seen only where it was
pub record TakesFor (old new : InputState) (source source' : Stream) (more : List ℕ) : Type 0 where
  pub taken : Yields source source' more
  pub end : (old.is_ended ≡ true → IsAtEnd source.bytes) → new.is_ended ≡ true
      → IsAtEnd source'.bytes

-- ---- one step each

-- the bytes that were read had no end of the line; or they had, and the line is held; or the line is too long
abbrev pub CutsPiece : InputState → InputState → Cut → Type 0
CutsPiece old new More =
    (new.is_ended ≡ false) × (new.left ≡ []) × (is_long (unfinished new.held) ≡ false)
    × CutsLines old new [] []
CutsPiece old new Line =
    (new.is_ended ≡ false) × (new.held.is_whole ≡ true) × (is_long new.held.line ≡ false)
    × CutsLines old new [] (new.held.line ∷ [])
CutsPiece old new Long =
    (new.is_ended ≡ false) × (new.number ≡ old.number) × (new.count ≡ old.count)
    × ((ended : Bool) (rest : List ℕ) → StartsLong (lines_left old ended rest))

-- some bytes were read; or none, at the end; or the reading stopped
abbrev pub ReadsPiece : InputState → InputState → List ℕ → Stream → Stream
    → Result Bool ReadRefusal → Type 0
ReadsPiece old new more source source' (Ok true) =
    Yields source source' more × IsFaultless source source' × (old.count < new.count)
    × (new.is_ended ≡ false) × CutsLines old new more []
ReadsPiece old new more source source' (Ok false) =
    Yields source source' [] × IsFaultless source source' × IsAtEnd source'.bytes × (new ≡ old)
    × (old.count < INPUT_LIMIT)
ReadsPiece old new more source source' (Err ReadFault) =
    Yields source source' [] × HasFailed source source' × (new ≡ old)
ReadsPiece old new more source source' (Err InputLimit) =
    Yields source source' [] × IsFaultless source source' × (new ≡ old)
    × (old.count ≡ INPUT_LIMIT)
ReadsPiece old new more source source' (Err (TooLong line)) = ⊥

-- the last line is held, or there is none
abbrev pub FinishesInput : InputState → InputState → Bool → Type 0
FinishesInput old new true =
    (new.is_ended ≡ true) × (new.held.is_whole ≡ true) × (is_long new.held.line ≡ false)
    × CutsLines old new [] (new.held.line ∷ [])
FinishesInput old new false = (new.is_ended ≡ true) × CutsLines old new [] []
