-- An input that is read on: what its steps do one after another, for the clauses of `Input::advance` and the steps
-- behind it.
-- What a step did is said for all that may come behind the bytes that were read. So steps are put together by handing
-- what the later one read to the earlier one as something that came (MayCome-before): lines that were cut, lines that
-- weren't skipped, bytes that were taken, and how it went on or stopped (those named then). Went and Read are what the
-- loops keep while they skip lines and read pieces; each turn of a loop is a lemma on them (Went-skip to Went-stops,
-- Read-more). Single steps follow: a piece that is read, and a part of it that is eaten.
use Rattle.std.proofs.Common.{add-zero, ◌≡◌, ℕ, zero, suc, ◌+◌, ◌-◌, ◌<◌, ◌≤◌, Bool, true, false, List, [], ◌∷◌, ◌++◌, length, take, drop, refl, sym, ap, subst, ◌∙◌, arith, append_assoc, length-append, inl, inr}
use Rattle.std.specs.Prelude.{Result, Ok, Err, nat_lt}
use Rattle.std.specs.Io.KnownBytes.{IsAtEnd}
use Rattle.std.proofs.lemmas.Bool.{cases_lt, le-leb, lt-ltb, true≢false}
use Rattle.std.proofs.lemmas.List.{drop-drop, drop-take, length-take-le, take-append-drop}
use Rattle.camera_script.specs.declared.cutter.Cut.TheVariants.{More, Line, Long}
use Rattle.camera_script.specs.Line.{is_blank}
use Rattle.camera_script.specs.Lines.{Cuts, Held, Numbered, StartsLong, is_long, is_skipped, lines_behind, lines_from, unfinished, without_return}
use Rattle.camera_script.specs.declared.json_line.TheConstants.{LINE_LIMIT}
use Rattle.terra_io.specs.Stream.{Stream, Yields, IsFaultless}
use Rattle.script_play.specs.declared.refusal.ReadRefusal.{ReadRefusal}
use Rattle.script_play.specs.declared.refusal.ReadRefusal.TheVariants.{ReadFault, InputLimit, TooLong}
use Rattle.script_play.specs.declared.refusal.TheConstants.{INPUT_LIMIT}
use Rattle.script_play.specs.Input.{AdvancesTo, CutsLines, CutsOne, CutsPiece, InputState, MayCome, Passes, ReadsPiece, StartsLongAt, Stops, TakesFor, kept_left, lines_left, this_line}
use Rattle.script_play.proofs.StreamLemmas.{Yields-none, Yields-append, IsFaultless-trans, HasFailed-after}

-- ---- what may come

-- what may come later may come before, behind what came between
MayCome-before : (mid new : InputState) (more : List ℕ)
    → (mid.is_ended ≡ true → (more ≡ []) × (new.is_ended ≡ true))
    → (ended : Bool) (rest : List ℕ) → MayCome new ended rest → MayCome mid ended (more ++ rest)
MayCome-before mid new more stays ended rest may is =
    let now = stays is in
    let last = may now.1 in
    (last.0, rw (now.0, last.1) refl)

-- ---- lines that are cut

-- nothing was read and nothing cut
pub CutsLines-none : (input : InputState) → CutsLines input input [] []
CutsLines-none input = record {
  lines_are = λ ended rest may. refl;
  number = omega arith;
  count = omega arith;
  stays = λ is. (refl, is);
}

-- lines were cut after none
pub CutsLines-then : (old mid new : InputState) (first second : List ℕ) (lines : List (List ℕ))
    → CutsLines old mid first [] → CutsLines mid new second lines
    → CutsLines old new (first ++ second) lines
CutsLines-then old mid new first second lines cut_first cut_second = record {
  lines_are = λ ended rest may. ap (lines_left old ended) (append_assoc first second rest)
      ∙ cut_first.lines_are ended (second ++ rest)
      (MayCome-before mid new second cut_second.stays ended rest may)
      ∙ cut_second.lines_are ended rest may;
  number = omega (arith, cut_first.number, cut_second.number);
  count = omega (arith, cut_first.count, cut_second.count, length-append first second);
  stays = λ is.
      let one = cut_first.stays is in
      let two = cut_second.stays one.1 in
      (rw (one.0, two.0) refl, two.1);
}

-- ---- lines that are passed

-- the lines that aren't skipped, by the first one
lines_from-skip : (n : ℕ) (line : List ℕ) (lines : List (List ℕ))
    → is_skipped (without_return line) ≡ true
    → lines_from n (line ∷ lines) ≡ lines_from (n + 1) lines
lines_from-skip n line lines skipped = rw skipped refl

-- a line that isn't skipped comes first, with its number
lines_from-keep : (n : ℕ) (line : List ℕ) (lines : List (List ℕ))
    → is_skipped (without_return line) ≡ false
    → lines_from n (line ∷ lines)
    ≡ record { number = n; text = without_return line } ∷ lines_from (n + 1) lines
lines_from-keep n line lines kept = rw kept refl

-- no line was cut
pub Passes-none : (old new : InputState) (more : List ℕ) → CutsLines old new more []
    → Passes old new more []
Passes-none old new more cut =
    let same : new.number ≡ old.number = omega (arith, cut.number) in
    record {
      kept = λ ended rest may.
          ap (lines_from (old.number + 1)) (cut.lines_are ended rest may)
          ∙ ap (λ n. lines_from (n + 1) (lines_left new ended rest)) (sym same);
      total = λ ended rest may.
          let counted = ap length (cut.lines_are ended rest may) in
          omega (arith, counted, same);
      count = cut.count;
      later = omega (arith, same);
      stays = cut.stays;
    }

-- one was, and it is skipped
pub Passes-skip : (old new : InputState) (more line : List ℕ)
    → CutsLines old new more (line ∷ []) → is_skipped (without_return line) ≡ true
    → Passes old new more []
Passes-skip old new more line cut skipped =
    let next : old.number + 1 ≡ new.number = omega (arith, cut.number) in
    record {
      kept = λ ended rest may.
          ap (lines_from (old.number + 1)) (cut.lines_are ended rest may)
          ∙ lines_from-skip (old.number + 1) line (lines_left new ended rest) skipped
          ∙ ap (λ n. lines_from (n + 1) (lines_left new ended rest)) next;
      total = λ ended rest may.
          let counted = ap length (cut.lines_are ended rest may) in
          omega (arith, counted, next);
      count = cut.count;
      later = omega (arith, next);
      stays = cut.stays;
    }

-- one was, and it isn't
pub Passes-keep : (old new : InputState) (more : List ℕ)
    → CutsLines old new more (new.held.line ∷ [])
    → is_skipped (without_return new.held.line) ≡ false
    → Passes old new more (this_line new ∷ [])
Passes-keep old new more cut kept =
    let line = new.held.line in
    let next : old.number + 1 ≡ new.number = omega (arith, cut.number) in
    record {
      kept = λ ended rest may.
          ap (lines_from (old.number + 1)) (cut.lines_are ended rest may)
          ∙ lines_from-keep (old.number + 1) line (lines_left new ended rest) kept
          ∙ ap (λ n. record { number = n; text = without_return line }
          ∷ lines_from (n + 1) (lines_left new ended rest)) next;
      total = λ ended rest may.
          let counted = ap length (cut.lines_are ended rest may) in
          omega (arith, counted, next);
      count = cut.count;
      later = omega (arith, next);
      stays = cut.stays;
    }

-- lines were passed after others
pub Passes-then : (old mid new : InputState) (first second : List ℕ) (lines later : List Numbered)
    → Passes old mid first lines → Passes mid new second later
    → Passes old new (first ++ second) (lines ++ later)
Passes-then old mid new first second lines later pass_first pass_second = record {
  kept = λ ended rest may. ap (kept_left old ended) (append_assoc first second rest)
      ∙ pass_first.kept ended (second ++ rest)
      (MayCome-before mid new second pass_second.stays ended rest may)
      ∙ ap (λ l. lines ++ l) (pass_second.kept ended rest may)
      ∙ sym (append_assoc lines later (kept_left new ended rest));
  total = λ ended rest may.
      ap (λ t. old.number + length (lines_left old ended t)) (append_assoc first second rest)
      ∙ pass_first.total ended (second ++ rest)
      (MayCome-before mid new second pass_second.stays ended rest may)
      ∙ pass_second.total ended rest may;
  count = omega (arith, pass_first.count, pass_second.count, length-append first second);
  later = omega (arith, pass_first.later, pass_second.later);
  stays = λ is.
      let one = pass_first.stays is in
      let two = pass_second.stays one.1 in
      (rw (one.0, two.0) refl, two.1);
}

-- ---- reading that stops

-- a line that is too long is left only where the end wasn't seen
pub open_from_long : (input : InputState) (line : ℕ) (rest : List ℕ)
    → StartsLongAt line (kept_left input true rest) → input.is_ended ≡ true → ⊥
open_from_long input line rest long is =
    let none : lines_left input true rest ≡ [] = rw is refl in
    subst (λ l. StartsLongAt line (lines_from (input.number + 1) l)) none long

-- it stopped after lines that were passed
pub Stops-then : (old mid new : InputState) (first second : List ℕ)
    (source between source' : Stream) (refusal : ReadRefusal)
    → Passes old mid first [] → IsFaultless source between
    → Stops mid new second between source' refusal
    → Stops old new (first ++ second) source source' refusal
Stops-then old mid new first second source between source' ReadFault passes calm stops = (
  HasFailed-after source between source' calm stops.0,
  Passes-then old mid new first second [] [] passes stops.1,
  stops.2,
)
Stops-then old mid new first second source between source' InputLimit passes calm stops = (
  IsFaultless-trans source between source' calm stops.0,
  Passes-then old mid new first second [] [] passes stops.1,
  stops.2,
  stops.3,
)
Stops-then old mid new first second source between source' (TooLong line) passes calm stops =
    let open_end : mid.is_ended ≡ true → ⊥ =
    λ is. open_from_long mid line (second ++ []) (stops.3 true []) is in (
      IsFaultless-trans source between source' calm stops.0,
      stops.1,
      omega (arith, stops.2, passes.count, length-append first second),
      λ ended rest.
          subst (StartsLongAt line)
          (sym (ap (kept_left old ended) (append_assoc first second rest)
          ∙ passes.kept ended (second ++ rest) (λ is. absurd (open_end is))))
          (stops.3 ended rest),
    )

-- ---- the bytes that were taken

-- no call was made
pub TakesFor-none : (input : InputState) (source : Stream) → TakesFor input input source source []
TakesFor-none input source = record { taken = Yields-none source; end = λ end. end }

-- one after another
pub TakesFor-then : (old mid new : InputState) (source between source' : Stream)
    (first second : List ℕ)
    → TakesFor old mid source between first → TakesFor mid new between source' second
    → TakesFor old new source source' (first ++ second)
TakesFor-then old mid new source between source' first second one two = record {
  taken = Yields-append source between source' first second one.taken two.taken;
  end = λ end. two.end (one.end end);
}

-- ---- a call after lines that were passed

-- it goes on
pub AdvancesTo-then : (old mid new : InputState) (first second : List ℕ)
    (source between source' : Stream) (result : Result Bool ReadRefusal)
    → Passes old mid first [] → IsFaultless source between
    → AdvancesTo mid new second between source' result
    → AdvancesTo old new (first ++ second) source source' result
AdvancesTo-then old mid new first second source between source' (Ok true) passes calm goes = (
  IsFaultless-trans source between source' calm goes.0,
  goes.1,
  omega (arith, goes.2, passes.later),
  Passes-then old mid new first second [] (this_line new ∷ []) passes goes.3,
)
AdvancesTo-then old mid new first second source between source' (Ok false) passes calm goes = (
  IsFaultless-trans source between source' calm goes.0,
  goes.1,
  Passes-then old mid new first second [] [] passes goes.2,
)
AdvancesTo-then old mid new first second source between source' (Err refusal) passes calm goes =
    Stops-then old mid new first second source between source' refusal passes calm goes

-- an input went on to some state, without a fault, and passed no line that isn't skipped
pub record Went (old new : InputState) (source source' : Stream) : Type 0 where
  pub more : List ℕ
  pub takes : TakesFor old new source source' more
  pub calm : IsFaultless source source'
  pub passes : Passes old new more []

-- it cut no line
pub record Read (old new : InputState) (source source' : Stream) : Type 0 where
  pub more : List ℕ
  pub takes : TakesFor old new source source' more
  pub calm : IsFaultless source source'
  pub cuts : CutsLines old new more []

-- one more line was cut, and it is skipped
pub Went-skip : (old mid new : InputState) (source between source' : Stream) (more : List ℕ)
    → Went old mid source between → TakesFor mid new between source' more
    → CutsOne mid new more between source' (Ok true)
    → is_skipped (without_return new.held.line) ≡ true → Went old new source source'
Went-skip old mid new source between source' more so_far takes cut skipped = record {
  more = so_far.more ++ more;
  takes = TakesFor-then old mid new source between source' so_far.more more so_far.takes takes;
  calm = IsFaultless-trans source between source' so_far.calm cut.0;
  passes = Passes-then old mid new so_far.more more [] [] so_far.passes
      (Passes-skip mid new more new.held.line cut.3 skipped);
}

-- the line that was cut last isn't skipped
pub Went-keep : (old mid new : InputState) (source between source' : Stream) (more : List ℕ)
    → Went old mid source between → TakesFor mid new between source' more
    → CutsOne mid new more between source' (Ok true)
    → is_skipped (without_return new.held.line) ≡ false
    → (all : List ℕ) × TakesFor old new source source' all
    × AdvancesTo old new all source source' (Ok true)
Went-keep old mid new source between source' more so_far takes cut kept = (
  so_far.more ++ more,
  TakesFor-then old mid new source between source' so_far.more more so_far.takes takes,
  AdvancesTo-then old mid new so_far.more more source between source' (Ok true) so_far.passes
      so_far.calm
      (cut.0, cut.1, omega (arith, cut.3.number), Passes-keep mid new more cut.3 kept),
)

-- no line was cut any more
pub Went-end : (old mid new : InputState) (source between source' : Stream) (more : List ℕ)
    → Went old mid source between → TakesFor mid new between source' more
    → CutsOne mid new more between source' (Ok false)
    → (all : List ℕ) × TakesFor old new source source' all
    × AdvancesTo old new all source source' (Ok false)
Went-end old mid new source between source' more so_far takes cut = (
  so_far.more ++ more,
  TakesFor-then old mid new source between source' so_far.more more so_far.takes takes,
  AdvancesTo-then old mid new so_far.more more source between source' (Ok false) so_far.passes
      so_far.calm (cut.0, cut.1, Passes-none mid new more cut.2),
)

-- the reading stopped
pub Went-stops : (old mid new : InputState) (source between source' : Stream) (more : List ℕ)
    (refusal : ReadRefusal)
    → Went old mid source between → TakesFor mid new between source' more
    → Stops mid new more between source' refusal
    → (all : List ℕ) × TakesFor old new source source' all
    × Stops old new all source source' refusal
Went-stops old mid new source between source' more refusal so_far takes stops = (
  so_far.more ++ more,
  TakesFor-then old mid new source between source' so_far.more more so_far.takes takes,
  Stops-then old mid new so_far.more more source between source' refusal so_far.passes
      so_far.calm stops,
)

-- ---- one step each

-- some bytes were read, or none
pub ReadsPiece-more : (old new : InputState) (source source' : Stream) (buffer : List ℕ) (n : ℕ)
    → old.is_ended ≡ false → old.left ≡ [] → old.count < INPUT_LIMIT → n ≤ length buffer
    → Yields source source' (take n buffer) → IsFaultless source source'
    → (n ≡ 0 → IsAtEnd source'.bytes)
    → new ≡ record old { left = take n buffer; count = old.count + n }
    → (more : List ℕ) × ReadsPiece old new more source source' (Ok (nat_lt 0 n))
ReadsPiece-more old new source source' buffer zero open_end left below within taken calm end is =
    let same : record old { left = []; count = old.count + 0 } ≡ old =
    ap (λ n. record old { left = []; count = n }) (add-zero old.count)
    ∙ ap (λ l. record old { left = l }) (sym left) in
    ([], (taken, calm, end refl, is ∙ same, below))
ReadsPiece-more old new source source' buffer (suc n) open_end left below within taken calm end
    is =
    let more = take (suc n) buffer in
    let size : length more ≡ suc n = length-take-le (suc n) buffer within in
    let state : InputState = record old { left = more; count = old.count + suc n } in
    let cuts : CutsLines old state more [] = record {
      lines_are = λ ended rest may.
          rw open_end (rw left refl);
      number = omega arith;
      count = omega (arith, size);
      stays = λ is. absurd (true≢false (sym is ∙ open_end));
    } in (
      more,
      rw (lt-ltb 0 (suc n) (omega arith), is) (taken, calm, omega arith, open_end, cuts),
    )

-- a part of the bytes that are left was eaten
module _ (old : InputState) (held : Held) (left : List ℕ) (number n : ℕ)
    (open_end : old.is_ended ≡ false) (rest_is : left ≡ drop n old.left) where
  -- the state then
  abbrev pub cut_state : InputState
  cut_state = record {
    held = held;
    left = left;
    count = old.count;
    number = number;
    is_ended = old.is_ended;
  }

  -- what was eaten, and the rest
  parts : (rest : List ℕ) → old.left ++ rest ≡ take n old.left ++ (left ++ rest)
  parts rest =
      ap (λ t. t ++ rest) (sym (take-append-drop n old.left))
      ∙ append_assoc (take n old.left) (drop n old.left) rest
      ∙ ap (λ t. take n old.left ++ (t ++ rest)) (sym rest_is)

  -- a line is held
  pub CutsPiece-line : number ≡ old.number + 1 → Cuts old.held old.left n held Line
      → CutsPiece old cut_state Line
  CutsPiece-line next cuts = (
    open_end,
    cuts.1,
    cuts.2,
    record {
      lines_are = λ ended rest may. rw (open_end, cuts.1)
          (ap (lines_behind ended (unfinished old.held)) (parts rest)
          ∙ cuts.3 ended (left ++ rest));
      number = omega arith;
      count = omega arith;
      stays = λ is. (refl, is);
    },
  )

  -- the line is too long
  pub CutsPiece-long : number ≡ old.number → Cuts old.held old.left n held Long
      → CutsPiece old cut_state Long
  CutsPiece-long same cuts = (
    open_end,
    same,
    refl,
    λ ended rest. rw open_end (subst (λ t. StartsLong (lines_behind ended (unfinished old.held) t))
        (sym (parts rest)) (cuts ended (left ++ rest))),
  )

-- the bytes of a piece behind those that were eaten
pub left_behind : (piece : List ℕ) (start end n : ℕ) → n ≤ end - start
    → take (end - (start + n)) (drop (start + n) piece)
    ≡ drop n (take (end - start) (drop start piece))
left_behind piece start end n within =
    let size : end - start ≡ n + (end - (start + n)) = omega arith in
    sym (ap (λ m. drop n (take m (drop start piece))) size
    ∙ drop-take n (end - (start + n)) (drop start piece)
    ∙ ap (take (end - (start + n))) (drop-drop n start piece))

-- a blank line that isn't too long is skipped, and a line that isn't blank isn't
pub skipped_blank : (line : List ℕ) → is_long line ≡ false
    → is_blank (without_return line) ≡ true → is_skipped (without_return line) ≡ true
skipped_blank line short blank =
    elim (cases_lt LINE_LIMIT (length (without_return line))) [
      | inl above ↦ absurd (true≢false (sym (lt-ltb LINE_LIMIT (length (without_return line)) above)
          ∙ short))
      | inr within ↦ rw (blank, le-leb (length (without_return line)) LINE_LIMIT within) refl
    ]

-- a line that isn't blank isn't skipped
pub kept_other : (line : List ℕ) → is_blank (without_return line) ≡ false
    → is_skipped (without_return line) ≡ false
kept_other line other = rw other refl

-- a piece was cut to its end and another one read
pub Read-more : (old mid cut new : InputState) (source between source' : Stream) (more : List ℕ)
    → Read old mid source between → CutsPiece mid cut More
    → ReadsPiece cut new more between source' (Ok true) → Read old new source source'
Read-more old mid cut new source between source' more so_far piece read =
    let first : TakesFor mid cut between between [] = record {
      taken = Yields-none between;
      end = λ end is. absurd (true≢false (sym is ∙ piece.0));
    } in
    let second : TakesFor cut new between source' more = record {
      taken = read.0;
      end = λ end is. absurd (true≢false (sym is ∙ read.3));
    } in
    record {
      more = so_far.more ++ ([] ++ more);
      takes = TakesFor-then old mid new source between source' so_far.more ([] ++ more)
          so_far.takes
          (TakesFor-then mid cut new between between source' [] more first second);
      calm = IsFaultless-trans source between source' so_far.calm read.1;
      cuts = CutsLines-then old mid new so_far.more ([] ++ more) [] so_far.cuts
          (CutsLines-then mid cut new [] more [] piece.3 read.4);
    }
