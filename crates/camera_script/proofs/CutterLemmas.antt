-- How a cutter cuts bytes into lines, whatever comes behind them: the clauses of `LineCutter::eat` and `finish`, and
-- the law `pieces_are_cut_as_one`.
-- What comes isn't known yet, so each statement is about all ways in which the input may go on: `lines_behind` of the
-- beginning of a line and of bytes. Bytes before a line feed go to the beginning, and a line feed ends it
-- (lines_behind-text, lines_behind-feed); a line that is too long is so however it goes on (lines_behind-long), and one
-- that isn't has room for one byte more (is_long-room). From these follow the three ways in which a piece is eaten
-- (cuts-long, cuts-more, cuts-line), and at the end that what was cut from all pieces is what the whole has
-- (HasCut-more, HasCut-line, HasCut-end).
use Rattle.std.proofs.Common.{◌≡◌, ◌≢◌, ℕ, zero, suc, ◌+◌, ◌-◌, ◌<◌, ◌≤◌, Bool, true, false, List, [], ◌∷◌, ◌++◌, length, take, get_or, eqb, refl, sym, ap, ◌∙◌, arith, append_assoc, length-append, inl, inr, min, ◌↔◌}
use Rattle.std.specs.Prelude.{Result, Ok, Err, IsOk, OnOk, if◌then◌else◌}
use Rattle.std.proofs.lemmas.Bool.{cases_Bool, cases_lt, eq-eqb, ne_eqb, lt-ltb, ltb-true, true≢false}
use Rattle.std.proofs.lemmas.List.{append-nil, length-take-le, take_all, take_more, take-take}
use Rattle.camera_script.specs.declared.json_line.TheConstants.{LINE_LIMIT}
use Rattle.camera_script.specs.Line.{carriage_return}
use Rattle.camera_script.specs.declared.cutter.Cut.TheVariants.{Line, Long, More}
use Rattle.camera_script.specs.Lines.{Cuts, HasCut, Held, IsLongBehind, StartsLong, is_long, last_line, line_feed, lines_behind, lines_of, unfinished, without_return}

-- ---- a carriage return at the end

-- a carriage return at the end is cut off
pub without_return-cut : (line : List ℕ) (n : ℕ) → length line ≡ suc n
    → get_or line n 0 ≡ carriage_return → without_return line ≡ take n line
without_return-cut [] n long is = absurd (omega (arith, long))
without_return-cut (byte ∷ []) n long is =
    let none : n ≡ 0 = omega (arith, long) in
    let first : byte ≡ carriage_return = ap (λ k. get_or (byte ∷ []) k 0) (sym none) ∙ is in
    rw (eq-eqb byte carriage_return first, none) refl
without_return-cut (byte ∷ next ∷ line) zero long is = absurd (omega (arith, long))
without_return-cut (byte ∷ next ∷ line) (suc n) long is =
    ap (λ t. byte ∷ t) (without_return-cut (next ∷ line) n (omega (arith, long)) is)

-- a line with another last byte stays
pub without_return-same : (line : List ℕ) (n : ℕ) → length line ≡ suc n
    → get_or line n 0 ≢ carriage_return → without_return line ≡ line
without_return-same [] n long other = absurd (omega (arith, long))
without_return-same (byte ∷ []) n long other =
    let none : 0 ≡ n = omega (arith, long) in
    let first : byte ≢ carriage_return =
    λ e. other (ap (λ k. get_or (byte ∷ []) k 0) (sym none) ∙ e) in
    rw (ne_eqb byte carriage_return first) refl
without_return-same (byte ∷ next ∷ line) zero long other = absurd (omega (arith, long))
without_return-same (byte ∷ next ∷ line) (suc n) long other =
    ap (λ t. byte ∷ t) (without_return-same (next ∷ line) n (omega (arith, long)) other)

-- an empty line stays
pub without_return-none : (line : List ℕ) → length line ≤ 0 → without_return line ≡ line
without_return-none [] none = refl
without_return-none (byte ∷ line) none = absurd (omega (arith, none))

-- ---- lines that are too long

-- one byte is cut off at most
length-without_return : (line : List ℕ) → length line ≤ length (without_return line) + 1
length-without_return [] = omega arith
length-without_return (byte ∷ []) = omega arith
length-without_return (byte ∷ next ∷ line) =
    let rest = length-without_return (next ∷ line) in
    omega (arith, rest)

-- and none is added
without_return-shorter : (line : List ℕ) → length (without_return line) ≤ length line
without_return-shorter [] = omega arith
without_return-shorter (byte ∷ []) =
    elim (cases_Bool (eqb byte carriage_return)) [
      | inl is ↦ rw is (omega arith)
      | inr other ↦ rw other (omega arith)
    ]
without_return-shorter (byte ∷ next ∷ line) =
    let rest = without_return-shorter (next ∷ line) in
    omega (arith, rest)

-- a line with two bytes more than the limit is too long
pub is_long-full : (line : List ℕ) → LINE_LIMIT + 2 ≤ length line → is_long line ≡ true
is_long-full line full =
    lt-ltb LINE_LIMIT (length (without_return line)) (omega (arith, length-without_return line))

-- a line that is too long is so however it goes on
pub is_long-more : (line : List ℕ) (byte : ℕ) → is_long line ≡ true
    → is_long (line ++ byte ∷ []) ≡ true
is_long-more line byte long =
    let above = ltb-true LINE_LIMIT (length (without_return line)) long in
    lt-ltb LINE_LIMIT (length (without_return (line ++ byte ∷ [])))
    (omega (
      arith,
      above,
      without_return-shorter line,
      length-without_return (line ++ byte ∷ []),
      length-append line (byte ∷ []),
    ))

-- it has a byte
pub is_long-some : (line : List ℕ) → is_long line ≡ true
    → (byte : ℕ) × (rest : List ℕ) × (line ≡ byte ∷ rest)
is_long-some [] long = absurd (cc)
is_long-some (byte ∷ rest) long = (byte, rest, refl)

-- it is the last line, if it is followed by no line feed
last_line-long : (ended : Bool) (line : List ℕ) → is_long line ≡ true
    → StartsLong (last_line ended line)
last_line-long true [] long = absurd (cc)
last_line-long true (byte ∷ rest) long = long
last_line-long false line long = rw long long

-- the first line behind its beginning is too long if this is
pub lines_behind-long : (ended : Bool) (line bytes : List ℕ) → is_long line ≡ true
    → StartsLong (lines_behind ended line bytes)
lines_behind-long ended line [] long = last_line-long ended line long
lines_behind-long ended line (byte ∷ bytes) long =
    elim (cases_Bool (eqb byte line_feed)) [
      | inl is ↦ rw is long
      | inr other ↦ rw other
          (lines_behind-long ended (line ++ byte ∷ []) bytes (is_long-more line byte long))
    ]

-- ---- bytes behind the beginning of a line

-- bytes before the first line feed go behind it
pub lines_behind-text : (ended : Bool) (line bytes rest : List ℕ) (n : ℕ) → n ≤ length bytes
    → ((k : ℕ) → k < n → get_or bytes k 0 ≢ line_feed)
    → lines_behind ended line (take n bytes ++ rest)
    ≡ lines_behind ended (line ++ take n bytes) rest
lines_behind-text ended line bytes rest zero within before =
    ap (λ l. lines_behind ended l rest) (sym (append-nil line))
lines_behind-text ended line [] rest (suc n) within before = absurd (omega (arith, within))
lines_behind-text ended line (byte ∷ bytes) rest (suc n) within before =
    let other : eqb byte line_feed ≡ false = ne_eqb byte line_feed (before 0 (omega arith)) in
    let later =
    lines_behind-text ended (line ++ byte ∷ []) bytes rest n (omega (arith, within))
    (λ k below. before (suc k) (omega (arith, below))) in
    let same = append_assoc line (byte ∷ []) (take n bytes) in
    rw other (later ∙ ap (λ l. lines_behind ended l rest) same)

-- a line feed behind them ends the line
pub lines_behind-feed : (ended : Bool) (line bytes rest : List ℕ) (n : ℕ) → n < length bytes
    → ((k : ℕ) → k < n → get_or bytes k 0 ≢ line_feed) → get_or bytes n 0 ≡ line_feed
    → lines_behind ended line (take (n + 1) bytes ++ rest)
    ≡ (line ++ take n bytes) ∷ lines_behind ended [] rest
lines_behind-feed ended line bytes rest n within before feed =
    let more : take (n + 1) bytes ≡ take n bytes ++ line_feed ∷ [] =
    take_more bytes n 0 within ∙ ap (λ byte. take n bytes ++ byte ∷ []) feed in
    ap (λ t. lines_behind ended line (t ++ rest)) more
    ∙ ap (lines_behind ended line) (append_assoc (take n bytes) (line_feed ∷ []) rest)
    ∙ lines_behind-text ended line bytes (line_feed ∷ rest) n (omega arith) before

-- ---- what a cutter does

-- a call that has to succeed, by its own test
pub succeeds : {T E P Q : Type 0} (r : Result T E) → IsOk r ↔ Q → Q → OnOk r P → P
succeeds {T = T} {E = E} (Ok done) variant fits ok = ok
succeeds {T = T} {E = E} (Err fault) variant fits ok =
    let no : IsOk {T = T} {E = E} (Err fault) = variant.1 fits in
    absurd (cc)

-- a line that isn't too long doesn't fill the room
is_long-room : (line : List ℕ) → is_long line ≡ false → length line < LINE_LIMIT + 2
is_long-room line short =
    elim (cases_lt (length line) (LINE_LIMIT + 2)) [
      | inl below ↦ below
      | inr full ↦ absurd (true≢false (sym (is_long-full line full) ∙ short))
    ]

-- bytes of a piece before its first line feed, as many as there is room for, were put behind the beginning of a line
module _ (line piece held : List ℕ) (n end : ℕ) (within : end ≤ length piece)
    (before : (k : ℕ) → k < end → get_or piece k 0 ≢ line_feed)
    (least : n ≡ min (length (take end piece)) (LINE_LIMIT + 2 - length line))
    (grown : held ≡ line ++ take n (take end piece)) where
  -- no more bytes are taken than there are before the line feed
  few : n ≤ end
  few = omega (arith, least, length-take-le end piece within)

  -- what is held then is the line with the first bytes of the piece
  is : held ≡ line ++ take n piece
  is = grown ∙ ap (λ t. line ++ t) (take-take n end piece few)

  -- the line is too long
  pub cuts-long : is_long held ≡ true
      → (ended : Bool) (rest : List ℕ)
      → StartsLong (lines_behind ended line (take n piece ++ rest))
  cuts-long long ended rest =
      rw (lines_behind-text ended line piece rest n (omega (arith, few))
      (λ k below. before k (omega (arith, few))))
      (lines_behind-long ended (line ++ take n piece) rest (sym (ap is_long is) ∙ long))

  -- they were the whole piece
  pub cuts-more : n ≡ length piece
      → (ended : Bool) (rest : List ℕ)
      → lines_behind ended line (piece ++ rest) ≡ lines_behind ended held rest
  cuts-more all ended rest =
      ap (λ t. lines_behind ended line (t ++ rest)) (sym (take_all n piece (omega arith)))
      ∙ lines_behind-text ended line piece rest n (omega (arith, few))
      (λ k below. before k (omega (arith, few)))
      ∙ ap (λ t. lines_behind ended t rest) (sym is)

  -- or a line feed is behind them, if the line isn't too long
  pub cuts-line : is_long held ≡ false → n ≢ length piece
      → (end < length piece → get_or piece end 0 ≡ line_feed)
      → (ended : Bool) (rest : List ℕ)
      → lines_behind ended line (take (n + 1) piece ++ rest) ≡ held ∷ lines_behind ended [] rest
  cuts-line short other feed ended rest =
      let size : length held ≡ length line + n =
      ap length is ∙ length-append line (take n piece)
      ∙ ap (λ k. length line + k) (length-take-le n piece (omega (arith, few))) in
      let whole : n ≡ end =
      omega (arith, least, is_long-room held short, size, length-take-le end piece within) in
      lines_behind-feed ended line piece rest n (omega (arith, few))
      (λ k below. before k (omega (arith, few)))
      (ap (λ k. get_or piece k 0) whole ∙ feed (omega (arith, few)))
      ∙ ap (λ t. t ∷ lines_behind ended [] rest) (sym is)

-- ---- what was cut from all that came

-- one more piece goes on with the line
pub HasCut-more : (eaten : List ℕ) (lines : List (List ℕ)) (old new : Held) (piece : List ℕ)
    (n : ℕ) → HasCut eaten lines old → Cuts old piece n new More
    → HasCut (eaten ++ piece) lines new
HasCut-more eaten lines old new piece n so_far cuts = λ ended rest.
    ap (lines_behind ended []) (append_assoc eaten piece rest) ∙ so_far ended (piece ++ rest)
    ∙ ap (λ t. lines ++ t) (cuts.2 ended rest)

-- a piece ends it
pub HasCut-line : (eaten : List ℕ) (lines : List (List ℕ)) (old new : Held) (piece : List ℕ)
    (n : ℕ) → HasCut eaten lines old → Cuts old piece n new Line
    → HasCut (eaten ++ take n piece) (lines ++ new.line ∷ []) new
HasCut-line eaten lines old new piece n so_far cuts = λ ended rest.
    ap (lines_behind ended []) (append_assoc eaten (take n piece) rest)
    ∙ so_far ended (take n piece ++ rest)
    ∙ ap (λ t. lines ++ t) (cuts.3 ended rest)
    ∙ sym (append_assoc lines (new.line ∷ []) (lines_behind ended [] rest))
    ∙ ap (λ w. (lines ++ new.line ∷ []) ++ lines_behind ended (if w then [] else new.line) rest)
    (sym cuts.1)

-- or finds it too long
pub HasCut-long : (eaten : List ℕ) (lines : List (List ℕ)) (old new : Held) (piece : List ℕ)
    (n : ℕ) → HasCut eaten lines old → Cuts old piece n new Long
    → IsLongBehind (eaten ++ take n piece) lines
HasCut-long eaten lines old new piece n so_far cuts = λ ended rest. (
  lines_behind ended (unfinished old) (take n piece ++ rest),
  cuts ended rest,
  ap (lines_behind ended []) (append_assoc eaten (take n piece) rest)
      ∙ so_far ended (take n piece ++ rest),
)

-- the end of the input
pub HasCut-end : (eaten : List ℕ) (lines last : List (List ℕ)) (held : Held)
    → HasCut eaten lines held → last_line true (unfinished held) ≡ last
    → lines_of eaten ≡ lines ++ last
HasCut-end eaten lines last held so_far is =
    ap (lines_behind true []) (sym (append-nil eaten)) ∙ so_far true []
    ∙ ap (λ t. lines ++ t) is
