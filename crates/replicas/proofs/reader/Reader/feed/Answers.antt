-- One field more, or the stop at one.
use Rattle.std.proofs.Common.{◌≡◌, ◌≤◌, ◌+◌, ◌-◌, ℕ, Bool, true, false, List, length, take, drop, ap, refl, ◌∙◌, arith, length-append}
use Rattle.std.specs.Prelude.{if◌then◌else◌}
use Rattle.std.proofs.lemmas.List.{length-drop, take_all}
use Rattle.std.proofs.lemmas.Result.{err_from_is_err_and}
use Rattle.replicas.specs.Readers.{reader_of}
use Rattle.replicas.proofs.ReaderLemmas.{come-more, come-none, come-stopped}
use Rattle.replicas.proofs.reader.Reader.feed.Goals as goal
use mir.Val.{bool_byte}

-- the end of a list, as long as it is
tail-is : (xs : List ℕ) (n : ℕ) → take (length xs - n) (drop n xs) ≡ drop n xs
tail-is xs n = take_all (length xs - n) (drop n xs) (omega (arith, length-drop n xs))

-- one patch more, or none
one-or-none : (whole : Bool) → bool_byte whole ≡ (if whole then 1 else 0)
one-or-none true = refl
one-or-none false = refl

-- which is one at most
at-most-one : (whole : Bool) → bool_byte whole ≤ 1
at-most-one true = omega arith
at-most-one false = omega arith

pub loop-rest-init : goal.loop-rest-init
loop-rest-init c =
    come-none (reader_of c.args.self.now) c.args.piece.now c.requires.reading

pub step-requires-clause-room : goal.step-requires-clause-room
step-requires-clause-room c =
    let come = c.loop-rest.invariant in
    omega (
      arith,
      come.fed.taken,
      ap length come.parts,
      length-append come.front c.loop-rest.rest.now,
      c.requires.room,
    )

pub overflow_add-patches : goal.overflow_add-patches
overflow_add-patches c =
    let come = c.loop-rest.invariant in
    let step = c.in_ok-count.ensures in
    omega (
      arith,
      come.few,
      ap length come.parts,
      length-append come.front c.loop-rest.rest.now,
      c.requires.small,
      step.0,
      step.1,
      c.from-patches.ensures,
      at-most-one c.in_ok-count.whole,
    )

pub returns-in_err-count : goal.returns-in_err-count
returns-in_err-count c =
    let p = err_from_is_err_and c.from_residual.result c.from_residual.ensures.1 in
    rw (p.1, p.2) (come-stopped (reader_of c.args.self.now) c.args.piece.now
    (reader_of c.loop-rest.self) (reader_of c.step.new.self) c.loop-rest.rest.now
    c.loop-rest.patches c.in_err-count.field-0.0 c.loop-rest.invariant c.in_err-count.ensures)

pub loop-rest-preserved : goal.loop-rest-preserved
loop-rest-preserved c =
    let step = c.in_ok-count.ensures in
    let rest = c.loop-rest.rest.now in
    come-more (reader_of c.args.self.now) c.args.piece.now (reader_of c.loop-rest.self)
    (reader_of c.step.new.self) rest _ c.loop-rest.patches _ c.in_ok-count.count
    c.in_ok-count.whole c.loop-rest.invariant step.0 step.1 step.2 step.3
    (tail-is rest c.in_ok-count.count)
    (ap (λ k. c.loop-rest.patches + k) (c.from-patches.ensures ∙ one-or-none c.in_ok-count.whole))
