-- By how many bytes there were.
use Rattle.std.proofs.Common.{ℕ, ◌≡◌, ◌-◌, arith, ap, ◌∙◌}
use Rattle.std.specs.Prelude.{◌+◌, take}
use Rattle.script_play.specs.Input.{InputState}
use Rattle.script_play.proofs.InputLemmas.{ReadsPiece-more}
use Rattle.script_play.proofs.input.Input.read.Goals as goal

pub returns-clause-read : goal.returns-clause-read
returns-clause-read g c =
    let same = ap (λ s. s.count) c.self.view_is in
    let inside = c.self.inside in
    let got = c.in_ok-count.ensures in
    let n = c.in_ok-count.count in
    let piece = c.read_piece.new.piece in
    let all : n - 0 ≡ n = omega arith in
    let shape : ℕ → InputState = λ k. record {
      held = inside.cutter;
      left = take k piece;
      count = inside.count + n;
      number = inside.number;
      is_ended = inside.is_ended;
    } in
    let to_old : InputState → InputState =
    λ s. record s { left = take n piece; count = s.count + n } in
    ReadsPiece-more c.args.self.now _ (g.S.Source.state c.args.source.now)
    (g.S.Source.state c.read_piece.new.source) piece n c.requires.open_end
    c.requires.left (omega (arith, same)) (omega (arith, got.within)) got.taken got.faultless
    got.end (ap shape all ∙ ap to_old c.self.view_is)
