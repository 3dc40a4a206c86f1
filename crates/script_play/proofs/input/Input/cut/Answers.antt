-- By what the cutter did with the bytes that were left.
use Rattle.std.proofs.Common.{◌≡◌, ap, subst, refl, ◌∙◌, false}
use Rattle.std.specs.Prelude.{◌+◌, ◌-◌, take, drop}
use Rattle.camera_script.specs.declared.cutter.Cut.TheVariants.{Line, Long}
use Rattle.camera_script.specs.Lines.{Cuts}
use Rattle.script_play.specs.Input.{CutsPiece, InputState}
use Rattle.script_play.proofs.InputLemmas.{CutsPiece-line, CutsPiece-long, cut_state, left_behind}
use Rattle.script_play.proofs.input.Input.cut.Goals as goal

pub returns-in-Line : goal.returns-in-Line
returns-in-Line c =
    let inside = c.self.inside in
    let eaten = c.eat_part-count in
    let n = eaten.result.0 in
    let old : InputState = record {
      held = inside.cutter;
      left = take (inside.end - inside.start) (drop inside.start inside.piece);
      count = inside.count;
      number = inside.number;
      is_ended = inside.is_ended;
    } in
    let left = take (inside.end - (inside.start + n)) (drop (inside.start + n) inside.piece) in
    let open_end : inside.is_ended ≡ false = ap (λ s. s.is_ended) c.self.view_is ∙ c.requires in
    let cuts : Cuts old.held old.left n eaten.new.cutter Line =
    subst (Cuts old.held old.left n eaten.new.cutter) c.in-Line.is eaten.ensures.cut in
    let behind = left_behind inside.piece inside.start inside.end n eaten.ensures.taken in
    subst (λ o. CutsPiece o (cut_state old eaten.new.cutter left (inside.number + 1) n open_end
    behind) Line) c.self.view_is
    (CutsPiece-line old eaten.new.cutter left (inside.number + 1) n open_end behind refl cuts)

pub returns-in-Long : goal.returns-in-Long
returns-in-Long c =
    let inside = c.self.inside in
    let eaten = c.eat_part-count in
    let n = eaten.result.0 in
    let old : InputState = record {
      held = inside.cutter;
      left = take (inside.end - inside.start) (drop inside.start inside.piece);
      count = inside.count;
      number = inside.number;
      is_ended = inside.is_ended;
    } in
    let left = take (inside.end - (inside.start + n)) (drop (inside.start + n) inside.piece) in
    let open_end : inside.is_ended ≡ false = ap (λ s. s.is_ended) c.self.view_is ∙ c.requires in
    let cuts : Cuts old.held old.left n eaten.new.cutter Long =
    subst (Cuts old.held old.left n eaten.new.cutter) c.in-Long.is eaten.ensures.cut in
    let behind = left_behind inside.piece inside.start inside.end n eaten.ensures.taken in
    subst (λ o. CutsPiece o (cut_state old eaten.new.cutter left inside.number n open_end
    behind) Long) c.self.view_is
    (CutsPiece-long old eaten.new.cutter left inside.number n open_end behind refl cuts)
