-- By where the line feed is, and how much room there is.
use Rattle.std.proofs.Common.{◌≡◌, true, false, refl, ap, sym, ◌∙◌, arith}
use Rattle.std.specs.Prelude.{[], ◌∷◌, ◌++◌, take, ◌-◌, ◌+◌, min, length, if◌then◌else◌}
use Rattle.camera_script.specs.Lines.{is_long, lines_behind, unfinished}
use Rattle.camera_script.specs.declared.json_line.TheConstants.{LINE_LIMIT}
use Rattle.camera_script.proofs.CutterLemmas.{cuts-long, cuts-more, cuts-line, lines_behind-long}
use Rattle.camera_script.proofs.cutter.LineCutter.eat.Goals as goal

pub returns-then-is_long-clause-cut : goal.returns-then-is_long-clause-cut
returns-then-is_long-clause-cut c =
    let long : is_long (unfinished c.args.self.now) ≡ true =
    sym (ap (λ h. is_long h.line) c.begin.ensures) ∙ sym c.is_long.ensures ∙ c.if-is_long.true in
    λ ended rest. lines_behind-long ended (unfinished c.args.self.now) rest long

pub returns-then-is_long-2-clause-cut : goal.returns-then-is_long-2-clause-cut
returns-then-is_long-2-clause-cut c =
    let line = unfinished c.args.self.now in
    let held = c.hold-count.new.self.line in
    let piece = c.args.piece.now in
    let n = c.hold-count.result in
    let found = c.line_length-end in
    let end = found.result in
    let within = found.ensures.within in
    let before = found.ensures.before in
    let least : n ≡ min (length (take end piece)) (LINE_LIMIT + 2 - length line) =
    c.hold-count.ensures.count
    ∙ ap (λ h. min (length (take end piece)) (LINE_LIMIT + 2 - length h.line)) c.begin.ensures in
    let grown : held ≡ line ++ take n (take end piece) =
    ap (λ h. h.line) c.hold-count.ensures.held
    ∙ ap (λ h. h.line ++ take n (take end piece)) c.begin.ensures in
    let long : is_long held ≡ true = sym c.is_long-2.ensures ∙ c.if-is_long-2.true in
    cuts-long line piece held n end within before least grown long

pub returns-then-count-piece-clause-cut : goal.returns-then-count-piece-clause-cut
returns-then-count-piece-clause-cut c =
    let line = unfinished c.args.self.now in
    let held = c.hold-count.new.self.line in
    let piece = c.args.piece.now in
    let n = c.hold-count.result in
    let found = c.line_length-end in
    let end = found.result in
    let within = found.ensures.within in
    let before = found.ensures.before in
    let least : n ≡ min (length (take end piece)) (LINE_LIMIT + 2 - length line) =
    c.hold-count.ensures.count
    ∙ ap (λ h. min (length (take end piece)) (LINE_LIMIT + 2 - length h.line)) c.begin.ensures in
    let grown : held ≡ line ++ take n (take end piece) =
    ap (λ h. h.line) c.hold-count.ensures.held
    ∙ ap (λ h. h.line ++ take n (take end piece)) c.begin.ensures in
    let short : is_long held ≡ false = sym c.is_long-2.ensures ∙ c.if-is_long-2.false in
    let goes_on : unfinished c.hold-count.new.self ≡ held =
    ap (λ h. if h.is_whole then [] else held) c.hold-count.ensures.held
    ∙ ap (λ h. if h.is_whole then [] else held) c.begin.ensures in (
      c.if-count-piece.true,
      ap is_long goes_on ∙ short,
      λ ended rest. cuts-more line piece held n end within before
          least grown c.if-count-piece.true ended rest
          ∙ ap (λ l. lines_behind ended l rest) (sym goes_on),
    )

pub returns-else-count-piece-clause-cut : goal.returns-else-count-piece-clause-cut
returns-else-count-piece-clause-cut c =
    let line = unfinished c.args.self.now in
    let held = c.hold-count.new.self.line in
    let piece = c.args.piece.now in
    let n = c.hold-count.result in
    let found = c.line_length-end in
    let end = found.result in
    let within = found.ensures.within in
    let before = found.ensures.before in
    let least : n ≡ min (length (take end piece)) (LINE_LIMIT + 2 - length line) =
    c.hold-count.ensures.count
    ∙ ap (λ h. min (length (take end piece)) (LINE_LIMIT + 2 - length h.line)) c.begin.ensures in
    let grown : held ≡ line ++ take n (take end piece) =
    ap (λ h. h.line) c.hold-count.ensures.held
    ∙ ap (λ h. h.line ++ take n (take end piece)) c.begin.ensures in
    let short : is_long held ≡ false = sym c.is_long-2.ensures ∙ c.if-is_long-2.false in
    let same = ap (λ h. h.line) c.self.view_is in (
      omega arith,
      refl,
      ap is_long same ∙ short,
      λ ended rest. cuts-line line piece held n end within before
          least grown short c.if-count-piece.false found.ensures.end ended rest
          ∙ ap (λ l. l ∷ lines_behind ended [] rest) (sym same),
    )
