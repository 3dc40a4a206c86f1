-- There is room for so many.
use Rattle.std.proofs.Common.{ℕ, ◌≤◌, List, ◌++◌, length, take, arith, ap, ◌∙◌}
use Rattle.std.proofs.lemmas.List.{length-take-le}
use Rattle.camera_script.specs.Lines.{Held}
use Rattle.camera_script.proofs.CutterLemmas.{succeeds}
use Rattle.camera_script.proofs.cutter.LineCutter.hold.Goals as goal

pub returns-clause-held : goal.returns-clause-held
returns-clause-held c =
    let took = c.try_extend_from_slice-fits in
    let n = c.min-count.result in
    let within : n ≤ length c.args.bytes.now = omega arith in
    let grown = succeeds took.result took.ensures.variant
    (omega (arith, length-take-le n c.args.bytes.now within)) took.ensures.ok in
    let held : List ℕ → Held = λ line. record { line = line; is_whole = c.self.inside.is_whole } in
    let longer : Held → Held = λ h. record h { line = h.line ++ take n c.args.bytes.now } in
    ap held grown ∙ ap longer c.self.view_is
