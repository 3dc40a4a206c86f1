-- By the last byte.
use Rattle.std.proofs.Common.{◌≡◌, suc, ◌-◌, length, sym, arith}
use Rattle.camera_script.proofs.CutterLemmas.{without_return-cut, without_return-same, without_return-none}
use Rattle.camera_script.proofs.cutter.without_return.Goals as goal
use Rattle.camera_script.proofs.cutter.without_return.Goals.{else-end-gt0-via-then-end-gt0+else-line-end-eq13, else-end-gt0-via-else-end-gt0}

pub returns-then-line-end-eq13 : goal.returns-then-line-end-eq13
returns-then-line-end-eq13 c =
    let line = c.args.line.now in
    let long : length line ≡ suc (length line - 1) = omega (arith, c.if-end-gt0.true) in
    sym (without_return-cut line (length line - 1) long c.if-line-end-eq13.true)

pub returns-else-end-gt0 : goal.returns-else-end-gt0
returns-else-end-gt0 c =
    let line = c.args.line.now in
    elim c.else-end-gt0.branch [
      | else-end-gt0-via-then-end-gt0+else-line-end-eq13 w ↦
          let long : length line ≡ suc (length line - 1) = omega (arith, w.if-end-gt0.true) in
          sym (without_return-same line (length line - 1) long w.if-line-end-eq13.false)
      | else-end-gt0-via-else-end-gt0 w ↦ sym (without_return-none line w.if-end-gt0.false)
    ]
