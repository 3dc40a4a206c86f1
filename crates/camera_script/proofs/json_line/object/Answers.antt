-- A line's members, step by step.
use Rattle.std.proofs.lemmas.Result.{err_from_is_err_and}
use Rattle.serde_json.specs.View.{view, members_view}
use Rattle.camera_script.proofs.LineLemmas.{line_members-not_json, line_members-value, line_members-object, short-from_test}
use Rattle.camera_script.proofs.json_line.object.Goals as goal

pub returns-in_err-value-clause-members : goal.returns-in_err-value-clause-members
returns-in_err-value-clause-members c =
    let line = c.args.line.now in
    let short =
    short-from_test line c.is_too_long.result c.is_too_long.ensures c.if-is_too_long.false in
    let p = err_from_is_err_and c.from_residual.result c.from_residual.ensures.1 in
    rw (p.1, p.2) (line_members-not_json line c.in_err-value.field-0.0 short c.in_err-value.ensures)

pub returns-clause-members : goal.returns-clause-members
returns-clause-members c =
    let line = c.args.line.now in
    let short =
    short-from_test line c.is_too_long.result c.is_too_long.ensures c.if-is_too_long.false in
    let members =
    line_members-value line (view c.in_ok-value.field-0) short c.in_ok-value.ensures in
    rw c.ok_or.ensures.value
    (line_members-object (λ object. members_view object.entries) line
    (view c.in_ok-value.field-0) c.members_of.result members c.members_of.ensures)
