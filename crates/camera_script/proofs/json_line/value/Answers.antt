-- The value of the bytes, or why there is none.
use Rattle.std.proofs.Common.{◌∙◌}
use Rattle.serde_json.specs.Errors.{IsMemory}
use Rattle.camera_script.proofs.LineLemmas.{json_value-utf8, json_value-refused}
use Rattle.camera_script.proofs.json_line.value.Goals as goal

pub returns-in-Ok : goal.returns-in-Ok
returns-in-Ok c = json_value-utf8 c.args.bytes.now c.in-Ok.ensures.ok.0 ∙ c.in-Ok.ensures.ok.1

pub returns-in-Err : goal.returns-in-Err
returns-in-Err c =
    json_value-refused c.args.bytes.now c.fault_of.result (IsMemory c.in-Err.error)
    c.fault_of.ensures.one c.fault_of.ensures.memory c.in-Err.ensures.err
