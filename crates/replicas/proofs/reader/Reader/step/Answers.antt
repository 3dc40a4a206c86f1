-- A field that is refused, whose last bytes are the first ones.
use Rattle.std.proofs.Common.{◌≡◌, ◌-◌, length, take, drop, sym, arith}
use Rattle.std.proofs.lemmas.List.{length-take-le, take-append-drop}
use Rattle.std.proofs.lemmas.Result.{err_from_is_err_and}
use Rattle.replicas.specs.Drafts.{draft_of}
use Rattle.replicas.proofs.ReaderLemmas.{field-stopped}
use Rattle.replicas.proofs.reader.Reader.step.Goals as goal

pub returns-in_err-whole : goal.returns-in_err-whole
returns-in_err-whole c =
    let old = c.args.self.now in
    let new = c.read_whole.new.self in
    let rest = c.args.rest.now in
    let wanted = c.size.result - c.len.result in
    let long : length (take wanted rest) ≡ wanted = length-take-le wanted rest
    c.if-rest-wanted.false in
    let p = err_from_is_err_and c.from_residual.result c.from_residual.ensures.1 in
    rw (p.1, p.2) (field-stopped old.held (draft_of old.draft) old.field.items old.taken rest
    (take wanted rest) (drop wanted rest) new.field.items new.held (draft_of new.draft) new.taken
    c.in_err-whole.field-0.0 (sym (take-append-drop wanted rest))
    (omega (arith, long, c.read_whole.ensures.taken)) c.in_err-whole.ensures.reads)
