-- The head, or a field of a patch, which goes on or takes effect.
use Rattle.std.proofs.Common.{◌≡◌, length, Ok, Some, true, false, sym, subst}
use Rattle.std.specs.Prelude.{Option}
use Rattle.std.proofs.lemmas.Result.{err_from_is_err_and}
use Rattle.replicas.specs.Drafts.{draft_of}
use Rattle.replicas.specs.Held.{HeldState}
use Rattle.replicas.specs.Replicas.{IsDraftOf, ReadsField, field_size}
use Rattle.replicas.specs.Stages.{new_draft}
use Rattle.replicas.proofs.FeedLemmas.{field-read, head-read, head-refused, opened, patch-read}
use Rattle.replicas.proofs.feeding.read_field.Goals as goal

pub returns-in_err-settings : goal.returns-in_err-settings
returns-in_err-settings c =
    let field = c.args.field.now in
    let draft = draft_of c.args.draft.now in
    let none = c.in_default.is in
    let long : length field ≡ 10 =
    subst (λ (h : Option HeldState). length field ≡ field_size h draft.stage) none c.requires.size
    in
    let p = err_from_is_err_and c.from_residual.result c.from_residual.ensures.1 in
    subst (λ (h : Option HeldState). ReadsField h draft field h draft c.from_residual.result) (sym
    none)
    (rw (p.1, p.2) (head-refused field c.in_err-settings.field-0.0 draft draft long
    (sym c.in_err-settings.ensures)))

pub returns-in_default : goal.returns-in_default
returns-in_default c =
    let field = c.args.field.now in
    let draft = draft_of c.args.draft.now in
    let none = c.in_default.is in
    let long : length field ≡ 10 =
    subst (λ (h : Option HeldState). length field ≡ field_size h draft.stage) none c.requires.size
    in
    let first : draft ≡ new_draft 0 =
    subst (λ (h : Option HeldState). IsDraftOf h draft) none c.requires.draft in
    let new = c.in_ok-new.field-0 in
    let opens = c.in_ok-new.ensures in
    subst (λ (h : Option HeldState). ReadsField h draft field (Some new) draft (Ok false)) (sym
    none)
    (head-read field c.in_ok-settings.settings new draft first long (sym c.in_ok-settings.ensures)
    (opened new c.in_ok-settings.settings opens.settings opens.events opens.blocks))

pub returns-in_default-stage : goal.returns-in_default-stage
returns-in_default-stage c =
    let field = c.args.field.now in
    let draft = draft_of c.args.draft.now in
    let new = draft_of c.read.new.self in
    let world = c.in-Some.world in
    subst (λ (h : Option HeldState). ReadsField h draft field (Some world) new (Ok false))
    (sym c.in-Some.is)
    (field-read world draft field c.requires.some new c.in_ok-read.ensures.reads
    c.in_ok-read.ensures.within c.in_default-stage.not-End)

pub returns : goal.returns
returns c =
    let field = c.args.field.now in
    let draft = draft_of c.args.draft.now in
    let new = draft_of c.take_effect.new.draft in
    let world = c.take_effect.new.held in
    subst (λ (h : Option HeldState). ReadsField h draft field (Some world) new (Ok true))
    (sym c.in-Some.is)
    (patch-read c.in-Some.world draft field c.requires.some (draft_of c.read.new.self) new world
    c.in_ok-read.ensures.reads c.in-End.is c.in_ok-take_effect.ensures.world
    c.take_effect.ensures.draft)
