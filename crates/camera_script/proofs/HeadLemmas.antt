-- A head's fault is never that its command isn't known: the law `heads_know_no_commands`.
-- A head is read by a chain of steps, and each step that goes on, each missing value and each choice gives only the
-- faults of its parts (after-apart, ok_or-apart, cond-apart). So it is enough that none of the parts of `head_reading`
-- names this fault.
use Rattle.std.proofs.Common.{◌≡◌, ℕ, Bool, true, false, cond, List, [], length, ap}
use Rattle.std.specs.Prelude.{Option, Some, None, ok_or, Result, Ok, Err, nat_lt}
use Rattle.serde_json.specs.Data.{Members}
use Rattle.serde_json.specs.Find.{as_object}
use Rattle.camera_script.specs.declared.fault.LineFault.{LineFault}
use Rattle.camera_script.specs.declared.fault.LineFault.TheVariants.{TooLong, NotJson, NotObject, UnknownMember, MissingMember, BadValue, UnknownCommand}
use Rattle.camera_script.specs.declared.json_line.TheConstants.{LINE_LIMIT}
use Rattle.camera_script.specs.Line.{after, json_value, line_members, object_members}
use Rattle.camera_script.specs.Members.{exactly_named, has_each, has_only}
use Rattle.camera_script.specs.Reading.{head_names, settings_in, head_in, head_reading}

-- a step that goes on never gives a fault, if neither part does
after-apart : {A B : Type 0} (f : A → Result B LineFault) (r : Result A LineFault)
    (fault : LineFault)
    → (r ≡ Err fault → ⊥) → ((x : A) → f x ≡ Err fault → ⊥) → after f r ≡ Err fault → ⊥
after-apart f (Ok x) fault first next is = next x is
after-apart f (Err other) fault first next is = let same : other ≡ fault = cc in first (ap Err same)

-- a missing value gives no other fault than the given one
ok_or-apart : {A : Type 0} (o : Option A) (given fault : LineFault) → (given ≡ fault → ⊥)
    → ok_or o given ≡ Err fault → ⊥
ok_or-apart None given fault apart is = apart (cc)
ok_or-apart (Some x) given fault apart is = cc

-- a choice never gives a fault that neither part gives
cond-apart : {A : Type 0} (b : Bool) (one other : Result A LineFault) (fault : LineFault)
    → (one ≡ Err fault → ⊥) → (other ≡ Err fault → ⊥) → cond b one other ≡ Err fault → ⊥
cond-apart true one other fault first second is = first is
cond-apart false one other fault first second is = second is

-- the members of a line never lack a known command
line_members-known : (line : List ℕ) → line_members line ≡ Err UnknownCommand → ⊥
unfolding line_members
line_members-known line =
    cond-apart (nat_lt LINE_LIMIT (length line)) (Err TooLong)
    (after object_members (ok_or (json_value line) NotJson)) UnknownCommand (λ is. cc)
    (after-apart object_members (ok_or (json_value line) NotJson) UnknownCommand
    (ok_or-apart (json_value line) NotJson UnknownCommand (λ is. cc))
    (λ value. ok_or-apart (as_object value) NotObject UnknownCommand (λ is. cc)))

-- neither does the comparison of names
exactly_named-known : (required optional : List (List ℕ)) (members : Members)
    → exactly_named required optional members ≡ Err UnknownCommand → ⊥
exactly_named-known required optional members =
    cond-apart (has_each required members)
    (cond (has_only required optional members) (Ok members) (Err UnknownMember))
    (Err MissingMember) UnknownCommand
    (cond-apart (has_only required optional members) (Ok members) (Err UnknownMember)
    UnknownCommand (λ is. cc) (λ is. cc)) (λ is. cc)

-- neither do the values of a head
head_in-known : (members : Members) → head_in members ≡ Err UnknownCommand → ⊥
unfolding head_in
head_in-known members =
    after-apart (λ found. ok_or (settings_in found) BadValue)
    (exactly_named head_names [] members) UnknownCommand
    (exactly_named-known head_names [] members)
    (λ found. ok_or-apart (settings_in found) BadValue UnknownCommand (λ is. cc))

-- a head's fault is never that its command isn't known
pub head_reading-known : (line : List ℕ) → head_reading line ≡ Err UnknownCommand → ⊥
head_reading-known line =
    after-apart head_in (line_members line) UnknownCommand (line_members-known line) head_in-known
