-- What a line reads to, step by step, as the code takes the steps: these serve the clause `reading` of `object`.
-- The definition looks at the length, then whether the bytes are text and JSON, then whether the value is an object.
-- Each lemma is one outcome of one of these steps: bytes that are refused by serde_json have no value; a line that is
-- too long, or short enough; a line that isn't JSON; and the members of a value that is an object. Memory may run out
-- in each, and is kept as the first of two cases.
use Rattle.std.proofs.Common.{◌≡◌, ℕ, ◌<◌, ◌≤◌, ◌⊎◌, ◌↔◌, Bool, true, false, List, length, sym, ap, ◌∙◌, inl, inr}
use Rattle.std.specs.Prelude.{Option, Some, None, Ok, Err, IsUtf8, nat_lt, ok_or, option_map, MatchResult}
use Rattle.std.specs.Str.{is_utf8}
use Rattle.std.proofs.lemmas.Bool.{cases_Bool, cases_lt, iff_false, lt-ltb, le-ltb, cond-true, cond-false}
use Rattle.std.proofs.lemmas.Str.{IsUtf8-from_is_utf8, is_utf8-from_IsUtf8}
use Rattle.serde_json.specs.Data.{Data, Members}
use Rattle.serde_json.specs.Read.{read}
use Rattle.serde_json.specs.Find.{as_object}
use Rattle.camera_script.specs.declared.fault.LineFault.{LineFault}
use Rattle.camera_script.specs.declared.fault.LineFault.TheVariants.{NoMemory, TooLong, NotJson, NotObject}
use Rattle.camera_script.specs.declared.json_line.TheConstants.{LINE_LIMIT}
use Rattle.camera_script.specs.Line.{json_value, line_members, object_members, after}

-- the value of bytes that are text is what serde_json reads
pub json_value-utf8 : (bytes : List ℕ) → IsUtf8 bytes → json_value bytes ≡ read bytes
unfolding json_value
json_value-utf8 bytes text =
    cond-true (is_utf8 bytes) (read bytes) None (is_utf8-from_IsUtf8 bytes text)

-- bytes that are refused have no value
pub json_value-none : (bytes : List ℕ) → (IsUtf8 bytes → read bytes ≡ None)
    → json_value bytes ≡ None
unfolding json_value
json_value-none bytes refused =
    elim (cases_Bool (is_utf8 bytes)) [
      | inl text ↦ cond-true (is_utf8 bytes) (read bytes) None text
          ∙ refused (IsUtf8-from_is_utf8 bytes text)
      | inr other ↦ cond-false (is_utf8 bytes) (read bytes) None other
    ]

-- bytes that are refused, by the fault that they get
pub json_value-refused : (bytes : List ℕ) (fault : LineFault) (memory : Type 0)
    → (fault ≡ NoMemory) ⊎ (fault ≡ NotJson) → (fault ≡ NoMemory) ↔ memory
    → ((memory → ⊥) → IsUtf8 bytes → read bytes ≡ None)
    → (fault ≡ NoMemory) ⊎ ((json_value bytes ≡ None) × (fault ≡ NotJson))
json_value-refused bytes fault memory (inl out) told refused = inl out
json_value-refused bytes fault memory (inr other) told refused =
    inr (
      json_value-none bytes
          (refused (λ out. let is : fault ≡ NoMemory = told.1 out in cc)),
      other,
    )

-- a line that is too long
pub line_members_long : (line : List ℕ) → LINE_LIMIT < length line → line_members line ≡ Err TooLong
unfolding line_members
line_members_long line long =
    cond-true (nat_lt LINE_LIMIT (length line)) (Err TooLong) _
    (lt-ltb LINE_LIMIT (length line) long)

-- a line that isn't
pub line_members-short : (line : List ℕ) → length line ≤ LINE_LIMIT
    → line_members line ≡ after object_members (ok_or (json_value line) NotJson)
unfolding line_members
line_members-short line short =
    cond-false (nat_lt LINE_LIMIT (length line)) (Err TooLong) _
    (le-ltb LINE_LIMIT (length line) short)

-- the fault of a line that isn't JSON
pub line_members-not_json : (line : List ℕ) (fault : LineFault) → length line ≤ LINE_LIMIT
    → (fault ≡ NoMemory) ⊎ ((json_value line ≡ None) × (fault ≡ NotJson))
    → (fault ≡ NoMemory) ⊎ (line_members line ≡ Err fault)
line_members-not_json line fault short (inl memory) = inl memory
line_members-not_json line fault short (inr (none, is)) =
    inr (line_members-short line short ∙ ap (λ o. after object_members (ok_or o NotJson)) none
    ∙ ap Err (sym is))

-- the members of a line that is JSON are those of its value
pub line_members-value : (line : List ℕ) (value : Data) → length line ≤ LINE_LIMIT
    → json_value line ≡ Some value → line_members line ≡ object_members value
line_members-value line value short is =
    line_members-short line short ∙ ap (λ o. after object_members (ok_or o NotJson)) is

-- what the test of the length told
pub short-from_test : (line : List ℕ) (long : Bool) → (long ≡ true) ↔ (LINE_LIMIT < length line)
    → long ≡ false → length line ≤ LINE_LIMIT
short-from_test line long told short =
    elim (cases_lt LINE_LIMIT (length line)) [
      | inl above ↦ absurd (iff_false told short above)
      | inr within ↦ within
    ]

-- a value's members, as the code takes them
pub line_members-object : {A : Type 0} (show : A → Members) (line : List ℕ) (value : Data)
    (object : Option A) → line_members line ≡ object_members value
    → option_map show object ≡ as_object value
    → MatchResult (ok_or object NotObject) (λ members. line_members line ≡ Ok (show members))
    (λ fault. (fault ≡ NoMemory) ⊎ (line_members line ≡ Err fault))
line_members-object show line value None is found =
    inr (is ∙ ap (λ o. ok_or o NotObject) (sym found))
line_members-object show line value (Some members) is found =
    is ∙ ap (λ o. ok_or o NotObject) (sym found)
