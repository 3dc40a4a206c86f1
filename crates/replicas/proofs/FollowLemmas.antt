-- Fuel is enough for each byte: a patch that was read leaves fewer bytes than it came from.
-- Each reader takes bytes from the front: a field (`field-shorter`), items (`items-leave`), a block and a patch
-- (`block-leaves`, `patch-shorter`). So any fuel for as many bytes gives what fuel for each byte gives (`enough`), and
-- what is followed is one patch, and what is behind it (`follow_all-step`).
use Rattle.std.proofs.Common.{◌≡◌, ℕ, zero, suc, ◌-◌, ◌≤◌, Bool, List, [], ◌∷◌, ◌++◌, length, take, drop, Result, Some, Ok, Err, refl, sym, ap, subst, ◌∙◌, arith, inl, inr}
use Rattle.std.specs.Prelude.{cond, nat_lt}
use Rattle.std.proofs.lemmas.Bool.{cases_Bool}
use Rattle.std.proofs.lemmas.List.{length-drop}
use Rattle.terrain.specs.declared.event.Event.{Event}
use Rattle.replicas.specs.declared.fault.WireFault.{WireFault}
use Rattle.replicas.specs.Following.{Outcome, behind_patch, ends, follow, follow_all, has_none, proceed, with_patches}
use Rattle.replicas.specs.Grammar.{WireBlock, WirePatch}
use Rattle.replicas.specs.Reading.{◌>>=◌, More, Reading, Refused, ReplicaWorld, Whole, block_at, event_at, field, items, judged, patch_at}

-- a reading leaves at most so many bytes
pub Leaves : {A : Type 0} → Reading A → ℕ → Type 0
Leaves {A} r n = (x : A) (rest : List ℕ) → r ≡ Whole x rest → length rest ≤ n

-- what is behind a value
rest_of : {A : Type 0} (x y : A) (a b : List ℕ) → Whole x a ≡ Whole y b → a ≡ b
rest_of x y a b same = cc

-- nothing is refused that is whole
not_refused : {A : Type 0} (fault : WireFault) (a : List ℕ) (y : A) (b : List ℕ)
    → Refused fault a ≡ Whole y b → ⊥
not_refused fault a y b same = cc

-- nor is what isn't known yet
not_more : {A : Type 0} (y : A) (b : List ℕ) → More ≡ Whole y b → ⊥
not_more y b same = cc

-- a field
judged-leaves : {A : Type 0} (r : Result A WireFault) (bytes : List ℕ) (n : ℕ)
    → length bytes ≤ n → Leaves (judged r bytes) n
unfolding Leaves
judged-leaves (Ok x) bytes n few y rest same =
    subst (λ l. length l ≤ n) (rest_of x y bytes rest same) few
judged-leaves (Err fault) bytes n few y rest same = absurd (not_refused fault bytes y rest same)

-- a field leaves fewer bytes
pub field-shorter : {A : Type 0} (k : ℕ) (judge : List ℕ → Result A WireFault) (bytes : List ℕ)
    → Leaves (field k judge bytes) (length bytes - k)
unfolding field Leaves
field-shorter k judge bytes x rest same =
    elim (cases_Bool (nat_lt (length bytes) k)) [
      | inl on ↦
          absurd (not_more x rest
          (ap (λ b. cond b More (judged (judge (take k bytes)) (drop k bytes))) (sym on)
          ∙ same))
      | inr off ↦
          judged-leaves (judge (take k bytes)) (drop k bytes) (length bytes - k)
          (omega (arith, length-drop k bytes)) x rest
          (ap (λ b. cond b More (judged (judge (take k bytes)) (drop k bytes))) (sym off)
          ∙ same)
    ]

-- reading on
bind-leaves : {A B : Type 0} (r : Reading A) (f : A → List ℕ → Reading B) (n : ℕ) → Leaves r n
    → ((x : A) (rest : List ℕ) → length rest ≤ n → Leaves (f x rest) n) → Leaves (r >>= f) n
unfolding Leaves
bind-leaves More f n first then y rest same = absurd (not_more y rest same)
bind-leaves (Refused fault left) f n first then y rest same =
    absurd (not_refused fault left y rest same)
bind-leaves (Whole x left) f n first then y rest same =
    then x left (first x left refl) y rest same

-- a value by itself
whole-leaves : {A : Type 0} (x : A) (bytes : List ℕ) (n : ℕ) → length bytes ≤ n
    → Leaves (Whole x bytes) n
unfolding Leaves
whole-leaves x bytes n few y rest same = subst (λ l. length l ≤ n) (rest_of x y bytes rest same) few

-- a field, of which more may be left than is
field-leaves : {A : Type 0} (k : ℕ) (judge : List ℕ → Result A WireFault) (bytes : List ℕ) (n : ℕ)
    → length bytes ≤ n → Leaves (field k judge bytes) n
unfolding Leaves
field-leaves k judge bytes n few x rest same =
    omega (arith, field-shorter k judge bytes x rest same, few)

-- items
items-leave : {A : Type 0} (item : List A → List ℕ → Reading A)
    → ((xs : List A) (bytes : List ℕ) (n : ℕ) → length bytes ≤ n → Leaves (item xs bytes) n)
    → (count : ℕ) (xs : List A) (bytes : List ℕ) (n : ℕ) → length bytes ≤ n
    → Leaves (items item count xs bytes) n
unfolding items
items-leave item each zero xs bytes n few = whole-leaves xs bytes n few
items-leave item each (suc count) xs bytes n few =
    bind-leaves (item xs bytes) (λ x rest. items item count (xs ++ x ∷ []) rest) n
    (each xs bytes n few)
    (λ x rest left. items-leave item each count (xs ++ x ∷ []) rest n left)

-- a block
block-leaves : (w : ReplicaWorld) (before : List WireBlock) (bytes : List ℕ) (n : ℕ)
    → length bytes ≤ n → Leaves (block_at w before bytes) n
unfolding block_at
block-leaves w before bytes n few =
    bind-leaves _ _ n (field-leaves 7 _ bytes n few) (λ node rest few.
    bind-leaves _ _ n (field-leaves 4 _ rest n few) (λ keys rest few.
    bind-leaves _ _ n (field-leaves 4 _ rest n few) (λ triangles rest few.
    bind-leaves _ _ n
    (items-leave _ (λ xs bytes n few. field-leaves 20 _ bytes n few) keys [] rest n few)
    (λ vertices rest few.
    bind-leaves _ _ n
    (items-leave _ (λ xs bytes n few. field-leaves 12 _ bytes n few) triangles [] rest n few)
    (λ list rest few. whole-leaves _ rest n few)))))

-- an event
event-leaves : (w : ReplicaWorld) (before : List Event) (bytes : List ℕ) (n : ℕ)
    → length bytes ≤ n → Leaves (event_at w before bytes) n
event-leaves w before bytes n few =
    bind-leaves _ _ n (field-leaves 1 _ bytes n few) (λ tag rest few.
    field-leaves _ _ rest n few)

-- a patch
pub patch-shorter : (w : ReplicaWorld) (bytes : List ℕ)
    → Leaves (patch_at w bytes) (length bytes - 1)
unfolding patch_at
patch-shorter w bytes =
    let n = length bytes - 1 in
    bind-leaves _ _ n (field-shorter 1 _ bytes) (λ tag rest few.
    bind-leaves _ _ n (field-leaves 4 _ rest n few) (λ base rest few.
    bind-leaves _ _ n (field-leaves 4 _ rest n few) (λ events rest few.
    bind-leaves _ _ n (field-leaves 4 _ rest n few) (λ gone rest few.
    bind-leaves _ _ n (field-leaves 4 _ rest n few) (λ blocks rest few.
    bind-leaves _ _ n
    (items-leave _ (λ xs bytes n few. event-leaves w xs bytes n few) events [] rest n few)
    (λ list rest few.
    bind-leaves _ _ n
    (items-leave _ (λ xs bytes n few. field-leaves 7 _ bytes n few) gone [] rest n few)
    (λ list rest few.
    bind-leaves _ _ n
    (items-leave _ (λ xs bytes n few. block-leaves w xs bytes n few) blocks [] rest n few)
    (λ list rest few. whole-leaves _ rest n few))))))))

-- ---- fuel
-- what is gone on with in two ways that agree
proceed-same : (f g : ReplicaWorld → List ℕ → Outcome) (total : ℕ) (w : ReplicaWorld) (b : Bool)
    (r : Reading WirePatch)
    → ((p : WirePatch) (rest : List ℕ) → r ≡ Whole p rest
    → f (behind_patch w p) rest ≡ g (behind_patch w p) rest)
    → proceed f total w b r ≡ proceed g total w b r
proceed-same f g total w b More agree = refl
proceed-same f g total w b (Refused fault rest) agree = refl
proceed-same f g total w b (Whole p rest) agree = ap (with_patches 1) (agree p rest refl)

-- where there are no bytes, nothing is followed
none-follows : (total k : ℕ) (w : ReplicaWorld) (bytes : List ℕ) → length bytes ≡ 0
    → follow total k w bytes ≡ ends total (Some w) (has_none bytes)
unfolding follow patch_at field
none-follows total zero w bytes none = refl
none-follows total (suc k) w [] none = refl
none-follows total (suc k) w (b ∷ bytes) none = absurd (omega (arith, none))

-- any fuel for as many bytes gives the same
enough : (total k l : ℕ) (w : ReplicaWorld) (bytes : List ℕ) → length bytes ≤ k → length bytes ≤ l
    → follow total k w bytes ≡ follow total l w bytes
unfolding follow Leaves
enough total zero zero w bytes few_k few_l = refl
enough total zero (suc l) w bytes few_k few_l =
    sym (none-follows total (suc l) w bytes (omega (arith, few_k)))
enough total (suc k) zero w bytes few_k few_l =
    none-follows total (suc k) w bytes (omega (arith, few_l))
enough total (suc k) (suc l) w bytes few_k few_l =
    proceed-same (follow total k) (follow total l) total w (has_none bytes) (patch_at w bytes)
    (λ p rest same. let short = patch-shorter w bytes p rest same in
    enough total k l (behind_patch w p) rest (omega (arith, short, few_k))
    (omega (arith, short, few_l)))

-- what is followed is one patch, and what is behind it
pub follow_all-step : (total : ℕ) (w : ReplicaWorld) (bytes : List ℕ)
    → follow_all total w bytes
    ≡ proceed (follow_all total) total w (has_none bytes) (patch_at w bytes)
unfolding follow Leaves
follow_all-step total w bytes =
    enough total (length bytes) (suc (length bytes)) w bytes (omega arith) (omega arith)
    ∙ proceed-same (follow total (length bytes)) (follow_all total) total w (has_none bytes)
    (patch_at w bytes)
    (λ p rest same. enough total (length bytes) (length rest) (behind_patch w p) rest
    (omega (arith, patch-shorter w bytes p rest same)) (omega arith))
