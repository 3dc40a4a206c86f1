-- Which nodes a list of events touches, and that leaves keep their bricks until one of the events touches them: the law
-- `leaves_keep_their_bricks_until_touched`.
-- A node is touched by a list of events if it is by one of them, at that event's place (is_touched-cons,
-- is_touched-more). So where none touches it, neither the first nor the others do (untouched), and the laws on a single
-- event are applied from the last event to the first: the leaf was one before (leaf-untouched), with the same brick
-- (brick-untouched). docs/rules.md, "Frames and patches", is what this is for.
use Rattle.std.proofs.Common.{◌≡◌, Bool, true, false, List, [], ◌∷◌, ◌++◌, length, All, Contains, refl, sym, ap, ◌∙◌, subst, append_assoc, append-nil}
use Rattle.std.specs.Prelude.{◌||◌}
use Rattle.std.proofs.lemmas.Bool.{or_parts}
use Rattle.std.proofs.lemmas.List.{drop_at, take_at}
use Rattle.std.proofs.lemmas.List.Elements.{All-drop, All-take}
use Rattle.std.proofs.Math.Bool.{or_assoc, or-false}
use Rattle.lattice.specs.declared.node.Node.{Node}
use Rattle.lattice.specs.declared.settings.Settings.{Settings}
use Rattle.lattice.specs.Node.{is_among}
use Rattle.terrain.specs.declared.event.Event.{Event}
use Rattle.terrain.specs.Blocks.{touched}
use Rattle.terrain.specs.History.{IsLawfulEvent}
use Rattle.terrain.specs.Levels.{IsLeaf, levels}
use Rattle.level_laws.proofs.AmongLemmas.{among_from}
use Rattle.event_laws.specs.Changes.{brick_after, is_touched}
use Rattle.event_laws.specs.Laws.{UntouchedKeepBricks, UntouchedWereLeaves}

-- ---- one event more

-- no events touch no node
pub is_touched-nil : (settings : Settings) (history : List Event) (n : Node)
    → is_touched settings history [] n ≡ false
unfolding is_touched
is_touched-nil settings history n = refl

-- the first event and the others
pub is_touched-cons : (settings : Settings) (history : List Event) (e : Event) (es : List Event)
    (n : Node)
    → is_touched settings history (e ∷ es) n
    ≡ (is_among (touched settings history e) n || is_touched settings (history ++ e ∷ []) es n)
unfolding is_touched
is_touched-cons settings history e es n = refl

-- one event more at the end
pub is_touched-more : (settings : Settings) (history events : List Event) (event : Event) (n : Node)
    → is_touched settings history (events ++ event ∷ []) n
    ≡ (is_touched settings history events n
    || is_among (touched settings (history ++ events) event) n)
is_touched-more settings history [] event n =
    is_touched-cons settings history event [] n
    ∙ ap (λ b. is_among (touched settings history event) n || b)
    (is_touched-nil settings (history ++ event ∷ []) n)
    ∙ or-false (is_among (touched settings history event) n)
    ∙ ap (λ h. is_among (touched settings h event) n) (sym (append-nil history))
    ∙ ap (λ b. b || is_among (touched settings (history ++ []) event) n)
    (sym (is_touched-nil settings history n))
is_touched-more settings history (e ∷ es) event n =
    let first = is_among (touched settings history e) n in
    let rest = is_touched settings (history ++ e ∷ []) es n in
    let last : List Event → Bool = λ h. is_among (touched settings h event) n in
    is_touched-cons settings history e (es ++ event ∷ []) n
    ∙ ap (λ b. first || b) (is_touched-more settings (history ++ e ∷ []) es event n)
    ∙ sym (or_assoc first rest (last ((history ++ e ∷ []) ++ es)))
    ∙ ap (λ b. b || last ((history ++ e ∷ []) ++ es))
    (sym (is_touched-cons settings history e es n))
    ∙ ap (λ h. is_touched settings history (e ∷ es) n || last h)
    (append_assoc history (e ∷ []) es)

-- ---- leaves that none of the events touches, by the laws of one event

-- neither the first event nor the others touch it
untouched : (settings : Settings) (history : List Event) (e : Event) (es : List Event) (n : Node)
    → is_touched settings history (e ∷ es) n ≡ false
    → (is_among (touched settings history e) n ≡ false)
    × (is_touched settings (history ++ e ∷ []) es n ≡ false)
untouched settings history e es n off =
    or_parts _ _ (sym (is_touched-cons settings history e es n) ∙ off)

-- a node that the test doesn't find isn't in the list
not_among : (nodes : List Node) (n : Node) → is_among nodes n ≡ false → Contains nodes n → ⊥
not_among nodes n off h = let on : is_among nodes n ≡ true = among_from nodes n h in absurd (cc)

-- a leaf after the events was one before them
pub leaf-untouched : UntouchedWereLeaves
    → (settings : Settings) (history events : List Event) (n : Node)
    → IsLeaf settings.depth (levels settings (history ++ events)) n
    → is_touched settings history events n ≡ false
    → IsLeaf settings.depth (levels settings history) n
leaf-untouched stay settings history [] n leaf off =
    subst (λ h. IsLeaf settings.depth (levels settings h) n) (append-nil history) leaf
leaf-untouched stay settings history (e ∷ es) n leaf off =
    let parts = untouched settings history e es n off in
    let there = leaf-untouched stay settings (history ++ e ∷ []) es n
    (subst (λ h. IsLeaf settings.depth (levels settings h) n)
    (sym (append_assoc history (e ∷ []) es)) leaf) parts.1 in
    stay settings history e n there (not_among _ n parts.0)

-- what holds of the items of two lists holds of those of the first
pub All-front : {A : Type 0} (P : A → Type 0) (xs ys : List A) → All P (xs ++ ys) → All P xs
All-front P xs ys all =
    subst (All P) (take_at xs ys (length xs) refl) (All-take P (length xs) (xs ++ ys) all)

-- and of those of the second
pub All-back : {A : Type 0} (P : A → Type 0) (xs ys : List A) → All P (xs ++ ys) → All P ys
All-back P xs ys all =
    subst (All P) (drop_at xs ys (length xs) refl) (All-drop P (length xs) (xs ++ ys) all)

-- and has the brick that it had
pub brick-untouched : UntouchedWereLeaves → UntouchedKeepBricks
    → (settings : Settings) (history events : List Event) (n : Node)
    → All (IsLawfulEvent settings.depth) (history ++ events)
    → IsLeaf settings.depth (levels settings (history ++ events)) n
    → is_touched settings history events n ≡ false
    → brick_after settings history n ≡ brick_after settings (history ++ events) n
brick-untouched stay keep settings history [] n lawful leaf off =
    ap (λ h. brick_after settings h n) (sym (append-nil history))
brick-untouched stay keep settings history (e ∷ es) n lawful leaf off =
    let IsFit = IsLawfulEvent settings.depth in
    let parts = untouched settings history e es n off in
    let more = append_assoc history (e ∷ []) es in
    let leaf' = subst (λ h. IsLeaf settings.depth (levels settings h) n) (sym more) leaf in
    let lawful' : All IsFit ((history ++ e ∷ []) ++ es) = subst (All IsFit) (sym more) lawful in
    let there = leaf-untouched stay settings (history ++ e ∷ []) es n leaf' parts.1 in
    keep settings history e n (All-front IsFit (history ++ e ∷ []) es lawful') there
    (not_among _ n parts.0)
    ∙ brick-untouched stay keep settings (history ++ e ∷ []) es n lawful' leaf' parts.1
    ∙ ap (λ h. brick_after settings h n) more
