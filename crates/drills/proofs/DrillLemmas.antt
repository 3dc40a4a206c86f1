-- The commands of one edit more: what the loop of `drill_script` keeps.
-- The commands so far and those of the edits that are left are the whole script. The edits that are left begin with the
-- next one and the stats behind it, if they are due (next), so these are taken over from the one part to the other
-- (taken). An edit's event is lawful and stats are, so all commands stay lawful (lawful-with).
use Rattle.std.proofs.Common.{◌≡◌, ℕ, suc, ◌+◌, ◌-◌, ◌%◌, ◌<◌, List, [], ◌∷◌, ◌++◌, All, Bool, true, false, ◌==◌, if◌then◌else◌, refl, sym, ap, ◌∙◌, subst, arith}
use Rattle.std.proofs.lemmas.List.Elements.{All-push}
use Rattle.camera_script.specs.declared.commands.Command.{Command}
use Rattle.camera_script.specs.declared.commands.Command.TheVariants as command
use Rattle.camera_script.specs.Commands.{IsAllowedCommand}
use Rattle.drills.specs.Drill.{after_draws, edits_from, event_draws, event_from, stats_after}
use Rattle.drills.specs.declared.drill.TheConstants.{STATS_STEP}

-- lists one after another, put together either way
joined : (xs ys zs : List Command) → (xs ++ ys) ++ zs ≡ xs ++ (ys ++ zs)
joined [] ys zs = refl
joined (x ∷ xs) ys zs = ap (λ l. x ∷ l) (joined xs ys zs)

-- the stats where they are due, before what is left
before : (due : Bool) (rest : List Command)
    → (if due then command.Stats ∷ [] else []) ++ rest
    ≡ (if due then command.Stats ∷ rest else rest)
before true rest = refl
before false rest = refl

-- the edits that are left begin with the next one
next : (depth edits done state : ℕ) → done < edits
    → edits_from depth (edits - done) done state
    ≡ command.Event (event_from depth state) ∷ stats_after (done + 1)
    (edits_from depth (edits - (done + 1)) (done + 1) (after_draws event_draws state))
next depth edits done state more =
    let some : edits - done ≡ suc (edits - (done + 1)) = omega arith in
    ap (λ left. edits_from depth left done state) some

-- an edit, and the stats behind it where they are due, are the next commands
pub taken : (depth edits done state : ℕ) → done < edits → (items all : List Command)
    → items ++ edits_from depth (edits - done) done state ≡ all
    → ((items ++ command.Event (event_from depth state) ∷ []) ++ stats_after (done + 1) [])
    ++ edits_from depth (edits - (done + 1)) (done + 1) (after_draws event_draws state) ≡ all
taken depth edits done state more items all so_far =
    let event = command.Event (event_from depth state) in
    let rest = edits_from depth (edits - (done + 1)) (done + 1) (after_draws event_draws state) in
    joined (items ++ event ∷ []) (stats_after (done + 1) []) rest
    ∙ joined items (event ∷ []) (stats_after (done + 1) [] ++ rest)
    ∙ ap (λ l. items ++ event ∷ l) (before ((done + 1) % STATS_STEP == 0) rest)
    ∙ ap (λ l. items ++ l) (sym (next depth edits done state more)) ∙ so_far

-- the stats where they are due keep all commands lawful
lawful-by : (depth : ℕ) (items : List Command) (due : Bool)
    → All (IsAllowedCommand depth) items
    → All (IsAllowedCommand depth) (items ++ (if due then command.Stats ∷ [] else []))
lawful-by depth items true lawful =
    All-push (IsAllowedCommand depth) items command.Stats lawful record {}
lawful-by depth items false lawful =
    subst (All (IsAllowedCommand depth)) (sym (nothing items)) lawful
  where
    nothing : (items : List Command) → items ++ [] ≡ items
    nothing [] = refl
    nothing (x ∷ items) = ap (λ l. x ∷ l) (nothing items)

-- with an edit's event and its stats all commands are lawful
pub lawful-with : (depth done : ℕ) (items : List Command) (event : Command)
    → All (IsAllowedCommand depth) items → IsAllowedCommand depth event
    → All (IsAllowedCommand depth) ((items ++ event ∷ []) ++ stats_after done [])
lawful-with depth done items event lawful lawful_event =
    lawful-by depth (items ++ event ∷ []) (done % STATS_STEP == 0)
    (All-push (IsAllowedCommand depth) items event lawful lawful_event)
