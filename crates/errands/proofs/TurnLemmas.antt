-- Each step at an exchange keeps the rule.
-- An exchange with two ends has the asker first and the doer second. So an end's step changes one of two views, and
-- what lies there is told by both (`asker-sees`, `doer-sees`).
use Rattle.std.proofs.Common.{◌≡◌, ℕ, zero, suc, List, [], ◌∷◌, ◌++◌, Option, None, Some, set, inl, inr, sym, refl, ap, ◌∙◌, subst}
use mathlib.Core.Option.{some, some-injective, some-ne-none}
use lib.ListN.{get_elem?}
use Rattle.crossbeam_queue.specs.Fifo.{Forks, Pops, Pushes}
use Rattle.errands.specs.declared.message.Message.{Message}
use Rattle.errands.specs.declared.message.Message.TheVariants.{Ask, Reply, Stop}
use Rattle.errands.specs.declared.side.Side.{Side}
use Rattle.errands.specs.declared.side.Side.TheVariants.{Asks, Does, Over, Whole}
use Rattle.errands.specs.Turns.{HasTaken, InTurn, IsLast, IsOfAsked, IsOneOf, Lies, side_with}

module _ {Q A : Type 0} (answers : Q → A → Type 0) where
  -- ---- where the ends are

  -- the only end of a new exchange
  at-whole : (place : ℕ) (side : Side Q) → get_elem? (Whole ∷ []) place ≡ some side → side ≡ Whole
  at-whole zero side at = sym (some-injective Whole side at)
  at-whole (suc place) side at = absurd (some-ne-none side (sym at))

  -- the asker is the first end
  at-asker : (asker : Side Q) (doing asked : Option Q) (place : ℕ)
      → get_elem? (asker ∷ Does doing ∷ []) place ≡ some (Asks asked)
      → (place ≡ 0) × (asker ≡ Asks asked)
  at-asker asker doing asked zero at = (refl, some-injective asker (Asks asked) at)
  at-asker asker doing asked (suc zero) at =
      let is = some-injective (Does doing) (Asks asked) at in absurd (cc)
  at-asker asker doing asked (suc (suc place)) at = absurd (some-ne-none (Asks asked) (sym at))

  -- the doer is the second one
  at-doer : (asker : Side Q) (doing other : Option Q) (place : ℕ) (items : List (Message Q A))
      → Lies answers asker doing items
      → get_elem? (asker ∷ Does doing ∷ []) place ≡ some (Does other)
      → (place ≡ 1) × (doing ≡ other)
  at-doer asker doing other zero items lies at =
      absurd (subst (λ side. Lies answers side doing items)
      (some-injective asker (Does other) at) lies)
  at-doer asker doing other (suc zero) items lies at =
      let is = some-injective (Does doing) (Does other) at in (refl, cc)
  at-doer asker doing other (suc (suc place)) items lies at =
      absurd (some-ne-none (Does other) (sym at))

  -- ---- what an end's step has to keep

  -- what is being done while the asker knows this, and what its step has to leave
  abbrev AskerSees : List (Message Q A) → List (Side Q) → ℕ → Option Q → Type 0
  AskerSees items views place asked = (doing : Option Q) × Lies answers (Asks asked) doing items
      × ((after : List (Message Q A)) (new : Side Q) → Lies answers new doing after
      → InTurn answers after (set views place new))

  -- an asker sees so much
  asker-sees : (items : List (Message Q A)) (views : List (Side Q)) (place : ℕ)
      (asked : Option Q) → InTurn answers items views → get_elem? views place ≡ some (Asks asked)
      → AskerSees items views place asked
  asker-sees items views place asked rule at = elim rule [
    | inl whole ↦
        let is = at-whole place (Asks asked)
        (subst (λ vs. get_elem? vs place ≡ some (Asks asked)) whole.0 at) in absurd (cc)
    | inr two ↦
        let there = at-asker two.asker two.doing asked place
        (subst (λ vs. get_elem? vs place ≡ some (Asks asked)) two.two at) in (
          two.doing,
          subst (λ side. Lies answers side two.doing items) there.1 two.lies,
          λ after new lies. inr (record {
            asker = new;
            doing = two.doing;
            two = ap (λ vs. set vs place new) two.two
                ∙ ap (λ p. set (two.asker ∷ Does two.doing ∷ []) p new) there.0;
            lies = lies;
          }),
        )
  ]

  -- what the asker knows while this is being done, and what the doer's step has to leave
  abbrev DoerSees : List (Message Q A) → List (Side Q) → ℕ → Option Q → Type 0
  DoerSees items views place doing = (asker : Side Q) × Lies answers asker doing items
      × ((after : List (Message Q A)) (new : Option Q) → Lies answers asker new after
      → InTurn answers after (set views place (Does new)))

  -- a doer sees so much
  doer-sees : (items : List (Message Q A)) (views : List (Side Q)) (place : ℕ)
      (doing : Option Q) → InTurn answers items views → get_elem? views place ≡ some (Does doing)
      → DoerSees items views place doing
  doer-sees items views place doing rule at = elim rule [
    | inl whole ↦
        let is = at-whole place (Does doing)
        (subst (λ vs. get_elem? vs place ≡ some (Does doing)) whole.0 at) in absurd (cc)
    | inr two ↦
        let there = at-doer two.asker two.doing doing place items two.lies
        (subst (λ vs. get_elem? vs place ≡ some (Does doing)) two.two at) in (
          two.asker,
          subst (λ d. Lies answers two.asker d items) there.1 two.lies,
          λ after new lies. inr (record {
            asker = two.asker;
            doing = new;
            two = ap (λ vs. set vs place (Does new)) two.two
                ∙ ap (λ p. set (two.asker ∷ Does two.doing ∷ []) p (Does new)) there.0;
            lies = lies;
          }),
        )
  ]

  -- ---- the steps

  -- an exchange is made
  pub begins : InTurn answers [] (Whole ∷ [])
  begins = inl (refl, refl)

  -- and has two ends then
  pub opens : (place : ℕ) → Forks (InTurn answers) place Whole (Asks None) (Does None)
  opens place items views rule at = elim rule [
    | inl whole ↦
        inr (record {
          asker = Asks None;
          doing = None;
          two = opened place views whole.0 at;
          lies = whole.1;
        })
    | inr two ↦
        absurd (never-whole two.asker two.doing place items two.lies
        (subst (λ vs. get_elem? vs place ≡ some Whole) two.two at))
  ]
    where
      opened : (place : ℕ) (views : List (Side Q)) → views ≡ Whole ∷ []
          → get_elem? views place ≡ some Whole
          → set views place (Asks None) ++ Does None ∷ [] ≡ Asks None ∷ Does None ∷ []
      opened zero views is at = ap (λ vs. set vs 0 (Asks None) ++ Does None ∷ []) is
      opened (suc place) views is at =
          absurd (some-ne-none Whole
          (sym (subst (λ vs. get_elem? vs (suc place) ≡ some Whole) is at)))

      never-whole : (asker : Side Q) (doing : Option Q) (place : ℕ) (items : List (Message Q A))
          → Lies answers asker doing items
          → get_elem? (asker ∷ Does doing ∷ []) place ≡ some Whole → ⊥
      never-whole asker doing zero items lies at =
          subst (λ side. Lies answers side doing items) (some-injective asker Whole at) lies
      never-whole asker doing (suc zero) items lies at =
          let is = some-injective (Does doing) Whole at in absurd (cc)
      never-whole asker doing (suc (suc place)) items lies at =
          absurd (some-ne-none Whole (sym at))

  -- something is asked
  asked-then : (ask : Q) (items : List (Message Q A)) (doing : Option Q)
      → Lies answers (Asks None) doing items
      → Lies answers (Asks (Some ask)) doing (items ++ Ask ask ∷ [])
  asked-then ask items None lies =
      subst (λ xs. IsOneOf answers ask (xs ++ Ask ask ∷ [])) (sym lies) (refl, refl)
  asked-then ask items (Some r) lies = absurd lies

  -- the step of the asker
  pub asks : (places place : ℕ) (ask : Q)
      → Pushes (InTurn answers) places place (Asks None) (Ask ask)
      (λ new. new ≡ Asks (Some ask))
  asks places place ask items views room rule at =
      let seen = asker-sees items views place None rule at in (
        Asks (Some ask),
        seen.2 (items ++ Ask ask ∷ []) (Asks (Some ask)) (asked-then ask items seen.0 seen.1),
        refl,
      )

  -- nothing is asked any more
  closed-then : (items : List (Message Q A)) (doing : Option Q)
      → Lies answers (Asks None) doing items → Lies answers Over doing (items ++ Stop ∷ [])
  closed-then items None lies =
      subst (λ xs. IsLast (xs ++ Stop ∷ [])) (sym lies) (refl, refl)
  closed-then items (Some r) lies = absurd lies

  -- the step of the asker
  pub closes : (places place : ℕ)
      → Pushes (InTurn answers) places place (Asks None) Stop
      (λ new. new ≡ Over)
  closes places place items views room rule at =
      let seen = asker-sees items views place None rule at in (
        Over,
        seen.2 (items ++ Stop ∷ []) Over (closed-then items seen.0 seen.1),
        refl,
      )

  -- what came of it is collected
  collected-then : (message : Message Q A) (items : List (Message Q A)) (asked doing : Option Q)
      → Lies answers (Asks asked) doing (message ∷ items)
      → Lies answers (Asks None) doing items × IsOfAsked answers (Asks asked) message
  collected-then message items None None lies = absurd (cc)
  collected-then message items None (Some r) lies = absurd lies
  collected-then message items (Some q) None lies = (lies.1, lies.0)
  collected-then message items (Some q) (Some r) lies = let none = lies.1 in absurd (cc)

  -- the step of the asker
  pub collects : (place : ℕ) (asked : Option Q)
      → Pops (InTurn answers) place (Asks asked)
      (λ message new. (new ≡ Asks None) × IsOfAsked answers (Asks asked) message)
  collects place asked message items views rule at =
      let seen = asker-sees (message ∷ items) views place asked rule at in
      let then = collected-then message items asked seen.0 seen.1 in (
        Asks None,
        seen.2 items (Asks None) then.0,
        (refl, then.1),
      )

  -- the doer takes what lies there
  abbrev Begins : Message Q A → List (Message Q A) → Side Q → Type 0
  Begins message items asker = (new : Option Q) × HasTaken answers message (Does new)
      × Lies answers asker new items

  -- what lies there, by what it is
  begun-then : (message : Message Q A) (items : List (Message Q A)) (asker : Side Q)
      → Lies answers asker None (message ∷ items) → Begins message items asker
  begun-then message items Whole lies = absurd lies
  begun-then message items (Asks None) lies = absurd (cc)
  begun-then (Ask r) items (Asks (Some q)) lies = (Some r, refl, (lies.0, lies.1))
  begun-then (Reply a) items (Asks (Some q)) lies =
      (Some q, (q, refl, lies.0), (refl, lies.1))
  begun-then Stop items (Asks (Some q)) lies = absurd lies.0
  begun-then message items (Does other) lies = absurd lies
  begun-then (Ask r) items Over lies = let is = lies.0 in absurd (cc)
  begun-then (Reply a) items Over lies = let is = lies.0 in absurd (cc)
  begun-then Stop items Over lies =
      (None, refl, subst IsLast (sym lies.1) tt)

  -- the step of the doer
  pub starts : (place : ℕ) → Pops (InTurn answers) place (Does None) (HasTaken answers)
  starts place message items views rule at =
      let seen = doer-sees (message ∷ items) views place None rule at in
      let then = begun-then message items seen.0 seen.1 in (
        Does then.0,
        seen.2 items then.0 then.2,
        then.1,
      )

  -- the doer replies
  replied-then : (q : Q) (a : A) (items : List (Message Q A)) (asker : Side Q) → answers q a
      → Lies answers asker (Some q) items → Lies answers asker None (items ++ Reply a ∷ [])
  replied-then q a items Whole reply lies = absurd lies
  replied-then q a items (Asks None) reply lies = absurd lies
  replied-then q a items (Asks (Some p)) reply lies =
      subst (λ xs. IsOneOf answers p (xs ++ Reply a ∷ [])) (sym lies.1)
      (subst (λ r. answers r a) lies.0 reply, refl)
  replied-then q a items (Does other) reply lies = absurd lies
  replied-then q a items Over reply lies = absurd lies

  -- the step of the doer
  pub replies : (places place : ℕ) (q : Q) (a : A) → answers q a
      → Pushes (InTurn answers) places place (Does (Some q)) (Reply a) (λ new. new ≡ Does None)
  replies places place q a reply items views room rule at =
      let seen = doer-sees items views place (Some q) rule at in (
        Does None,
        seen.2 (items ++ Reply a ∷ []) None (replied-then q a items seen.0 reply seen.1),
        refl,
      )

  -- ---- the steps of ends of which something is known

  -- something is asked by an end that is known to be an asker who asked nothing
  pub asks-at : (places place : ℕ) (side : Side Q) (message : Message Q A) (ask : Q)
      → side ≡ Asks None → message ≡ Ask ask
      → Pushes (InTurn answers) places place side message (λ new. new ≡ side_with message)
  asks-at places place side message ask is left =
      subst (λ s. Pushes (InTurn answers) places place s message (λ new. new ≡ side_with message))
      (sym is)
      (subst (λ m. Pushes (InTurn answers) places place (Asks None) m (λ new. new ≡ side_with m))
      (sym left) (asks places place ask))

  -- such an asker asks no more
  pub closes-at : (places place : ℕ) (side : Side Q) (message : Message Q A)
      → side ≡ Asks None → message ≡ Stop
      → Pushes (InTurn answers) places place side message (λ new. new ≡ side_with message)
  closes-at places place side message is left =
      subst (λ s. Pushes (InTurn answers) places place s message (λ new. new ≡ side_with message))
      (sym is)
      (subst (λ m. Pushes (InTurn answers) places place (Asks None) m (λ new. new ≡ side_with m))
      (sym left) (closes places place))

  -- an asker collects
  pub collects-at : (place : ℕ) (side : Side Q) (asked : Option Q) → side ≡ Asks asked
      → Pops (InTurn answers) place side
      (λ message new. (new ≡ Asks None) × IsOfAsked answers side message)
  collects-at place side asked is =
      subst (λ s. Pops (InTurn answers) place s
      (λ message new. (new ≡ Asks None) × IsOfAsked answers s message)) (sym is)
      (collects place asked)

  -- a doer takes what lies there
  pub starts-at : (place : ℕ) (side : Side Q) → side ≡ Does None
      → Pops (InTurn answers) place side (HasTaken answers)
  starts-at place side is =
      subst (λ s. Pops (InTurn answers) place s (HasTaken answers)) (sym is) (starts place)

  -- a doer replies
  pub replies-at : (places place : ℕ) (side : Side Q) (message : Message Q A) (q : Q) (a : A)
      → side ≡ Does (Some q) → message ≡ Reply a → answers q a
      → Pushes (InTurn answers) places place side message (λ new. new ≡ Does None)
  replies-at places place side message q a is left reply =
      subst (λ s. Pushes (InTurn answers) places place s message (λ new. new ≡ Does None)) (sym is)
      (subst (λ m. Pushes (InTurn answers) places place (Does (Some q)) m (λ new. new ≡ Does None))
      (sym left) (replies places place q a reply))
