-- All pairs.
use Rattle.std.proofs.Common.{◌≡◌, ℕ, ◌+◌, ◌<◌, ◌≤◌, Bool, true, false, cond, List, length, get_or, take, ap, sym, ◌∙◌, subst, arith, eqb, not, refl}
use Rattle.std.specs.Prelude.{filter}
use Rattle.std.proofs.lemmas.List.{take_all}
use Rattle.audits.specs.Audit.{is_on_border, is_open, pairs_of}
use Rattle.audits.specs.Tally.{IsTallyOf}
use Rattle.audits.proofs.AuditLemmas.{counted-step, open-is, test-apart, test-same}
use Rattle.audits.proofs.NamedLemmas.{no_key}
use Rattle.audits.proofs.TallyLemmas.{Pair}
use Rattle.audits.proofs.TallySteps.{uses-read}
use Rattle.audits.proofs.tally.Tally.open_pairs.Goals as goal
use Rattle.audits.proofs.tally.Tally.open_pairs.Goals.{After-loop-place, Joined-along-back, else-along-back, then-along-back+else-is_on_border, then-along-back+then-is_on_border}

-- what a list of pairs is read as past its end
abbrev no_pair : Pair
no_pair = (no_key, no_key)

-- the pair at hand
pair_of : (c : Joined-along-back) → Pair
pair_of c = get_or c.args.self.now.pairs.keys c.loop-place.place no_pair

-- it is in the list
inside : (c : Joined-along-back) → c.loop-place.place < length c.args.self.now.pairs.keys
inside c =
    subst (λ (ps : List Pair). c.loop-place.place < length ps) c.as_slice-pairs.ensures.keys
    c.loop-place-test.true

-- whether it is open
open_at : (c : Joined-along-back) (edges : List Pair) → IsTallyOf c.args.self.now edges
    → is_open edges (pair_of c) ≡ not (eqb c.index.result.now.along c.index.result.now.back)
unfolding pair_of
open_at c edges counts =
    open-is edges (pair_of c)
    ∙ ap (λ (u : _). not (eqb u.along u.back))
    (sym (uses-read c.args.self.now edges c.loop-place.place no_pair c.index.result.now counts
    (inside c) c.index.ensures))

-- one count, with the pair at hand
step : (c : Joined-along-back) (q : Pair → Bool) (b d : Bool) (n : ℕ) (edges : List Pair)
    → IsTallyOf c.args.self.now edges
    → not (eqb c.index.result.now.along c.index.result.now.back) ≡ b → q (pair_of c) ≡ d
    → n ≡ length (filter q (filter (is_open edges)
    (take c.loop-place.place c.args.self.now.pairs.keys)))
    → n + cond b (cond d 1 0) 0 ≡ length (filter q (filter (is_open edges)
    (take (c.loop-place.place + 1) c.args.self.now.pairs.keys)))
unfolding pair_of
step c q b d n edges counts b-is d-is so_far =
    counted-step (is_open edges) q c.args.self.now.pairs.keys c.loop-place.place no_pair b d n
    (inside c) (open_at c edges counts ∙ b-is) d-is so_far

-- whether it lies on the border
border-at : (c : Joined-along-back) → is_on_border c.args.settings.now.depth (pair_of c)
    ≡ is_on_border c.args.settings.now.depth
    (get_or c.as_slice-pairs.result.now c.loop-place.place no_pair)
unfolding pair_of
border-at c =
    ap (λ (ps : List Pair). is_on_border c.args.settings.now.depth
    (get_or ps c.loop-place.place no_pair)) (sym c.as_slice-pairs.ensures.keys)

pub loop-place-preserved : goal.loop-place-preserved
unfolding pair_of
loop-place-preserved c = elim c.if-along-back.branch [
  | then-along-back+then-is_on_border w ↦
      let so_far = c.loop-place.invariant in
      let uses = c.index.result.now in
      let open_now = test-apart uses.along uses.back w.if-along-back.true in
      let border = is_on_border c.args.settings.now.depth in
      let on = border-at c ∙ sym w.is_on_border.ensures ∙ w.if-is_on_border.true in
      let inside-is = ap (λ (o : _). o.inside) w.open-is in
      let border-is = ap (λ (o : _). o.on_border) w.open-is in (
        λ edges counts. omega (
          arith,
          inside-is,
          step c (λ pair. not (border pair)) true false _ edges counts open_now
              (ap not on) (so_far.0 edges counts),
        ),
        λ edges counts. omega (
          arith,
          border-is,
          step c border true true _ edges counts open_now on (so_far.1 edges counts),
        ),
        omega (arith, inside-is, so_far.2),
        omega (arith, border-is, so_far.3),
      )
  | then-along-back+else-is_on_border w ↦
      let so_far = c.loop-place.invariant in
      let uses = c.index.result.now in
      let open_now = test-apart uses.along uses.back w.if-along-back.true in
      let border = is_on_border c.args.settings.now.depth in
      let on = border-at c ∙ sym w.is_on_border.ensures ∙ w.if-is_on_border.false in
      let inside-is = ap (λ (o : _). o.inside) w.open-is in
      let border-is = ap (λ (o : _). o.on_border) w.open-is in (
        λ edges counts. omega (
          arith,
          inside-is,
          step c (λ pair. not (border pair)) true true _ edges counts open_now
              (ap not on) (so_far.0 edges counts),
        ),
        λ edges counts. omega (
          arith,
          border-is,
          step c border true false _ edges counts open_now on (so_far.1 edges counts),
        ),
        omega (arith, inside-is, so_far.2),
        omega (arith, border-is, so_far.3),
      )
  | else-along-back w ↦
      let so_far = c.loop-place.invariant in
      let uses = c.index.result.now in
      let closed = test-same uses.along uses.back w.if-along-back.false in
      let border = is_on_border c.args.settings.now.depth in
      let inside-is = ap (λ (o : _). o.inside) w.open-is in
      let border-is = ap (λ (o : _). o.on_border) w.open-is in (
        λ edges counts. omega (
          arith,
          inside-is,
          step c (λ pair. not (border pair)) false _ _ edges counts closed refl
              (so_far.0 edges counts),
        ),
        λ edges counts. omega (
          arith,
          border-is,
          step c border false _ _ edges counts closed refl (so_far.1 edges counts),
        ),
        omega (arith, inside-is, so_far.2),
        omega (arith, border-is, so_far.3),
      )
]

-- all pairs are listed
all : (c : After-loop-place) (edges : List Pair) → IsTallyOf c.args.self.now edges
    → take c.loop-place.place c.args.self.now.pairs.keys ≡ pairs_of edges
all c edges counts =
    let short = subst (λ (ps : List Pair). length ps ≤ c.loop-place.place)
    c.as_slice-pairs.ensures.keys c.loop-place-test.false in
    take_all c.loop-place.place c.args.self.now.pairs.keys short ∙ counts.pairs

pub returns-clause-inside : goal.returns-clause-inside
returns-clause-inside c edges counts =
    let outside : Pair → Bool = λ pair. not (is_on_border c.args.settings.now.depth pair) in
    c.loop-place.invariant.0 edges counts
    ∙ ap (λ ps. length (filter outside (filter (is_open edges) ps))) (all c edges counts)

pub returns-clause-on_border : goal.returns-clause-on_border
returns-clause-on_border c edges counts =
    c.loop-place.invariant.1 edges counts
    ∙ ap (λ ps. length (filter (is_on_border c.args.settings.now.depth)
    (filter (is_open edges) ps))) (all c edges counts)
