-- One triangle more in the tally, and what the tally has in the end.
use Rattle.std.proofs.Common.{◌≡◌, ℕ, ◌+◌, ◌*◌, ◌-◌, ◌<◌, List, [], ◌∷◌, ◌++◌, length, get_or, take, refl, sym, ap, ◌∙◌, subst, arith}
use Rattle.std.proofs.lemmas.List.{take_all, take_more}
use Rattle.std.proofs.lemmas.List.Concat.{flat_map-append}
use Rattle.lattice.specs.declared.key.Key.{Key}
use Rattle.terrain.specs.Curves.{all_edges}
use Rattle.audits.specs.Tally.{IsTallyOf}
use Rattle.audits.proofs.NamedLemmas.{HasRoomFor-less, HasRoomFor-more, no_key}
use Rattle.audits.proofs.audit.Audit.of_triangles.Goals as goal

-- a list of three by its items
three : (t : List Key) → length t ≡ 3
    → get_or t 0 no_key ∷ get_or t 1 no_key ∷ get_or t 2 no_key ∷ [] ≡ t
three (a ∷ b ∷ c ∷ []) long = refl
three [] long = absurd (omega (arith, long))
three (a ∷ []) long = absurd (omega (arith, long))
three (a ∷ b ∷ []) long = absurd (omega (arith, long))
three (a ∷ b ∷ c ∷ d ∷ t) long = absurd (omega (arith, long))

-- the edges with those of one triangle more
edges-more : (ts : List (List Key)) (i : ℕ) (a b c : Key) → i < length ts
    → a ∷ b ∷ c ∷ [] ≡ get_or ts i []
    → all_edges (take i ts) ++ (a, b) ∷ (b, c) ∷ (c, a) ∷ [] ≡ all_edges (take (i + 1) ts)
edges-more ts i a b c inside is =
    ap (λ t. all_edges (take i ts) ++ all_edges (t ∷ [])) is
    ∙ sym (flat_map-append _ (take i ts) (get_or ts i [] ∷ []))
    ∙ ap all_edges (sym (take_more ts i [] inside))

pub add_triangle-requires : goal.add_triangle-requires
add_triangle-requires c =
    HasRoomFor-less c.loop-a.tally (3 * (length c.args.triangles.now - c.loop-a.a-index)) 3
    (omega (arith, c.loop-a-test.true)) c.loop-a.invariant.room

pub loop-a-init : goal.loop-a-init
loop-a-init c = record {
  room = record { edges = []; counts = c.in_ok-tally.ensures; few = omega (arith, c.requires.few) };
  counts = c.in_ok-tally.ensures;
}

pub loop-a-preserved : goal.loop-a-preserved
loop-a-preserved c =
    let ts = c.args.triangles.now in
    let i = c.loop-a.a-index in
    let adds = c.in_ok-add_triangle.ensures in record {
      room = HasRoomFor-more c.loop-a.tally c.add_triangle.new.self _ _ _ (3 * (length ts - i))
          (3 * (length ts - (i + 1))) adds (omega (arith, c.loop-a-test.true))
          c.loop-a.invariant.room;
      counts = subst (IsTallyOf c.add_triangle.new.self)
          (edges-more ts i _ _ _ c.loop-a-test.true
          (three (get_or ts i []) (c.told-triangles i c.loop-a-test.true)))
          (adds (all_edges (take i ts)) c.loop-a.invariant.counts);
    }

pub returns : goal.returns
returns c =
    let ts = c.args.triangles.now in
    let counts = subst (λ (t : List (List Key)). IsTallyOf c.loop-a.tally (all_edges t))
    (take_all c.loop-a.a-index ts c.loop-a-test.false) c.loop-a.invariant.counts in
    λ i. record {
      edges = 3 * length ts;
      cracks = c.open_pairs-open.ensures.inside (all_edges ts) counts i;
      border = c.open_pairs-open.ensures.on_border (all_edges ts) counts i;
    }
