-- All triangles of a mesh.
use Rattle.std.proofs.Common.{◌≡◌, ◌+◌, ◌*◌, ◌-◌, ◌++◌, List, length, take, refl, ap, ◌∙◌, subst, arith, append_assoc}
use Rattle.std.proofs.lemmas.List.{take_all}
use Rattle.lattice.specs.declared.key.Key.{Key}
use Rattle.terrain.specs.Curves.{all_edges}
use Rattle.audits.specs.Tally.{IsTallyOf}
use Rattle.audits.proofs.NamedLemmas.{HasRoomFor-less, HasRoomFor-more, edges-more, named, named-shown}
use Rattle.audits.proofs.TallyLemmas.{Pair}
use Rattle.audits.proofs.tally.Tally.add_triangles.Goals as goal

pub add_triangle-requires : goal.add_triangle-requires
add_triangle-requires c =
    let ts = c.args.triangles.now in
    let i = c.loop-a.a-index in
    let room = c.loop-a.invariant.0 0
    (HasRoomFor-less c.args.self.now (3 * length ts) (3 * length ts + 0) (omega arith)
    c.requires.room) in
    HasRoomFor-less c.loop-a.self (3 * (length ts - i) + 0) 3
    (omega (arith, c.loop-a-test.true)) room

pub loop-a-preserved : goal.loop-a-preserved
loop-a-preserved c =
    let ts = c.args.triangles.now in
    let keys = c.args.keys.now in
    let i = c.loop-a.a-index in
    let so_far = c.loop-a.invariant in
    let adds = c.in_ok-add_triangle.ensures in (
      λ more room. HasRoomFor-more c.loop-a.self c.add_triangle.new.self _ _ _
          (3 * (length ts - i) + more) (3 * (length ts - (i + 1)) + more) adds
          (omega (arith, c.loop-a-test.true)) (so_far.0 more room),
      λ edges counts.
          let before : List Pair = all_edges (named keys (take i ts)) in
          let more = edges-more keys ts i _ _ _ c.loop-a-test.true
          (c.told-triangles i c.loop-a-test.true) refl refl refl in
          subst (IsTallyOf c.add_triangle.new.self)
          (append_assoc edges before _ ∙ ap (λ (es : List Pair). edges ++ es) more)
          (adds (edges ++ before) (so_far.1 edges counts)),
    )

pub returns-clause-counts : goal.returns-clause-counts
returns-clause-counts c triangles edges keys places counts =
    let ts = c.args.triangles.now in
    let all : named c.args.keys.now (take c.loop-a.a-index ts) ≡ triangles =
    ap (named c.args.keys.now) (take_all c.loop-a.a-index ts c.loop-a-test.false)
    ∙ named-shown c.keys_are_told_apart.ensures c.each_key_is_listed_once.ensures
    c.args.keys.now ts triangles keys places in
    subst (λ (t : List (List Key)). IsTallyOf c.loop-a.self (edges ++ all_edges t)) all
    (c.loop-a.invariant.1 edges counts)
