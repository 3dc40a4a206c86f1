-- There is room for each loop's triangles, since the loops have at most 16 keys.
use Rattle.std.proofs.Common.{◌≡◌, length, ap, sym, ◌∙◌, subst, arith}
use Rattle.std.proofs.lemmas.List.{take_all}
use Rattle.terrain.specs.Curves.{HaveSameNet, fan, all_edges}
use Rattle.face_curves.proofs.HaveSameNet.{fan-net}
use Rattle.face_curves.proofs.FanOf.{fan-room}
use Rattle.face_curves.proofs.triangles.fan.Goals as goal

pub push_fan-requires : goal.push_fan-requires
push_fan-requires c =
    let room = fan-room c.args.loops.now c.loop-index.index (omega arith)
    c.len-index-end.ensures.few_keys in
    omega (arith, ap length c.loop-index.invariant, ap length c.keys_of.ensures, room)

pub returns-clause-net : goal.returns-clause-net
returns-clause-net c =
    let lists = c.args.loops.now in
    let exact : c.loop-index.triangles.items ≡ fan lists =
    c.loop-index.invariant ∙ ap fan (take_all c.loop-index.index lists (omega arith)) in
    subst (λ ts. HaveSameNet (all_edges ts) (all_edges lists)) (sym exact) (fan-net lists)
