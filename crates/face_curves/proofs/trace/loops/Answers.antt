-- What the walk from a key finds is the loop that is listed from it.
use Rattle.std.proofs.Common.{◌≡◌, ◌<◌, ◌≤◌, length, ap, sym, ◌∙◌, subst, arith}
use Rattle.std.specs.List.{AllByRecursion}
use Rattle.terrain.specs.Curves.{cell_curves, orbit, loops, AreOrbits, HaveSameNet, all_edges, fan, curve_edges}
use Rattle.face_curves.specs.Followers.{begins_loop}
use Rattle.face_curves.proofs.MapFilter.{listed, listed-kept, listed-left}
use Rattle.face_curves.proofs.LoopFrom.{found_some, found_none}
use Rattle.face_curves.proofs.IsClosed.{IsClosed-paired}
use Rattle.face_curves.proofs.CellFollowers.{orbit-short, loops-listed, loop-room}
use Rattle.face_curves.proofs.CellLoops.{loops-are-orbits, loops-net}
use Rattle.face_curves.proofs.CellLoops.{loops-three, loops-below}
use Rattle.face_curves.proofs.trace.loops.Goals as goal
use Rattle.face_curves.proofs.trace.loops.Goals.{in-Some, in_default}

pub push-requires : goal.push-requires
push-requires c =
    let faces = c.args.faces.now.items in
    let cs = cell_curves faces in
    let found = found_some cs c.loop-key.key c.in-Some.keys
    (c.in-Some.ensures cs c.new-followers.ensures
    (orbit-short (IsClosed-paired c.requires) c.loop-key.key)) in
    let room =
    loop-room faces c.loop-key.key c.loop-key.loops c.deref.result.now c.requires
    c.loop-key-test.true found.0 (c.deref.ensures.0 ∙ found.1) c.loop-key.invariant in
    record { some = room.0; room = room.1; few = room.2 }

pub loop-key-preserved : goal.loop-key-preserved
loop-key-preserved c =
    let cs = cell_curves c.args.faces.now.items in
    let key = c.loop-key.key in
    elim c.match-loop_from.branch [
      | in-Some w ↦
          let found = found_some cs key w.in-Some.keys
          (w.in-Some.ensures cs c.new-followers.ensures
          (orbit-short (IsClosed-paired c.requires) key)) in
          w.loops-is ∙ listed-kept (orbit cs) (begins_loop cs)
          key _ _ _ c.loop-key.invariant found.0 (w.deref.ensures.0 ∙ found.1) w.push.ensures
      | in_default w ↦ w.loops-is ∙ listed-left (orbit cs) (begins_loop cs)
          key _ c.loop-key.invariant (found_none cs key
          (w.in_default.ensures cs c.new-followers.ensures
          (orbit-short (IsClosed-paired c.requires) key)))
    ]

pub returns : goal.returns
returns c =
    let faces = c.args.faces.now.items in
    let cs = cell_curves faces in
    let end : c.loop-key.key ≡ 16 = omega arith in
    let exact : c.loop-key.loops ≡ loops faces = c.loop-key.invariant
    ∙ ap (listed (orbit cs) (begins_loop cs)) end ∙ loops-listed faces in
    record {
      exact = exact;
      orbits = subst (AreOrbits cs) (sym exact) (loops-are-orbits faces c.requires);
      net = subst (λ lists. HaveSameNet (all_edges (fan lists)) (curve_edges cs)) (sym exact)
          (loops-net faces c.requires);
      three = subst (AllByRecursion (λ keys. 3 ≤ length keys)) (sym exact)
          (loops-three faces c.requires);
      below = subst (AllByRecursion (λ keys. AllByRecursion (λ k. k < 16) keys)) (sym exact)
          (loops-below faces c.requires);
    }
