-- An edge that was met has its key where that was noted, and one that wasn't is looked up and noted.
use Rattle.std.proofs.Common.{◌+◌, ◌-◌, ◌<◌, get_or, length, set, sym, subst, arith}
use Rattle.lattice.specs.declared.key.Key.{Key}
use Rattle.block_mesh.specs.Builder.{Adds, HasMet}
use Rattle.block_mesh.specs.LeafCells.{square_key}
use Rattle.block_mesh.proofs.MetLemmas.{Adds-met, HasMet-next, place-below_count}
use Rattle.block_mesh.proofs.builder.Builder.met_index.Goals as goal

pub returns-then-known-gt0-clause-adds : goal.returns-then-known-gt0-clause-adds
returns-then-known-gt0-clause-adds c =
    let b = c.args.brick.now in
    let q = c.args.square in
    let self = c.args.self.now in
    let met = c.args.met.now in
    let key : Key = square_key b.node q.face q.v q.u c.args.edge in
    subst (λ slot. Adds b key self self (get_or met slot 0 - 1)) (sym c.from-slot.ensures)
    (Adds-met b q met self c.args.edge c.requires.met c.requires.builds
    (subst (λ slot. 0 < get_or met slot 0) c.from-slot.ensures c.if-known-gt0.true))

pub overflow_add-met : goal.overflow_add-met
overflow_add-met c =
    let q = c.args.square in
    let key : Key = square_key c.args.brick.now.node q.face q.v q.u c.args.edge in
    omega (
      arith,
      place-below_count c.args.brick.now key c.args.self.now c.transition_index.new.self _
          c.in_ok-place.ensures.adds,
      c.in_ok-place.ensures.few,
      c.requires.room,
    )

pub returns-clause-met : goal.returns-clause-met
returns-clause-met c =
    let b = c.args.brick.now in
    let new = c.transition_index.new.self in
    let within : c.args.edge < length c.args.met.now = omega (arith, c.requires.edge) in
    subst (λ slot. HasMet b c.args.square (set c.args.met.now slot (c.in_ok-place.place + 1)) new)
    (sym c.from-slot.ensures)
    (HasMet-next b c.args.square c.args.met.now c.args.edge c.args.self.now new
    c.in_ok-place.place within c.requires.met c.in_ok-place.ensures.adds)
