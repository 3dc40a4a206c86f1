-- The place is found level by level; behind all levels but the last is the root.
use Rattle.std.proofs.Common.{◌≡◌, ◌^◌, ap, arith, length, subst, sym}
use Rattle.lattice.specs.Lists.{joined}
use Rattle.lattice.specs.Node.{level_nodes}
use Rattle.node_tables.proofs.PlaceLemmas.{IsAtPlace, IsAtPlace-in_level, IsAtPlace-root}
use Rattle.node_tables.proofs.places.node_at.Goals as goal

pub loop-level-init : goal.loop-level-init
loop-level-init c = omega (arith, c.counts_of_nodes.ensures.none c.args.depth)

pub pow-requires : goal.pow-requires
pow-requires c =
    omega (
      arith,
      ap (λ a. a ^ 3) c.nodes_across-across.ensures,
      c.counts_of_nodes.ensures.level_most c.args.depth c.loop-level.level c.requires.depth,
    )

pub returns-then-before-pow : goal.returns-then-before-pow
returns-then-before-pow c =
    let at = IsAtPlace-in_level c.args.depth c.loop-level.level c.args.place c.loop-level.before
    c.nodes_across-across.result
    (omega arith) c.loop-level.invariant c.nodes_across-across.ensures
    (omega (arith, c.pow.ensures)) in
    record { listed = at.listed; node = at.node; slot = at.at_slot }

pub loop-level-preserved : goal.loop-level-preserved
loop-level-preserved c =
    omega (
      arith,
      c.counts_of_nodes.ensures.more c.args.depth c.loop-level.level,
      ap (λ a. a ^ 3) c.nodes_across-across.ensures,
      c.loop-level.invariant,
      c.pow.ensures,
      c.pow-before.ensures,
    )

pub returns : goal.returns
returns c =
    let last : c.loop-level.level ≡ c.args.depth = omega arith in
    let at = subst (IsAtPlace c.args.depth c.args.place) (sym c.root.ensures)
    (IsAtPlace-root c.args.depth c.args.place (omega (
      arith,
      ap (λ l. length (joined l (level_nodes c.args.depth))) last,
      c.slots_of_nodes.ensures.last c.args.depth,
      c.counts_of_nodes.ensures.all c.args.depth,
      c.loop-level.invariant,
      c.requires.place,
    ))) in
    record { listed = at.listed; node = at.node; slot = at.at_slot }
