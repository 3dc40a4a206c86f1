-- The tests are those of the definition.
use Rattle.std.proofs.Common.{ap, length, sym, ◌∙◌, arith}
use Rattle.std.proofs.lemmas.Bool.{leb-true}
use Rattle.std.specs.Arc.{arc_value}
use Rattle.std.specs.List.{list_all}
use Rattle.lattice.specs.Node.{is_node}
use Rattle.snapshots.specs.Blocks.{block_node}
use Rattle.snapshots.proofs.AbsorbedLemmas.{suits-blocks}
use Rattle.snapshots.proofs.frame.Frame.is_suited.Goals as goal
use Rattle.snapshots.proofs.frame.Frame.is_suited.Goals.{then-base-len, else-base-len}

pub returns-then-base-len-le-MAX_EVENTS : goal.returns-then-base-len-le-MAX_EVENTS
returns-then-base-len-le-MAX_EVENTS c =
    elim c.if-base-len.branch [
      | then-base-len w ↦
          c.are_in_world.ensures
          ∙ ap (list_all (λ done. is_node c.depth-depth.result (block_node (arc_value done))))
          c.deref.ensures.value
          ∙ suits-blocks c.args.patch.now c.args.self.now c.depth-depth.result
          (c.depth-depth.ensures.value ∙ c.self.invariant.depth
          ∙ ap (λ f. f.settings.depth) c.self.view_is)
          (omega (
            arith,
            w.if-base-len.true,
            c.len.ensures,
            c.self.inside.events.ok.0,
            ap (λ f. length f.events) c.self.view_is,
          ))
          (omega (
            arith,
            leb-true _ _ (sym w.value-is ∙ c.if-base-len-le-MAX_EVENTS.true),
            w.len-then-base-len.ensures,
            c.args.patch.now.events.ok.0,
          ))
      | else-base-len w ↦
          absurd (omega (
            arith,
            leb-true _ _ (sym w.value-is ∙ c.if-base-len-le-MAX_EVENTS.true),
            w.if-base-len.false,
          ))
    ]
