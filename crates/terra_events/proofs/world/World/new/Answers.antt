-- Before any event the field is the opening one, no edit is in force, and nobody looks.
use Rattle.std.proofs.Common.{rules, ◌≡◌, ap, refl, sym, ◌∙◌, subst}
use Rattle.std.specs.Prelude.{All}
use Rattle.std.proofs.lemmas.List.Elements.{All-nil}
use Rattle.terrain.specs.History.{IsLawfulEvent, field_of, in_force}
use Rattle.terrain.specs.Levels.{levels, split}
use Rattle.octree.specs.SplitBits.{SplitBits, split_at}
use Rattle.terra_events.proofs.WorldLemmas.{AreViewsOf-none}
use Rattle.terra_events.proofs.world.World.new.Goals as goal

pub invariant_of-result : goal.invariant_of-result
invariant_of-result c =
    let none = c.in_ok-events.ensures.items in
    let edits : c.in_ok-field.field.edits ≡ in_force c.in_ok-events.events.items =
    c.in_ok-field.ensures.edits ∙ ap in_force (sym none) in (
      record {
        allowed = c.requires;
        lawful = subst (All (IsLawfulEvent c.args.settings.depth)) (sym none)
            (All-nil (IsLawfulEvent c.args.settings.depth));
        stands = record {
          settings = refl;
          journal = refl;
          field_depth = c.in_ok-field.ensures.depth;
          field = λ p inside. c.in_ok-field.ensures.holds.field p inside
              ∙ (λ i. field_of (c.in_ok-field.ensures.depth i) (edits i) p);
          map_depth = search rules;
          map = λ n. ap (λ (bits : SplitBits). split_at bits n) c.in_ok-levels.ensures.ok
              ∙ c.in_ok-choose.ensures.split n
              ∙ sym (ap (λ events. levels c.args.settings events n) none
              ∙ ap (λ points. split c.args.settings points n)
              c.levels_follow_the_viewpoints.ensures.nobody);
        };
        balanced = search rules;
        few = search rules;
        room = search rules;
      },
      AreViewsOf-none c.args.settings c.in_ok-events.events.items c.none.result none
          c.none.ensures.count c.none.ensures.none,
      edits,
    )
