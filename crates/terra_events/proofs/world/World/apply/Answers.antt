-- Both worlds stand for their journals, so an untouched leaf has the brick that it had.
use Rattle.std.proofs.Common.{◌≡◌, List, [], ◌∷◌, ◌++◌, All, sym, ap, subst}
use Rattle.std.proofs.lemmas.List.Elements.{All-push}
use Rattle.lattice.specs.declared.node.Node.{Node}
use Rattle.terrain.specs.declared.event.Event.{Event}
use Rattle.terrain.specs.declared.event.Event.TheVariants.{Edit, Camera, Away, Undo}
use Rattle.terrain.specs.Blocks.{touched}
use Rattle.terrain.specs.History.{IsLawfulEvent}
use Rattle.terra_events.specs.World.{KeepsBricksBut, IsWorldOf, WorldState}
use Rattle.terra_events.proofs.WorldLemmas.{keeps_bricks}
use Rattle.terra_events.proofs.world.World.apply.Goals as goal
use Rattle.terra_events.proofs.world.World.apply.Goals.{in-Edit+in_ok-touched-in-Edit, in-Camera+in_ok-touched-in-Camera, in-Away+in_ok-touched-in-Away, in-Undo+in_ok-touched-in-Undo}

pub returns-clause-bricks : goal.returns-clause-bricks
returns-clause-bricks c =
    let old : WorldState = c.args.self.now in
    let before : IsWorldOf old old.settings old.events =
    subst (λ w. IsWorldOf w w.settings w.events) c.self.view_is c.self.invariant.0.stands in
    let kept : (event : Event) (new : WorldState) (leaves : List Node)
    → IsLawfulEvent old.settings.depth event
    → IsWorldOf new old.settings (old.events ++ event ∷ [])
    → leaves ≡ touched old.settings old.events event → KeepsBricksBut leaves old new =
    λ event new leaves fits after is_touched.
    let IsFit = IsLawfulEvent old.settings.depth in
    let lawful : All IsFit (old.events ++ event ∷ []) =
    All-push IsFit old.events event
    (subst (λ (w : WorldState). All (IsLawfulEvent w.settings.depth) w.events) c.self.view_is
    c.self.invariant.0.lawful) fits in
    keeps_bricks old new event leaves c.bricks_read_their_leaf.ensures.world
    (c.untouched_leaves_keep_their_bricks.ensures.leaf old.settings old.events event)
    (λ n. c.untouched_leaves_keep_their_bricks.ensures.brick old.settings old.events event n lawful)
    before after is_touched in
    let moved : (self : WorldState) (leaves : List Node) → c.match-event.self ≡ self
    → c.match-event.touched.leaves.items ≡ leaves → KeepsBricksBut leaves old self
    → KeepsBricksBut c.match-event.touched.leaves.items old c.match-event.self =
    λ self leaves self_is leaves_is keeps.
    subst (λ w. KeepsBricksBut c.match-event.touched.leaves.items old w) (sym self_is)
    (subst (λ l. KeepsBricksBut l old self) (sym leaves_is) keeps) in
    elim c.match-event.branch [
      | in-Edit+in_ok-touched-in-Edit w ↦
          moved w.edit.new.self w.in_ok-touched-in-Edit.touched.leaves.items w.self-is
          (ap (λ t. t.leaves.items) w.touched-is)
          (kept (Edit w.in-Edit.brush) w.edit.new.self w.in_ok-touched-in-Edit.touched.leaves.items
          (subst (λ e. IsLawfulEvent old.settings.depth e) w.in-Edit.is c.requires)
          w.in_ok-touched-in-Edit.ensures.stands w.in_ok-touched-in-Edit.ensures.touched)
      | in-Camera+in_ok-touched-in-Camera w ↦
          moved w.look.new.self w.in_ok-touched-in-Camera.touched.leaves.items w.self-is
          (ap (λ t. t.leaves.items) w.touched-is)
          (kept (Camera w.in-Camera.view w.in-Camera.at) w.look.new.self
          w.in_ok-touched-in-Camera.touched.leaves.items
          (subst (λ e. IsLawfulEvent old.settings.depth e) w.in-Camera.is c.requires)
          w.in_ok-touched-in-Camera.ensures.stands w.in_ok-touched-in-Camera.ensures.touched)
      | in-Away+in_ok-touched-in-Away w ↦
          moved w.look-in-Away.new.self w.in_ok-touched-in-Away.touched.leaves.items w.self-is
          (ap (λ t. t.leaves.items) w.touched-is)
          (kept (Away w.in-Away.view) w.look-in-Away.new.self
          w.in_ok-touched-in-Away.touched.leaves.items
          (subst (λ e. IsLawfulEvent old.settings.depth e) w.in-Away.is c.requires)
          w.in_ok-touched-in-Away.ensures.stands w.in_ok-touched-in-Away.ensures.touched)
      | in-Undo+in_ok-touched-in-Undo w ↦
          moved w.undo.new.self w.in_ok-touched-in-Undo.touched.leaves.items w.self-is
          (ap (λ t. t.leaves.items) w.touched-is)
          (kept Undo w.undo.new.self w.in_ok-touched-in-Undo.touched.leaves.items tt
          w.in_ok-touched-in-Undo.ensures.stands w.in_ok-touched-in-Undo.ensures.touched)
    ]

pub returns-clause-stands : goal.returns-clause-stands
returns-clause-stands c =
    let old : WorldState = c.args.self.now in
    let moved : (self : WorldState) (event : Event) → c.match-event.self ≡ self
    → c.args.event ≡ event → IsWorldOf self old.settings (old.events ++ event ∷ [])
    → IsWorldOf c.match-event.self old.settings (old.events ++ c.args.event ∷ []) =
    λ self event self_is event_is stands.
    subst (λ w. IsWorldOf w old.settings (old.events ++ c.args.event ∷ [])) (sym self_is)
    (subst (λ e. IsWorldOf self old.settings (old.events ++ e ∷ [])) (sym event_is) stands) in
    elim c.match-event.branch [
      | in-Edit+in_ok-touched-in-Edit w ↦
          moved w.edit.new.self (Edit w.in-Edit.brush) w.self-is w.in-Edit.is
          w.in_ok-touched-in-Edit.ensures.stands
      | in-Camera+in_ok-touched-in-Camera w ↦
          moved w.look.new.self (Camera w.in-Camera.view w.in-Camera.at) w.self-is w.in-Camera.is
          w.in_ok-touched-in-Camera.ensures.stands
      | in-Away+in_ok-touched-in-Away w ↦
          moved w.look-in-Away.new.self (Away w.in-Away.view) w.self-is w.in-Away.is
          w.in_ok-touched-in-Away.ensures.stands
      | in-Undo+in_ok-touched-in-Undo w ↦
          moved w.undo.new.self Undo w.self-is w.in-Undo.is w.in_ok-touched-in-Undo.ensures.stands
    ]
