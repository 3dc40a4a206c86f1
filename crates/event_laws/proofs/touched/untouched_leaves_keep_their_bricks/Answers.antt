-- An untouched leaf was a leaf, no sample of its cube changed, and its rim stayed.
use Rattle.std.proofs.Common.{◌≡◌, ℕ, List, [], ◌∷◌, ◌++◌, All, refl, sym, ◌∙◌, ◌↔◌}
use Rattle.std.specs.Prelude.{false, IsTrue}
use Rattle.std.proofs.lemmas.List.Elements.{All-head}
use Rattle.lattice.specs.declared.node.Node.{Node}
use Rattle.lattice.specs.declared.point.Point.{Point}
use Rattle.lattice.specs.Region.{IsWithin, is_within}
use Rattle.terrain.specs.declared.brush.Brush.{Brush}
use Rattle.terrain.specs.declared.event.Event.{Event}
use Rattle.terrain.specs.declared.event.Event.TheVariants.{Edit, Camera, Away, Undo}
use Rattle.terrain.specs.Blocks.{edits}
use Rattle.terrain.specs.Brushes.{IsLawful, after_brush, region}
use Rattle.terrain.specs.History.{IsLawfulEvent, field_of, in_force, in_force_by, sample}
use Rattle.terrain.specs.Levels.{levels}
use Rattle.lattice.specs.Node.{cube}
use Rattle.lattice.proofs.SizeLemmas.{corner_inside}
use Rattle.lattice.proofs.TestLemmas.{region_test}
use Rattle.level_laws.proofs.LeafLemmas.{leaf_test}
use Rattle.event_laws.proofs.BrickLemmas.{brick-same}
use Rattle.event_laws.proofs.ChangeLemmas.{All-back, All-front}
use Rattle.event_laws.proofs.CubeLemmas.{IsInWorld-cube}
use Rattle.event_laws.proofs.MapLemmas.{rim-lowest}
use Rattle.event_laws.proofs.TouchedLemmas.{IsKept-from, is_within-unmet}
use Rattle.event_laws.proofs.touched.untouched_leaves_keep_their_bricks.Goals as goal

-- an event changes no sample in the cube of a node that it doesn't edit
in_force_by-unedited : (depth : ℕ) (event : Event) (brushes : List Brush) (n : Node) (p : Point)
    → ((box : _) → IsTrue (is_within box p) ↔ IsWithin box p)
    → ((brush : Brush) (before : List Brush) → IsLawful depth brush
    → is_within (region depth brush) p ≡ false
    → after_brush depth brush (field_of depth before) p ≡ field_of depth before p)
    → All (IsLawful depth) brushes → IsLawfulEvent depth event
    → edits depth brushes event n ≡ false → IsWithin (cube n) p
    → field_of depth (in_force_by event brushes) p ≡ field_of depth brushes p
in_force_by-unedited depth (Edit brush) brushes n p test keeps all lawful off on =
    keeps brush brushes lawful
    (is_within-unmet (region depth brush) n p (test (region depth brush)) off on)
in_force_by-unedited depth (Camera view at) brushes n p test keeps all lawful off on = refl
in_force_by-unedited depth (Away view) brushes n p test keeps all lawful off on = refl
in_force_by-unedited depth Undo [] n p test keeps all lawful off on = refl
in_force_by-unedited depth Undo (brush ∷ before) n p test keeps all lawful off on =
    sym (keeps brush before (All-head (IsLawful depth) brush before all)
    (is_within-unmet (region depth brush) n p (test (region depth brush)) off on))

pub returns-clause-leaf : goal.returns-clause-leaf
returns-clause-leaf c = λ settings events event n leaf untouched.
    let depth = settings.depth in
    let before = levels settings events in
    let after = levels settings (events ++ event ∷ []) in
    let kept = IsKept-from depth before after (in_force events) event n leaf untouched in
    (leaf_test depth before n).0 kept.leaf

pub returns-clause-brick : goal.returns-clause-brick
returns-clause-brick c = λ settings events event n all leaf untouched.
    let depth = settings.depth in
    let before = levels settings events in
    let after = levels settings (events ++ event ∷ []) in
    let kept = IsKept-from depth before after (in_force events) event n leaf untouched in
    let in_world = corner_inside depth n leaf.node in
    brick-same depth (sample settings events) (sample settings (events ++ event ∷ []))
    before after n
    (λ p on.
    let more = c.histories_grow_by_events.ensures settings events event p in
    let same = in_force_by-unedited depth event (in_force events) n p
    (λ box. region_test box p)
    (λ brush edits fits off. c.brushes_keep_samples_off_their_region.ensures depth brush
    (field_of depth edits) p fits (IsInWorld-cube depth n p in_world on)
    (c.samples_stay_in_range.ensures.edits depth edits p) off)
    (c.fields_follow_the_edits_in_force.ensures.lawful depth events
    (All-front (IsLawfulEvent depth) events (event ∷ []) all))
    (All-head (IsLawfulEvent depth) event []
    (All-back (IsLawfulEvent depth) events (event ∷ []) all))
    kept.unedited on in
    sym (more ∙ same))
    kept.rim (rim-lowest settings events n)
