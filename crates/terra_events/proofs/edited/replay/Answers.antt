-- An edit more is made and kept, and in the end all are made.
use Rattle.std.proofs.Common.{◌≡◌, ◌+◌, [], ◌∷◌, List, refl, sym, ap, ◌∙◌, subst, get_or, take}
use Rattle.std.specs.Prelude.{reverse}
use Rattle.std.proofs.lemmas.List.{get_or_default, reverse-append, take_all, take_more}
use Rattle.lattice.specs.declared.point.Point.{Point}
use Rattle.terrain.specs.declared.brush.Brush.{Brush}
use Rattle.terrain.specs.declared.brush.Brush.TheVariants.{Cuboid}
use Rattle.terrain.specs.declared.brush.Mode.TheVariants.{Fill}
use Rattle.terrain.specs.Brushes.{IsLawful}
use Rattle.lattice.specs.Settings.{IsDepth}
use Rattle.terra_events.specs.KeptEdits.{EditedState, IsEdited}
use Rattle.terra_events.proofs.EditedLemmas.{IsEdited-more, IsEdited-none}
use Rattle.terra_events.proofs.edited.replay.Goals as goal

pub loop-brush-init : goal.loop-brush-init
loop-brush-init c = record {
  depth = c.in_ok-version.ensures.depth;
  edited = IsEdited-none c.in_ok-version.version c.new-kept.result [] c.new-kept.ensures refl
      (subst IsDepth (sym c.in_ok-version.ensures.depth) c.requires.settings.depth)
      c.in_ok-version.ensures.samples;
}

pub apply_kept-requires-clause-depth : goal.apply_kept-requires-clause-depth
apply_kept-requires-clause-depth c = c.loop-brush.invariant.depth

pub loop-brush-preserved : goal.loop-brush-preserved
loop-brush-preserved c =
    let edits = c.args.edits.now in
    let k = c.loop-brush.brush-index in
    let version = c.loop-brush.version in
    let before : EditedState = record { version = version; edits = reverse (take k edits) } in
    let depth = c.loop-brush.invariant.depth in
    let corner : Point = record { z = 0; y = 0; x = 0 } in
    let nothing : Brush = Cuboid Fill corner corner in
    let brush = get_or edits k nothing in
    let brush_is : brush ≡ get_or edits k brush =
    get_or_default edits k nothing brush c.loop-brush-test.true in
    let lawful : IsLawful version.depth brush =
    subst (λ d. IsLawful d brush) (sym depth) (c.requires.lawful k nothing c.loop-brush-test.true)
    in
    let made = IsEdited-more before c.loop-brush.kept c.push.new.self brush c.in_ok-next.next
    c.in_ok-next.old c.loop-brush.invariant.edited lawful c.in_ok-next.ensures.brushed
    c.in_ok-next.ensures.kept c.in_ok-push.ensures.front in
    let next : brush ∷ reverse (take k edits) ≡ reverse (take (k + 1) edits) =
    sym (ap reverse (take_more edits k nothing c.loop-brush-test.true)
    ∙ reverse-append (take k edits) (brush ∷ [])) in
    record {
      depth = c.in_ok-next.ensures.brushed.depth ∙ depth;
      edited = subst (λ (es : List Brush). IsEdited c.push.new.self
          (record { version = c.in_ok-next.next; edits = es })) next made;
    }

pub returns-clause-depth : goal.returns-clause-depth
returns-clause-depth c = c.loop-brush.invariant.depth

pub returns-clause-edited : goal.returns-clause-edited
returns-clause-edited c =
    let all = take_all c.loop-brush.brush-index c.args.edits.now c.loop-brush-test.false in
    subst (λ (es : List Brush). IsEdited c.loop-brush.kept
    (record { version = c.loop-brush.version; edits = reverse es })) all
    c.loop-brush.invariant.edited
