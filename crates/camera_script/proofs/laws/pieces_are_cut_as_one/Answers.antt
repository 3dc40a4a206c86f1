-- One piece after another.
use Rattle.std.specs.Prelude.{[], ◌∷◌}
use Rattle.std.proofs.Common.{◌∙◌}
use Rattle.std.proofs.lemmas.List.{append-nil}
use Rattle.camera_script.proofs.CutterLemmas.{HasCut-end, HasCut-line, HasCut-long, HasCut-more}
use Rattle.camera_script.proofs.laws.pieces_are_cut_as_one.Goals as goal

pub returns : goal.returns
returns c = record {
  more = HasCut-more;
  line = HasCut-line;
  long = HasCut-long;
  no_last_line = λ eaten lines old new so_far none.
      HasCut-end eaten lines [] old so_far none ∙ append-nil lines;
  last_line = λ eaten lines old new so_far last.
      HasCut-end eaten lines (new.line ∷ []) old so_far last.2;
}
