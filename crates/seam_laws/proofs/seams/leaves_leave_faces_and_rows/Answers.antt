-- What a leaf leaves open, and what of it lies on the border.
use Rattle.seam_laws.proofs.LeafTotals.{leaf-open, leaf-on_border}
use Rattle.seam_laws.proofs.seams.leaves_leave_faces_and_rows.Goals as goal

pub returns : goal.returns
returns c = record {
  triangles = λ w s depth m n tree n_in. leaf-open w s depth m tree n n_in;
  border = λ w s depth m n tree n_in. leaf-on_border w s depth m tree n n_in;
}
