-- By the leaves above the node and below the split one.
use Rattle.level_laws.proofs.SplitLemmas.{face_splits, segment_splits}
use Rattle.level_laws.proofs.balance.balance_splits_nodes_beside_split_ones.Goals as goal

pub returns : goal.returns
returns c = record { segments = segment_splits; faces = face_splits }
