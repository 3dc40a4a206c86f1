pub mod LedLemmas
pub mod MeshLemmas
pub mod NextTextLemmas
pub mod PieceLemmas
pub mod ShotLemmas
