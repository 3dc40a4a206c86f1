pub mod EditedLemmas
pub mod MetLemmas
pub mod WorldLemmas
