pub mod BoardLemmas
pub mod KeepingLemmas
pub mod ListLemmas
pub mod OpeningLemmas
pub mod PatchLemmas
pub mod StateLemmas
pub mod TableLemmas
pub mod WantLemmas
