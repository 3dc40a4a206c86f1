pub mod GroupLemmas
pub mod MarkLemmas
pub mod PlaceLemmas
pub mod RunLemmas
pub mod SetLemmas
pub mod TableLemmas
pub mod WordLemmas
