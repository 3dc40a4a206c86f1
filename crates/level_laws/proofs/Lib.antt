pub mod AmongLemmas
pub mod LeafLemmas
pub mod NodeLemmas
pub mod RangeLemmas
pub mod ShareLemmas
pub mod SplitLemmas
