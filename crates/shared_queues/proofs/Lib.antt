pub mod RuleLemmas
pub mod TotalLemmas
pub mod WeightLemmas
