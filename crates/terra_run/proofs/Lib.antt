pub mod ExactLemmas
pub mod ExtendLemmas
pub mod MirroringLemmas
pub mod PerformLemmas
pub mod RanLemmas
pub mod RequestLemmas
pub mod SeamlessLemmas
