pub mod PresentLemmas
pub mod RoundLemmas
pub mod SettleLemmas
pub mod WantedLemmas
