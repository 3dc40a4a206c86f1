pub mod ClosingLemmas
pub mod DrillingLemmas
pub mod EditingLemmas
pub mod HeadLemmas
