pub mod FrameLemmas
pub mod NextLemmas
pub mod PieceLemmas
pub mod TextLemmas
pub mod WritingLemmas
