pub mod AnswerLemmas
pub mod BesideLemmas
pub mod DeskLemmas
pub mod FeedingLemmas
pub mod TallyLemmas
pub mod WorkLemmas
