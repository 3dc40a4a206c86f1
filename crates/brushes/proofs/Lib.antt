pub mod AroundLemmas
pub mod BallLemmas
pub mod BrushedLemmas
pub mod EvenLemmas
pub mod RowLemmas
pub mod ShapeLemmas
pub mod SmoothingLemmas
