pub mod InputLemmas
pub mod MirrorLemmas
pub mod ReadingLemmas
pub mod ShownLemmas
