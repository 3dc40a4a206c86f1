pub mod BehindLemmas
pub mod EngineLemmas
pub mod InputLemmas
pub mod PlayLemmas
pub mod SenderLemmas
pub mod StreamLemmas
