pub mod InnerLemmas
pub mod SlopeLemmas
