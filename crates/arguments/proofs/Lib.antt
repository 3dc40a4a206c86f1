pub mod LentLemmas
pub mod NumberLemmas
pub mod OptionsLemmas
pub mod RequestLemmas
