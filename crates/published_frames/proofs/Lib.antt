pub mod EventLemmas
pub mod NewsLemmas
pub mod Publishing
pub mod SeenLemmas
pub mod SpareLemmas
