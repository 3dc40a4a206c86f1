pub mod AnyLemmas
pub mod BinaryLemmas
