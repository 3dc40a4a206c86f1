pub mod BatchLemmas
pub mod ChainLemmas
pub mod FitLemmas
pub mod LeafMeshLemmas
pub mod RereadLemmas
pub mod WrittenLemmas
