pub mod BrickLemmas
pub mod ChangeLemmas
pub mod CubeLemmas
pub mod MapLemmas
pub mod RimLemmas
pub mod TouchedLemmas
