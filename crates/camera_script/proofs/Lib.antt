pub mod CutterLemmas
pub mod HeadLemmas
pub mod LawfulLemmas
pub mod LineLemmas
pub mod MembersLemmas
pub mod ValuesLemmas
pub mod WordingLemmas
