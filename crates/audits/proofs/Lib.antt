pub mod AuditLemmas
pub mod LeafCountLemmas
pub mod LeafLemmas
pub mod NamedLemmas
pub mod TallyLemmas
pub mod TallySteps
