-- Audits of frames, and what many looks at frames count. This project's rule.
pub mod Audit
pub mod Counts
pub mod Tally
