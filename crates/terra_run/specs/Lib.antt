-- What a run reads, does and writes. The rules are this project's own.
pub mod Performed
pub mod Run
pub mod SeamlessOutput
pub mod Shown
