-- What sources and sinks of bytes promise. The rules are this project's own.
pub mod Adapters
pub mod Memory
pub mod Stream
