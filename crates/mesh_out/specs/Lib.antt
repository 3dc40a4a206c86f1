-- What a run writes. The order of lines and what is on each is this project's rule.
pub mod Numerals
pub mod Text
pub mod Writing
