-- What is known of a frame of a board's marked journal.
pub mod Marked
