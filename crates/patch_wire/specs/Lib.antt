-- Patches as records of bytes.
pub mod Chain
pub mod Puttable
pub mod Putting
pub mod Written
