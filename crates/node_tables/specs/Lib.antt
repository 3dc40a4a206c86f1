pub mod Groups
pub mod Marks
pub mod Members
pub mod NodeBits
pub mod NodeSlots
