pub mod Around
pub mod BallValues
pub mod Brushed
pub mod Rows
pub mod Values
