pub mod Followers
pub mod Loops
