-- What the lines of a script say, what carries them out and writes, and how that ends. These rules are this project's.
pub mod Ending
pub mod Engine
pub mod Executor
pub mod Input
pub mod Note
pub mod Output
pub mod Play
pub mod Script
pub mod Sender
pub mod Statuses
pub mod Wire
