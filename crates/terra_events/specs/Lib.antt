pub mod KeptEdits
pub mod Met
pub mod World
