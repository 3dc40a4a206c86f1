pub mod Examples
pub mod Flows
pub mod Seams
pub mod Sides
