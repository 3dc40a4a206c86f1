pub mod Board
pub mod Keeping
pub mod Leads
pub mod LeafStates
pub mod LeafTable
pub mod Parts
