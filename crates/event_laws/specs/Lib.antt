pub mod ChangedLeaves
pub mod Changes
pub mod Laws
