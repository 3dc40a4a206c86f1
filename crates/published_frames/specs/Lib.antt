-- What viewers have seen, and the rule of publication.
-- Source: this project's rule.
pub mod Doors
pub mod News
pub mod Pasts
pub mod Rule
pub mod Seen
pub mod Series
pub mod Spares
pub mod States
