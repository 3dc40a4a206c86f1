-- Worlds that a game's thread owns.
pub mod Game
