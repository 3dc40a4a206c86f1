pub mod Brick
pub mod Even
pub mod Line
pub mod Parts
pub mod Samples
pub mod Slots
pub mod Tiles
