-- Records of patches as bytes, and what comes of them.
pub mod Drafts
pub mod FaultCodes
pub mod Fed
pub mod Fits
pub mod Following
pub mod Grammar
pub mod Held
pub mod Puts
pub mod Readers
pub mod Reading
pub mod Replicas
pub mod Stages
pub mod Worlds
