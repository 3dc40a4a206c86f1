pub mod CaseTables
pub mod EdgeTables
pub mod FanKeys
pub mod RegularLoops
pub mod TransitionFaces
