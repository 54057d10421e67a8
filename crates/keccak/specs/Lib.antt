pub mod Lanes
pub mod StateArray
