pub mod Room
pub mod Filled
