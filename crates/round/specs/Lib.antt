pub mod Engine
pub mod Inner
pub mod Inputs
