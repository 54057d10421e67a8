pub mod Shake
pub mod Sponge
