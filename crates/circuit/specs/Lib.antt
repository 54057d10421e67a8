pub mod Matrices
pub mod Lowmc
pub mod Gates
pub mod Examples
pub mod Round
pub mod RoundTheorems
pub mod Tapes
