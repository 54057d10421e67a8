pub mod Sets
pub mod SetsProp
pub mod Lengths
pub mod Figures
