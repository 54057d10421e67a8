pub mod Lent
pub mod LentProp
pub mod Cipher
pub mod Encrypted
pub mod Vectors
pub mod Inner
pub mod Calls
