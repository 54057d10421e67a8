pub mod Hashing
pub mod HashCall
pub mod SeedsCall
