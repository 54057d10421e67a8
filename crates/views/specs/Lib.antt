pub mod Parties
pub mod Signed
pub mod Opened
pub mod Input
pub mod Complete
