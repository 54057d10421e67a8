pub mod Promises
pub mod Reading
