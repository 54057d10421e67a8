pub mod Verify
pub mod Opened
pub mod CheckedProp
