pub mod Fields
pub mod Header
pub mod Rounds
pub mod Form
pub mod Reading
pub mod RoundTrips
pub mod Examples
pub mod Longest
