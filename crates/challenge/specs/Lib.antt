pub mod Pairs
pub mod Blocks
pub mod Filling
pub mod ChallengeCall
pub mod Examples
pub mod Limits
