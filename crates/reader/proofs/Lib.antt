pub mod BitLaws
pub mod FollowLaws
pub mod SettledProof
pub mod ValueLaws
