pub mod PairsLaws
pub mod BlocksLaws
pub mod FillingLaws
pub mod ChallengeCallLaws
pub mod ExamplesProof
pub mod LimitsProof
