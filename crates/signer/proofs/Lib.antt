pub mod SeedLaws
pub mod PlayLaws
pub mod WriteLaws
pub mod WriteRoundsLaws
pub mod SignLaws
