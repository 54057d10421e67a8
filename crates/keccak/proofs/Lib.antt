pub mod LanesLaws
pub mod LaneBitsLaws
pub mod StateArrayLaws
