pub mod MatricesLaws
pub mod LowmcLaws
pub mod GatesLaws
pub mod ExamplesProof
pub mod RoundLaws
pub mod OpeningLaws
pub mod TapesLaws
