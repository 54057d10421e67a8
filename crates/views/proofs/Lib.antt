pub mod PartiesLaws
pub mod BytesOfRows
pub mod CompleteProof
