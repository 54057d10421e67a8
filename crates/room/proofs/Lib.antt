pub mod Fits
pub mod RoomLaws
pub mod HeldLaws
pub mod AfterLaws
pub mod LengthLaws
pub mod FilledProof
