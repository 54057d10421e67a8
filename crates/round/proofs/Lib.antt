pub mod GateLaws
pub mod EngineLaws
pub mod VerifierLaws
pub mod SignerLaws
pub mod InputsLaws
