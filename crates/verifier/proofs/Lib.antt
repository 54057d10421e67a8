pub mod OpenedLaws
pub mod FillLaws
pub mod VerdictLaws
pub mod VerifyLaws
