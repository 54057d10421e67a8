pub mod VectorsLaws
pub mod ProductLaws
pub mod LentLaws
pub mod LaneLaws
pub mod SboxLaws
pub mod EncryptedLaws
pub mod CallsLaws
