pub mod TestLaws
pub mod UnpackLaws
pub mod PackLaws
pub mod CallLaws
