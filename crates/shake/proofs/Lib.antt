pub mod OctetsLaws
pub mod StateLaws
pub mod SpongeLaws
pub mod ShakeLaws
