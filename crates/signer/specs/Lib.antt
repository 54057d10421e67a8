pub mod Sign
pub mod Played
pub mod ReadyProp
pub mod Making
pub mod Finished
