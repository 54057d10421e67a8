pub mod PaddedLaws
pub mod HeadLaws
pub mod FillLaws
pub mod WalkLaws
pub mod PlacesLaws
pub mod PutLaws
