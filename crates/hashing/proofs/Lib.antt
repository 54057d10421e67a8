pub mod HashingLaws
pub mod HashCallLaws
pub mod SeedsCallLaws
