pub mod Passing
pub mod Ascending
pub mod ReadingLaws
pub mod DecodingLaws
pub mod PageLaws
