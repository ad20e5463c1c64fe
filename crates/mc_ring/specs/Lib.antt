pub mod Reply
pub mod Route
pub mod Stamps
pub mod Channel
pub mod Ends
pub mod EndsLaws
pub mod Made
pub mod internal
