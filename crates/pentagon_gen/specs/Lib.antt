pub mod Pentagon
pub mod Differences
