pub mod Fixed
pub mod Stages
