pub mod Vanishing
pub mod Low
pub mod Listed
pub mod Stages
