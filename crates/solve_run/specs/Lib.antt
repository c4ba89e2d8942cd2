pub mod Problems
pub mod Statuses
pub mod Lines
pub mod Outcomes
pub mod Completeness
