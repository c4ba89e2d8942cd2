pub mod Words
pub mod Statuses
pub mod Lines
pub mod Verdicts
pub mod Inputs
pub mod Migrations
pub mod Outcomes
pub mod Completeness
