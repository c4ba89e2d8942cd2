pub mod Parts
pub mod Names
pub mod Checks
pub mod Firsts
pub mod Faults
pub mod Alone
pub mod Answered
