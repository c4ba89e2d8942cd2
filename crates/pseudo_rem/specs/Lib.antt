pub mod Steps
pub mod Remainders
pub mod Scan
