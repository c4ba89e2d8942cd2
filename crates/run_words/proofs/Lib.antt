pub mod Alone
pub mod Parsed
