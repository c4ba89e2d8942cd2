pub mod Places
pub mod Reducing
