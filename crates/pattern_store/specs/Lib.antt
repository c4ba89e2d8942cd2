pub mod Numbers
pub mod Refuted
