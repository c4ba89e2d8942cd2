pub mod Apart
pub mod Ranges
pub mod Searched
pub mod Certified
pub mod Told
