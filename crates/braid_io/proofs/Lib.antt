pub mod Moved
pub mod Slices
