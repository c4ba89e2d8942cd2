pub mod Values
pub mod Differences
pub mod Contributions
pub mod Trees
