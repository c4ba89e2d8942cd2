pub mod Legal
pub mod Tree
pub mod Work
