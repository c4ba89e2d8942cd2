pub mod Parts
pub mod Leaves
pub mod Items
pub mod Limits
pub mod Variables
