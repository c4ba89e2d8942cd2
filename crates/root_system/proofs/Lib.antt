pub mod InOrder
pub mod OneRoot
pub mod Parts
pub mod Vanishing
pub mod Variables
