pub mod BeingCleared
pub mod Counting
mod Dividing
mod Outlining
mod Joining
mod Marking
pub mod Placing
mod Turning
