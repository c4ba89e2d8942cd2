pub mod Faults
pub mod Machine
pub mod Seen
pub mod Progress
