pub mod Streams
pub mod Inputs
pub mod Faults
pub mod Lines
