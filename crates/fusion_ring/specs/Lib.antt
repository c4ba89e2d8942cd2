pub mod Fusion
pub mod Rings
pub mod Listed
pub mod Faults
