pub mod Told
pub mod Stops
pub mod Readings
