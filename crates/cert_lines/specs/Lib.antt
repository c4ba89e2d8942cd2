pub mod Bytes
pub mod Words
pub mod Forms
pub mod Fitting
pub mod LineReading
