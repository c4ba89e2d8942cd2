pub mod Monomials
pub mod Keys
pub mod Stored
pub mod Layouts
pub mod Readings
