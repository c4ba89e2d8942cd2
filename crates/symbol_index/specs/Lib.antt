pub mod Symbols
pub mod Order
pub mod Appended
pub mod Sides
