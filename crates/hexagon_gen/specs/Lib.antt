pub mod Hexagons
pub mod Differences
