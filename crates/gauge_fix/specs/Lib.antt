pub mod Gauge
pub mod Inverses
