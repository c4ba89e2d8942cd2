pub mod Indices
pub mod Channels
pub mod Duals
pub mod Stated
pub mod StatedProducts
pub mod Rules
pub mod Total
pub mod Answered
