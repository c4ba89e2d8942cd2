mod Pairs
mod Cases
mod Grown
mod PlainTree
pub mod Serial
mod Works
