pub mod Boards
pub mod Settled
