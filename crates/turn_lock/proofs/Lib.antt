pub mod Prefixes
pub mod Views
pub mod Places
pub mod Standing
pub mod Moves
pub mod Turning
pub mod Idle
pub mod Joining
