pub mod Lists
pub mod Replaying
pub mod Causes
pub mod Walking
pub mod Stops
