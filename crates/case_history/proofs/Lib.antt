pub mod Numbers
pub mod Fates
pub mod Replays
mod Meanings
mod Ends
mod Accepted
