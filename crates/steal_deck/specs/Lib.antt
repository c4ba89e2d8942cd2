pub mod Deck
pub mod Handles
