pub mod Vanishing
pub mod OneAnswer
pub mod Judged
pub mod Ones
pub mod KnownSets
