pub mod History
pub mod Replay
pub mod JustOne
pub mod Counts
