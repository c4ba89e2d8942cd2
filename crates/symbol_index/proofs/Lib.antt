pub mod Sorted
pub mod Compared
pub mod Members
pub mod Numbers
pub mod Standings
pub mod Stages
pub mod Listed
pub mod Appended
