pub mod State
pub mod Board
pub mod Standing
pub mod Nodes
pub mod Entries
pub mod Agreeing
pub mod CaseLaws
pub mod Origins
