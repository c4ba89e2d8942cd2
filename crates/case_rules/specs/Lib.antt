pub mod Cases
pub mod Kept
pub mod Clearings
pub mod Branches
pub mod Rules
pub mod Ends
pub mod Belonging
pub mod EndLaws
