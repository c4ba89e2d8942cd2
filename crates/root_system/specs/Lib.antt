pub mod Ascending
pub mod PrimitiveParts
pub mod Forms
pub mod Root
pub mod Solution
