pub mod Bytes
pub mod Texts
pub mod Noted
pub mod FieldCases
pub mod PolyCases
pub mod Shaped
