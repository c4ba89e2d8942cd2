pub mod Fields
pub mod Tables
pub mod TableLaws
pub mod Hashing
pub mod Sentences
pub mod Numbers
pub mod Text
