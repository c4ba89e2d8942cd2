pub mod Apart
pub mod Judged
pub mod Told
pub mod Migrated
