pub mod Problems
pub mod Files
pub mod Named
pub mod Reading
