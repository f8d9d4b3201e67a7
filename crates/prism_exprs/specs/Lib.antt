pub mod Kept
pub mod Reading
pub mod Levels
pub mod Scope
