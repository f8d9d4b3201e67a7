pub mod Looped
pub mod Elements
