pub mod Targets
pub mod Keys
pub mod Adding
pub mod MergedOnce
pub mod Shown
