mod Reached
pub mod Told
pub mod Stopped
mod Seen
pub mod Places
pub mod Whole
pub mod Fitting
pub mod Grows
pub mod Single
mod Trees
