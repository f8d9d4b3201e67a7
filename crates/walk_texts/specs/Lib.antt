pub mod Lines
pub mod Stops
pub mod Jobs
pub mod Laws
