pub mod Instances
pub mod Homes
