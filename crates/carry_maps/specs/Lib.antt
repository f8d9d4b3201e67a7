pub mod Maps
pub mod Instances
