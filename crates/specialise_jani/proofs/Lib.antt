pub mod ConstantLaws
pub mod Meaning
pub mod Same
pub mod Demanding
pub mod Formed
pub mod Once
pub mod Clean
mod Steps
