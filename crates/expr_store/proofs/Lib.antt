pub mod Standing
pub mod Valued
