mod Places
mod Settled
pub mod Called
pub mod Givens
pub mod Numbered
