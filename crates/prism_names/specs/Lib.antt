pub mod Names
pub mod Flat
pub mod WrittenOut
pub mod Sizes
pub mod Order
pub mod Places
pub mod Laws
