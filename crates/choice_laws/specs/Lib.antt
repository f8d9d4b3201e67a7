pub mod Products
pub mod Rewards
pub mod Columns
pub mod Laws
