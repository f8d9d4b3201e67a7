pub mod Truths
pub mod Walks
pub mod Products
pub mod Members
pub mod Rewards
pub mod Participants
pub mod Columns
