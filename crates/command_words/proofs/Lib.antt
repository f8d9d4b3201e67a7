pub mod Splits
pub mod Pairs
pub mod Wrong
pub mod Forms
pub mod Assignments
pub mod Requests
pub mod Once
pub mod Names
