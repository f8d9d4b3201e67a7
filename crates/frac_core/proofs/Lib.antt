pub mod Parts
pub mod Decimals
pub mod Digits
pub mod Readings
pub mod Worth
pub mod Back
