pub mod Values
pub mod Together
pub mod Counterparts
pub mod Ends
pub mod Kept
pub mod Once
pub mod Pairs
pub mod Across
