pub mod Found
pub mod Lists
pub mod Loops
pub mod Once
