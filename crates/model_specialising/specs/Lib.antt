pub mod Specialised
pub mod Ends
pub mod Values
pub mod Once
