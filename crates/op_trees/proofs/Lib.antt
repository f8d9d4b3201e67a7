pub mod Answered
pub mod Made
mod Unnoted
