pub mod Parsed
pub mod Lexed
pub mod Reasons
pub mod Laws
