pub mod Single
pub mod Shut
pub mod Bounding
pub mod Pieces
pub mod Worded
pub mod Choices
pub mod Deciding
pub mod Limiting
pub mod Whole
pub mod Reasoning
pub mod Places
pub mod Marking
mod Growing
mod OneSyntax
mod Spelling
