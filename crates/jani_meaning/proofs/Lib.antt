pub mod Columns
pub mod Proper
pub mod Constants
pub mod Bare
mod Worked
pub mod Initial
pub mod OneStart
