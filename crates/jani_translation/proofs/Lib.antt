pub mod Each
pub mod OneForOne
pub mod Vectors
pub mod Fresh
pub mod SameSeen
pub mod SameColumns
pub mod Differ
pub mod Elements
pub mod Written
pub mod Clean
pub mod StateNames
pub mod States
pub mod Edges
pub mod Sums
pub mod Marks
pub mod Choices
pub mod Assigned
pub mod Monitor
pub mod Watched
pub mod WatchedSilently
mod Sources
mod Targets
mod Worked
mod StateWorked
mod WatchedWorked
pub mod Bare
pub use Rattle.name_table.proofs.Parts
pub mod Counts
