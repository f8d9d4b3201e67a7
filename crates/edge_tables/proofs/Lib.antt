mod Numbered
pub mod EdgeTables
pub mod Looping
pub mod Members
pub mod Serves
pub mod Whole
pub mod Blocked
pub mod TakingPart
pub mod Positions
pub mod RowNumbers
pub mod FileTables
pub mod Counting
mod Summing
pub mod Splitting
pub mod Crowded
pub use Rattle.prism_translation.proofs.OnlyIf
