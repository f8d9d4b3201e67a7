pub mod ByPlaces
pub mod Kept
pub mod OwnEdges
pub mod Singles
mod EntryClasses
mod WritersOf
