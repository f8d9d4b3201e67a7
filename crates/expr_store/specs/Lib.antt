pub mod Nodes
pub mod NodeLaws
pub mod Alike
pub mod Views
pub mod Kept
pub mod Rest
