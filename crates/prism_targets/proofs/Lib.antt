mod ElementsServe
mod Standing
mod Soonest
pub use Rattle.edge_tables.proofs.Positions
pub use Rattle.prism_translation.proofs.Apart
pub mod Crowded
mod Looping
