mod Gathering
mod Kept
pub mod Monitored
mod RewardSums
mod Listed
pub use Rattle.jani_translation.proofs.Clean
pub use Rattle.jani_translation.proofs.Each
pub use Rattle.jani_translation.proofs.Fresh
