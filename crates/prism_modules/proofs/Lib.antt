mod ByServing
pub use Rattle.module_parts.proofs.ByPlaces
pub use Rattle.module_parts.proofs.Kept
