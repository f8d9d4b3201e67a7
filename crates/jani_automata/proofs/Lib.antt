pub use Rattle.jani_edges.proofs.Clean
pub use Rattle.jani_edges.proofs.Each
pub use Rattle.jani_edges.proofs.Fresh
