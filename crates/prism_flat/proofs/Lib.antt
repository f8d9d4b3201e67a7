pub mod Contents
mod Examples
pub use Rattle.prism_rewriter.proofs.Steps
pub use Rattle.prism_print.proofs.Stands
