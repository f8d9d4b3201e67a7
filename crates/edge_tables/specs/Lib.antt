pub mod Tables
pub mod Counts
pub mod Places
pub mod Code
pub use Rattle.prism_translation.specs.Elements
pub use Rattle.prism_translation.specs.Modules
pub use Rattle.prism_translation.specs.Parts
pub use Rattle.prism_translation.specs.Targets
