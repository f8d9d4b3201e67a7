pub mod Code
pub mod Gathered
pub mod Homes
pub mod Writers
pub use Rattle.edge_tables.specs.declared.places.Places
pub use Rattle.jani_images.specs.Image
