pub mod Translation
pub mod WithProperties
pub mod JaniProperties
pub mod Once
pub use Rattle.prop_check.specs.Read
pub use Rattle.prop_check.specs.Laws
pub use Rattle.jani_props.specs.Reading
