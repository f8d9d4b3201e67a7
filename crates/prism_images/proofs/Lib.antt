pub mod Values
pub mod Typed
pub mod Types
pub mod Form
pub mod Examples
pub mod Bare
