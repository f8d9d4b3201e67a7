mod Examples
pub mod Append
pub mod Parts
pub mod Known
pub mod First
pub mod Misfits
pub mod Anys
pub mod SameRewards
pub mod KeptRewards
pub mod Growing
pub mod Givens
pub mod Taking
pub mod SameCircles
pub mod Phases
pub mod Few
pub mod Bare
pub mod Profiled
