pub mod Loops
pub mod Elements
pub mod Scene
pub mod Moment
pub mod Process
pub mod Laws
pub mod LoopLaws
