pub mod Names
pub mod Least
pub mod Doubled
pub mod Uses
pub mod Unknown
pub mod Circles
pub mod Rounds
