pub mod Carried
pub mod Texts
pub mod Kept
pub mod Chosen
pub mod Index
pub mod Written
