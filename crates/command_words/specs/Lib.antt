pub mod Numbers
pub mod Given
pub mod Words
pub mod Fronts
