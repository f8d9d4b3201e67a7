pub mod ToPrism
pub mod Laws
pub mod Code
