pub mod Text
pub mod Parts
pub mod Printable
pub mod Same
pub mod Laws
pub mod Comments
