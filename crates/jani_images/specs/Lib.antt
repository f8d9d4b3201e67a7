pub mod Image
pub mod Nodes
pub mod Laws
