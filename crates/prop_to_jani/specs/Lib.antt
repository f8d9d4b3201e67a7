pub mod ToJani
pub mod Laws
pub mod Code
pub mod ReadBack
