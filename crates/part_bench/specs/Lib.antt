pub mod Point
pub mod PointLaws
