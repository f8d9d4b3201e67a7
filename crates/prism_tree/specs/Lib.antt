pub mod Operators
pub mod OperatorLaws
pub mod Syntax
pub mod Lang
pub mod Grammar
pub mod Faults
pub mod Laws
pub mod AlikeLaws
