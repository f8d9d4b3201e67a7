mod Finished
pub mod ConstantLaws
pub mod Meaning
pub mod Once
pub mod Printed
pub mod Demanding
pub mod Clean
