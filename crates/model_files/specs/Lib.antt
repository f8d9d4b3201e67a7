pub mod JaniFile
pub mod Once
pub mod PrismFile
pub mod ReadAgain
