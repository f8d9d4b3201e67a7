pub mod JaniFiles
pub mod Once
pub mod PrismFiles
pub mod ReadAgain
