pub mod ShortNames
pub mod Laws
pub mod TranslationLaws
