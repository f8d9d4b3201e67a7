pub mod NameLaws
pub mod TypeLaws
pub mod ProfileLaws
pub mod MeaningLaws
pub mod SameMeaning
