pub mod CauseTexts
pub mod Endings
pub mod Numbers
