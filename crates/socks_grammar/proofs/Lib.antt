pub mod GrammarLaws
pub mod Exact
