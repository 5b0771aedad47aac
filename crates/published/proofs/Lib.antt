pub mod Publishing
pub mod Each
pub mod Kept
pub mod ListFacts
pub mod Steps
