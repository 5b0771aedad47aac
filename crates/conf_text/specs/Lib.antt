pub mod Words
pub mod Statements
pub mod Tokens
pub mod Reading
pub mod Laws
