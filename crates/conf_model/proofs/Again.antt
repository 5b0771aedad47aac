pub mod Spelled
pub mod Onto
pub mod Sets
pub mod PlainWords
pub mod PlainParts
pub mod ValuesAgain
pub mod BlocksAgain
pub mod StatementsAgain
