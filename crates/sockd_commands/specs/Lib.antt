pub mod ConfFile
pub mod Quick
pub mod Whole
pub mod Words
