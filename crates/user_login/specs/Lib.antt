pub mod Messages
pub mod UsersFile
pub mod Checking
pub mod Laws
