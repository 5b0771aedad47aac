pub mod Places
pub mod Linking
pub mod Walking
pub mod Classes
pub mod Candidates
