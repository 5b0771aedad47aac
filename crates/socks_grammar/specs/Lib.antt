pub mod Dialogue
pub mod Equal
pub mod Fronts
pub mod Grammar
pub mod Handshake
pub mod Prefixes
pub mod Stable
pub mod Users
