pub mod Ends
pub mod Lists
pub mod Rules
pub mod Shares
