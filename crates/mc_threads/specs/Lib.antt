pub mod Accounts
pub mod Workers
pub mod Causes
pub mod Links
pub mod Starts
pub mod Talks
