pub mod Orders
pub mod Lookups
pub mod Lanes
pub mod Holds
pub mod Answered
